use Rattle.semantics.proofs.Orders.{order_entries}
use Rattle.semantics.proofs.laws.orders.order_entries_stands.Goals as goal

pub returns : goal.returns
returns c = order_entries
