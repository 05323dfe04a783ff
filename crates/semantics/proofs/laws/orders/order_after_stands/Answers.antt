use Rattle.semantics.proofs.Orders.{order_after_is_order}
use Rattle.semantics.proofs.laws.orders.order_after_stands.Goals as goal

pub returns : goal.returns
returns c = order_after_is_order
