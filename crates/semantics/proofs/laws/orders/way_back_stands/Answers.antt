use Rattle.semantics.proofs.Orders.{way_back_is_order}
use Rattle.semantics.proofs.laws.orders.way_back_stands.Goals as goal

pub returns : goal.returns
returns c = way_back_is_order
