use Rattle.semantics.proofs.Orders.{order_after_alike}
use Rattle.semantics.proofs.laws.orders.order_after_alike_stands.Goals as goal

pub returns : goal.returns
returns g c = order_after_alike _
