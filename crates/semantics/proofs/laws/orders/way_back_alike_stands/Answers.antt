use Rattle.semantics.proofs.Orders.{way_back_alike}
use Rattle.semantics.proofs.laws.orders.way_back_alike_stands.Goals as goal

pub returns : goal.returns
returns g c = way_back_alike _
