use Rattle.semantics.proofs.Orders.{turned_places}
use Rattle.semantics.proofs.laws.orders.turned_places_stands.Goals as goal

pub returns : goal.returns
returns c = turned_places
