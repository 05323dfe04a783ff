use Rattle.semantics.proofs.Places.{places_numbered}
use Rattle.semantics.proofs.laws.places.places_numbered_stands.Goals as goal

pub returns : goal.returns
returns c = places_numbered
