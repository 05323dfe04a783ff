use Rattle.semantics.proofs.Bounds.{places_only_bound}
use Rattle.semantics.proofs.laws.runs.places_only_bound_stands.Goals as goal

pub returns : goal.returns
returns g c = places_only_bound _
