use Rattle.semantics.proofs.LikeRuns.{shows_read_places}
use Rattle.semantics.proofs.laws.values.shows_read_places_stands.Goals as goal

pub returns : goal.returns
returns g c = shows_read_places _
