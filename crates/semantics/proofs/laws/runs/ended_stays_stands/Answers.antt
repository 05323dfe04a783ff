use Rattle.semantics.proofs.Runs.{ended_stays}
use Rattle.semantics.proofs.laws.runs.ended_stays_stands.Goals as goal

pub returns : goal.returns
returns g c = ended_stays _
