use Rattle.semantics.proofs.Runs.{shown_stays}
use Rattle.semantics.proofs.laws.runs.shown_stays_stands.Goals as goal

pub returns : goal.returns
returns g c = shown_stays _
