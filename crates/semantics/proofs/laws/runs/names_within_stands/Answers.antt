use Rattle.semantics.proofs.Runs.{names_within}
use Rattle.semantics.proofs.laws.runs.names_within_stands.Goals as goal

pub returns : goal.returns
returns g c = names_within _
