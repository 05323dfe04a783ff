use Rattle.semantics.proofs.LikeRuns.{run_reads_places}
use Rattle.semantics.proofs.laws.values.run_reads_places_stands.Goals as goal

pub returns : goal.returns
returns g c = run_reads_places _
