use Rattle.semantics.proofs.Likes.{value_reads_places}
use Rattle.semantics.proofs.laws.values.value_reads_places_stands.Goals as goal

pub returns : goal.returns
returns g c = value_reads_places _
