use Rattle.semantics.proofs.Parts.{part_of_part_alike}
use Rattle.semantics.proofs.laws.parts.part_of_part_alike_stands.Goals as goal

pub returns : goal.returns
returns g c = part_of_part_alike _
