use Rattle.semantics.proofs.Parts.{part_of_part_is_part}
use Rattle.semantics.proofs.laws.parts.part_of_part_stands.Goals as goal

pub returns : goal.returns
returns c = part_of_part_is_part
