use Rattle.semantics.proofs.Parts.{part_places_back}
use Rattle.semantics.proofs.laws.parts.part_places_back_stands.Goals as goal

pub returns : goal.returns
returns c = part_places_back
