use Rattle.semantics.proofs.Parts.{part_places}
use Rattle.semantics.proofs.laws.parts.part_places_stands.Goals as goal

pub returns : goal.returns
returns c = part_places
