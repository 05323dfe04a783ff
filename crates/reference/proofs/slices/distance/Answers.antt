use Rattle.std.proofs.Common.{rules}
use Rattle.semantics.specs.Parts.{apart}
use Rattle.reference.proofs.slices.distance.Goals as goal

pub returns-then-slice : goal.returns-then-slice
unfolding apart
returns-then-slice c = search rules

pub returns-else-slice : goal.returns-else-slice
unfolding apart
returns-else-slice c = search rules
