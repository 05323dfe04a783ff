use Rattle.std.proofs.Common.{rules}
use Rattle.semantics.specs.Parts.{place_of}
use Rattle.reference.proofs.slices.slice_index.Goals as goal

pub returns-then-slice : goal.returns-then-slice
unfolding place_of
returns-then-slice c = search rules

pub returns-else-slice : goal.returns-else-slice
unfolding place_of
returns-else-slice c = search rules
