use Rattle.std.proofs.Common.{◌≡◌, map, length, take}
use Rattle.semantics.specs.Slices.{part_of}
use Rattle.views.specs.Slicing.{froms}
use Rattle.views.proofs.slice.first_of_slices.Given as goal

abbrev pub invariant-loop-axis : goal.invariant-loop-axis
invariant-loop-axis l = (length l.first ≡ 8) × (take l.axis l.first ≡ froms (map part_of (take l.axis l.slices)))
