use Rattle.std.proofs.Common.{◌≡◌, map, length, take}
use Rattle.semantics.specs.Slices.{part_of}
use Rattle.views.specs.Slicing.{part_strides}
use Rattle.views.proofs.slice.strides_of_slices.Given as goal

abbrev pub invariant-loop-axis : goal.invariant-loop-axis
invariant-loop-axis l = (length l.all ≡ 8) × (take l.axis l.all ≡ part_strides (map part_of (take l.axis l.slices)) l.strides)
