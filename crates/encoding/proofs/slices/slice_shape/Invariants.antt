use Rattle.semantics.specs.Parts.{part_shape}
use Rattle.semantics.specs.Slices.{parts_of}
use Rattle.encoding.proofs.Filling.{Filled}
use Rattle.encoding.proofs.slices.slice_shape.Given as goal

abbrev pub invariant-loop-axis : goal.invariant-loop-axis
invariant-loop-axis l = Filled l.axis l.lens (part_shape (parts_of l.slices))
