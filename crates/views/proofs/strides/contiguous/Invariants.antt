use Rattle.std.proofs.Common.{◌≡◌, length, take, drop}
use Rattle.semantics.specs.Shapes.{size}
use Rattle.encoding.specs.ShapeOf.{shape_of}
use Rattle.views.specs.Walking.{row_strides}
use Rattle.views.proofs.strides.contiguous.Given as goal

abbrev pub invariant-loop-k : goal.invariant-loop-k
invariant-loop-k l =
    (l.below ≡ size (drop l.k (shape_of l.shape))) × (drop l.k (take l.shape.rank l.strides) ≡ row_strides (drop l.k (shape_of l.shape))) × (length l.strides ≡ 8)
