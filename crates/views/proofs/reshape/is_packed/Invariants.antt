use Rattle.std.proofs.Common.{◌≡◌, ◌-◌, length, drop}
use Rattle.semantics.specs.Shapes.{size}
use Rattle.encoding.specs.ShapeOf.{shape_of}
use Rattle.views.specs.Walking.{RowMajor}
use Rattle.views.proofs.reshape.is_packed.Given as goal

abbrev pub invariant-loop-len : goal.invariant-loop-len
invariant-loop-len l =
    (l.below ≡ size (drop (l.fn.view.shape.rank - length l.yielded) (shape_of l.fn.view.shape)))
    × RowMajor (drop (l.fn.view.shape.rank - length l.yielded) (shape_of l.fn.view.shape)) (drop (l.fn.view.shape.rank - length l.yielded) l.fn.view.strides)
