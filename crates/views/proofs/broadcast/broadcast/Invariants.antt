use Rattle.std.proofs.Common.{◌≡◌, ◌+◌, length, take}
use Rattle.encoding.specs.ShapeOf.{shape_of}
use Rattle.views.specs.Broadcasting.{spread_strides}
use Rattle.views.proofs.broadcast.broadcast.Given as goal

abbrev pub invariant-loop-axis : goal.invariant-loop-axis
invariant-loop-axis l =
    (length l.strides ≡ 8) × (take (l.gap + l.axis) l.strides ≡ spread_strides l.gap (take l.axis (shape_of l.fn.view.shape)) (take l.axis l.fn.view.strides))
