use Rattle.std.proofs.Common.{◌≡◌, length, take}
use Rattle.semantics.specs.OrderLaws.{turned_strides}
use Rattle.views.proofs.transpose.transpose.Given as goal

abbrev pub invariant-loop-axis : goal.invariant-loop-axis
invariant-loop-axis l =
    (length l.strides ≡ 8) × (take l.axis l.strides ≡ turned_strides (take l.axis l.order) (take l.view.shape.rank l.view.strides))
