use Rattle.semantics.specs.Orders.{turned}
use Rattle.encoding.specs.ShapeOf.{shape_of}
use Rattle.encoding.proofs.Filling.{Filled}
use Rattle.encoding.proofs.orders.transposed.Given as goal

abbrev pub invariant-loop-axis : goal.invariant-loop-axis
invariant-loop-axis l = Filled l.axis l.lens (turned l.order (shape_of l.shape))
