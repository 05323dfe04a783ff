use Rattle.encoding.specs.ShapeOf.{shape_of}
use Rattle.encoding.proofs.Widening.{Widening}
use Rattle.encoding.proofs.broadcast.broadcast_shape.Given as goal

abbrev pub invariant-loop-k : goal.invariant-loop-k
invariant-loop-k l = Widening (shape_of l.left) (shape_of l.right) l.lens l.rank l.k
