use Rattle.std.proofs.Common.{sym, refl, ap, arith}
use Rattle.semantics.specs.Shapes.{size}
use Rattle.semantics.specs.Arrays.{turn_array}
use Rattle.semantics.specs.Values.{on_turn}
use Rattle.reference.specs.ArrayOf.{array_of}
use Rattle.reference.specs.Right.{right_fault}
use Rattle.reference.proofs.Rights.{right_if, right_else, right_too_many, right_taken, right_refusal, right_wanting}
use Rattle.reference.proofs.task.Task.apply_order.Goals as goal

pub returns-then-not-is_order : goal.returns-then-not-is_order
unfolding on_turn
returns-then-not-is_order c = right_else _ _ _ (rw c.rank.ensures at (sym c.if-not-is_order.ensures)) (right_fault refl)

pub returns-in_err-count : goal.returns-in_err-count
unfolding on_turn turn_array
returns-in_err-count c =
    right_refusal c.from_residual.result c.from_residual.ensures.1 c.in_err-count.ensures.0
    (right_if _ _ _ (rw c.rank.ensures at (sym c.if-not-is_order.ensures))
    (right_too_many c.args.self.now.places c.args.taken (turn_array c.args.order.now (array_of c.args.array.now)) (omega (arith, c.in_err-count.ensures.1, ap size c.transposed-shape.ensures))))

pub returns : goal.returns
unfolding on_turn turn_array
returns c =
    let n = c.in_ok-count.ensures in
    right_if _ _ _ (rw c.rank.ensures at (sym c.if-not-is_order.ensures))
    (right_taken c.args.self.now.places c.args.taken (turn_array c.args.order.now (array_of c.args.array.now)) _ c.in_ok-array.ensures (omega (arith, n.0, ap size c.transposed-shape.ensures)) n.1)

pub returns-in_err-array : goal.returns-in_err-array
returns-in_err-array c = right_wanting c.from_residual-in_err-array.result c.from_residual-in_err-array.ensures.1
