use Rattle.std.proofs.Common.{refl, ap, arith}
use Rattle.semantics.specs.Shapes.{size}
use Rattle.semantics.specs.Arrays.{both_array}
use Rattle.semantics.specs.Values.{on_both}
use Rattle.numbers.specs.Operations.{binary64}
use Rattle.reference.specs.ArrayOf.{array_of}
use Rattle.reference.specs.Right.{right_fault}
use Rattle.reference.proofs.Rights.{right_if, right_else, right_too_many, right_taken, right_refusal, right_wanting, refused_as}
use Rattle.reference.proofs.task.Task.apply_both.Goals as goal

pub returns-in_err-shape : goal.returns-in_err-shape
unfolding on_both
returns-in_err-shape c =
    let none = rw c.in_err-shape.ensures.ok_part at c.broadcast.ensures in
    right_refusal c.from_residual.result c.from_residual.ensures.1 (refused_as c.broadcast.result _ _ c.in_err-shape.ensures.ok_part c.in_err-shape.ensures.value)
    (right_else _ _ _ none (right_fault refl))

pub returns-in_err-count : goal.returns-in_err-count
unfolding on_both both_array
returns-in_err-count c =
    let w = rw c.in_ok-shape.ensures.ok_part at c.broadcast.ensures in
    right_refusal c.from_residual-in_err-count.result c.from_residual-in_err-count.ensures.1 c.in_err-count.ensures.0
    (right_if _ _ _ w.0
    (right_too_many c.args.self.now.places c.args.taken (both_array binary64 c.args.op (array_of c.args.first.now) (array_of c.args.second.now)) (omega (arith, c.in_err-count.ensures.1, ap size w.1))))

pub returns : goal.returns
unfolding on_both both_array
returns c =
    let w = rw c.in_ok-shape.ensures.ok_part at c.broadcast.ensures in
    let n = c.in_ok-count.ensures in
    right_if _ _ _ w.0
    (right_taken c.args.self.now.places c.args.taken (both_array binary64 c.args.op (array_of c.args.first.now) (array_of c.args.second.now)) _ c.in_ok-array.ensures (omega (arith, n.0, ap size w.1)) n.1)

pub returns-in_err-array : goal.returns-in_err-array
returns-in_err-array c = right_wanting c.from_residual-in_err-array.result c.from_residual-in_err-array.ensures.1
