use Rattle.std.proofs.Common.{sym, refl, ap, arith}
use Rattle.semantics.specs.Shapes.{size}
use Rattle.semantics.specs.Arrays.{fold_array}
use Rattle.semantics.specs.Values.{on_fold}
use Rattle.numbers.specs.Operations.{binary64}
use Rattle.reference.specs.ArrayOf.{array_of}
use Rattle.reference.specs.Right.{right_fault}
use Rattle.reference.proofs.Rights.{right_if, right_else, right_too_many, right_taken, right_refusal, right_wanting}
use Rattle.reference.proofs.task.Task.apply_fold.Goals as goal

pub returns-then-not-has_axis : goal.returns-then-not-has_axis
unfolding on_fold
returns-then-not-has_axis c = right_else _ _ _ (sym c.if-not-has_axis.ensures) (right_fault refl)

pub returns-in_err-count : goal.returns-in_err-count
unfolding on_fold fold_array
returns-in_err-count c =
    right_refusal c.from_residual.result c.from_residual.ensures.1 c.in_err-count.ensures.0
    (right_if _ _ _ (sym c.if-not-has_axis.ensures)
    (right_too_many c.args.self.now.places c.args.taken (fold_array binary64 c.args.op c.args.axis (array_of c.args.array.now)) (omega (arith, c.in_err-count.ensures.1, ap size c.remove_axis-shape.ensures))))

pub returns : goal.returns
unfolding on_fold fold_array
returns c =
    let n = c.in_ok-count.ensures in
    right_if _ _ _ (sym c.if-not-has_axis.ensures)
    (right_taken c.args.self.now.places c.args.taken (fold_array binary64 c.args.op c.args.axis (array_of c.args.array.now)) _ c.in_ok-array.ensures (omega (arith, n.0, ap size c.remove_axis-shape.ensures)) n.1)

pub returns-in_err-array : goal.returns-in_err-array
returns-in_err-array c = right_wanting c.from_residual-in_err-array.result c.from_residual-in_err-array.ensures.1
