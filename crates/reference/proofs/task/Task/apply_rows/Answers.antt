use Rattle.std.proofs.Common.{◌≤◌, ◌++◌, length, drop, sym, refl, ap, arith}
use Rattle.std.proofs.lemmas.Bool.{lt-leb, le-leb}
use Rattle.semantics.specs.Shapes.{size}
use Rattle.semantics.specs.Arrays.{rows_array}
use Rattle.semantics.specs.Values.{on_rows}
use Rattle.numbers.specs.Operations.{binary64}
use Rattle.encoding.specs.ShapeOf.{shape_of}
use Rattle.reference.specs.ArrayOf.{array_of}
use Rattle.reference.specs.Right.{right_fault}
use Rattle.reference.proofs.Rights.{right_if, right_else, right_too_many, right_taken, right_refusal, right_wanting, refused_as}
use Rattle.reference.proofs.Measured.{length_shape}
use Rattle.reference.proofs.task.Task.apply_rows.Goals as goal

pub returns-then-not-has_axis : goal.returns-then-not-has_axis
unfolding on_rows
returns-then-not-has_axis c p = right_else _ _ _ (sym c.if-not-has_axis.ensures) (right_fault refl)

pub returns-then-not-rows_exist : goal.returns-then-not-rows_exist
unfolding on_rows
returns-then-not-rows_exist c p =
    right_if _ _ _ (sym c.if-not-has_axis.ensures) (right_else _ _ _ (sym c.if-not-rows_exist.ensures) (right_fault refl))

pub returns-in_err-shape : goal.returns-in_err-shape
unfolding on_rows rows_array
returns-in_err-shape c p =
    let none = rw c.in_err-shape.ensures.ok_part at c.gathered_shape.ensures in
    right_refusal c.from_residual.result c.from_residual.ensures.1 (refused_as c.gathered_shape.result _ _ c.in_err-shape.ensures.ok_part c.in_err-shape.ensures.value)
    (right_if _ _ _ (sym c.if-not-has_axis.ensures)
    (right_if _ _ _ (sym c.if-not-rows_exist.ensures) (right_else _ _ _ (lt-leb _ _ none) (right_fault refl))))

pub returns-in_err-count : goal.returns-in_err-count
unfolding on_rows rows_array
returns-in_err-count c p =
    let s = rw c.in_ok-shape.ensures.ok_part at c.gathered_shape.ensures in
    let few : length (shape_of c.args.found.now.shape ++ drop 1 (shape_of c.args.array.now.shape)) ≤ 8 = omega (arith, ap length s, length_shape c.in_ok-shape.shape) in
    right_refusal c.from_residual-in_err-count.result c.from_residual-in_err-count.ensures.1 c.in_err-count.ensures.0
    (right_if _ _ _ (sym c.if-not-has_axis.ensures)
    (right_if _ _ _ (sym c.if-not-rows_exist.ensures)
    (right_if _ _ _ (le-leb _ _ few)
    (right_too_many c.args.self.now.places c.args.taken (rows_array binary64 (array_of c.args.array.now) (array_of c.args.found.now)) (omega (arith, c.in_err-count.ensures.1, ap size s))))))

pub returns : goal.returns
unfolding on_rows rows_array
returns c p =
    let s = rw c.in_ok-shape.ensures.ok_part at c.gathered_shape.ensures in
    let few : length (shape_of c.args.found.now.shape ++ drop 1 (shape_of c.args.array.now.shape)) ≤ 8 = omega (arith, ap length s, length_shape c.in_ok-shape.shape) in
    let n = c.in_ok-count.ensures in
    right_if _ _ _ (sym c.if-not-has_axis.ensures)
    (right_if _ _ _ (sym c.if-not-rows_exist.ensures)
    (right_if _ _ _ (le-leb _ _ few)
    (right_taken c.args.self.now.places c.args.taken (rows_array binary64 (array_of c.args.array.now) (array_of c.args.found.now)) _ c.in_ok-array.ensures (omega (arith, n.0, ap size s)) n.1)))

pub returns-in_err-array : goal.returns-in_err-array
returns-in_err-array c p = right_wanting c.from_residual-in_err-array.result c.from_residual-in_err-array.ensures.1
