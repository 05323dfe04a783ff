use Rattle.std.proofs.Common.{◌≤◌, length, Ok, sym, refl, ap, subst, arith}
use Rattle.std.proofs.lemmas.Bool.{lt-leb, le-leb}
use Rattle.semantics.specs.Shapes.{size}
use Rattle.semantics.specs.Arrays.{shape_array}
use Rattle.semantics.specs.Values.{made, on_shape}
use Rattle.encoding.specs.ShapeOf.{shape_of}
use Rattle.reference.specs.ArrayOf.{array_of}
use Rattle.reference.specs.Right.{Right, right_fault}
use Rattle.reference.proofs.Rights.{right_if, right_else, right_too_many, right_taken, right_refusal, right_wanting, refused_as}
use Rattle.reference.proofs.Measured.{length_shape}
use Rattle.reference.proofs.task.Task.apply_lengths.Goals as goal

pub returns-then-not-sizes_match : goal.returns-then-not-sizes_match
unfolding on_shape
returns-then-not-sizes_match c p = right_else _ _ _ (sym c.if-not-sizes_match.ensures) (right_fault refl)

pub returns-in_err-shape : goal.returns-in_err-shape
unfolding on_shape
returns-in_err-shape c p =
    let none = rw c.in_err-shape.ensures.ok_part at c.new.ensures in
    right_refusal c.from_residual.result c.from_residual.ensures.1 (refused_as c.new.result _ _ c.in_err-shape.ensures.ok_part c.in_err-shape.ensures.value)
    (right_if _ _ _ (sym c.if-not-sizes_match.ensures) (right_else _ _ _ (lt-leb _ _ none) (right_fault refl)))

pub returns-in_err-count : goal.returns-in_err-count
unfolding on_shape shape_array
returns-in_err-count c p =
    let s = rw c.in_ok-shape.ensures.ok_part at c.new.ensures in
    let few : length c.args.lens.now ≤ 8 = omega (arith, ap length s, length_shape c.in_ok-shape.shape) in
    right_refusal c.from_residual-in_err-count.result c.from_residual-in_err-count.ensures.1 c.in_err-count.ensures.0
    (right_if _ _ _ (sym c.if-not-sizes_match.ensures)
    (right_if _ _ _ (le-leb _ _ few)
    (right_too_many c.args.self.now.places c.args.taken (shape_array c.args.lens.now (array_of c.args.array.now)) (omega (arith, c.in_err-count.ensures.1, ap size s)))))

pub returns : goal.returns
unfolding on_shape shape_array
returns c p =
    let s = rw c.in_ok-shape.ensures.ok_part at c.new.ensures in
    let few : length c.args.lens.now ≤ 8 = omega (arith, ap length s, length_shape c.in_ok-shape.shape) in
    let n = c.in_ok-count.ensures in
    let a = array_of c.args.array.now in
    let shaped = right_taken c.args.self.now.places c.args.taken (shape_array (shape_of c.in_ok-shape.shape) a) _ c.in_ok-array.ensures n.0 n.1 in
    right_if _ _ _ (sym c.if-not-sizes_match.ensures)
    (right_if _ _ _ (le-leb _ _ few)
    (subst (λ l. Right (made c.args.self.now.places c.args.taken (shape_array l a)) (Ok (record { array = c.in_ok-array.array; count = c.in_ok-count.count }))) s shaped))

pub returns-in_err-array : goal.returns-in_err-array
returns-in_err-array c p = right_wanting c.from_residual-in_err-array.result c.from_residual-in_err-array.ensures.1
