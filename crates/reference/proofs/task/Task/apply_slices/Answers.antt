use Rattle.std.proofs.Common.{sym, refl, ap, arith}
use Rattle.std.proofs.lemmas.List.{length-map}
use Rattle.semantics.specs.Shapes.{size}
use Rattle.semantics.specs.Arrays.{part_array}
use Rattle.semantics.specs.Values.{on_part}
use Rattle.reference.specs.ArrayOf.{array_of}
use Rattle.semantics.specs.Slices.{part_of, parts_of}
use Rattle.reference.specs.Right.{right_fault}
use Rattle.reference.proofs.Rights.{right_if, right_else, right_too_many, right_taken, right_refusal, right_wanting}
use Rattle.reference.proofs.Measured.{length_shape, length_fit}
use Rattle.reference.proofs.task.Task.apply_slices.Goals as goal

pub returns-then-not-slices_fit : goal.returns-then-not-slices_fit
unfolding on_part
returns-then-not-slices_fit c = right_else _ _ _ (sym c.if-not-slices_fit.ensures) (right_fault refl)

pub slice_shape-shape-requires : goal.slice_shape-shape-requires
slice_shape-shape-requires c =
    omega (arith, length_fit (parts_of c.args.list.now) _ (sym c.if-not-slices_fit.ensures), length-map c.args.list.now part_of, length_shape c.args.array.now.shape)

pub returns-in_err-count : goal.returns-in_err-count
unfolding on_part part_array
returns-in_err-count c =
    right_refusal c.from_residual.result c.from_residual.ensures.1 c.in_err-count.ensures.0
    (right_if _ _ _ (sym c.if-not-slices_fit.ensures)
    (right_too_many c.args.self.now.places c.args.taken (part_array (parts_of c.args.list.now) (array_of c.args.array.now)) (omega (arith, c.in_err-count.ensures.1, ap size c.slice_shape-shape.ensures))))

pub returns : goal.returns
unfolding on_part part_array
returns c =
    let n = c.in_ok-count.ensures in
    right_if _ _ _ (sym c.if-not-slices_fit.ensures)
    (right_taken c.args.self.now.places c.args.taken (part_array (parts_of c.args.list.now) (array_of c.args.array.now)) _ c.in_ok-array.ensures (omega (arith, n.0, ap size c.slice_shape-shape.ensures)) n.1)

pub returns-in_err-array : goal.returns-in_err-array
returns-in_err-array c = right_wanting c.from_residual-in_err-array.result c.from_residual-in_err-array.ensures.1
