use Rattle.std.proofs.Common.{◌+◌, ◌-◌, ◌%◌, ◌<◌, ◌≤◌, [], ◌∷◌, take, sym, subst, arith}
use Rattle.std.proofs.lemmas.Nat.{mod_below}
use Rattle.semantics.specs.Shapes.{size}
use Rattle.encoding.specs.ShapeOf.{shape_of}
use Rattle.kernels.specs.Operands.{ViewRun}
use Rattle.kernels.proofs.Numbering.{last_some}
use Rattle.kernels.proofs.InPlace.{size_one, row_shift}
use Rattle.kernels.proofs.runs.row_run.Goals as goal

pub nonzero_rem-column : goal.nonzero_rem-column
nonzero_rem-column c = last_some _ _ c.args.first (subst (λ w. c.args.first < size w) c.last_length-len.ensures (omega arith))

pub overflow_sub-len : goal.overflow_sub-len
overflow_sub-len c =
    let any = last_some _ _ c.args.first (subst (λ w. c.args.first < size w) c.last_length-len.ensures (omega arith)) in
    omega (arith, mod_below c.args.first c.last_length-len.result any)

pub packed_run-requires : goal.packed_run-requires
packed_run-requires c =
    let d = c.last_length-len.result in
    let few : c.args.first % d + c.args.count ≤ size (d ∷ []) = omega (arith, size_one d) in
    record {
      good = c.requires.good;
      there = c.requires.there;
      packed = c.is_packed.ensures.0 c.if-not-is_packed.false;
      within = subst (λ w. c.args.first % d + c.args.count ≤ size w) (sym (c.is_row.ensures c.if-not-is_row.false)) few;
      any = c.requires.any;
    }

pub returns : goal.returns
returns c =
    let d = c.last_length-len.result in
    let axes = c.last_length-len.ensures in
    subst (λ w. ViewRun c.args.env.now.lent.area.now c.args.env.now.lent.bytes.now c.args.view.now w c.args.first c.args.count c.packed_run.result) (sym axes)
    (row_shift (take (c.args.env.now.shape.rank - 1) (shape_of c.args.env.now.shape)) d c.args.first (c.is_row.ensures c.if-not-is_row.false) (subst (λ w. c.args.first < size w) axes (omega arith)) (omega arith) c.packed_run.ensures)
