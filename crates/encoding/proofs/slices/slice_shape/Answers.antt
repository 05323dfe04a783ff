use Rattle.std.proofs.Common.{◌≡◌, length, take, sym, refl, ap, ◌∙◌, arith}
use Rattle.encoding.proofs.Filling.{filled_none, filled_more, filled_all}
use Rattle.encoding.proofs.Parting.{length_part_shape, get_d_part_shape}
use Rattle.encoding.proofs.slices.slice_shape.Goals as goal

pub loop-axis-init : goal.loop-axis-init
loop-axis-init c = filled_none _ _ refl

pub loop-axis-preserved : goal.loop-axis-preserved
loop-axis-preserved c = filled_more _ c.loop-axis.invariant (omega arith) (sym (get_d_part_shape _ c.args.slices.now c.loop-axis.axis (omega arith)))

pub returns : goal.returns
returns c =
    let all : c.loop-axis.axis ≡ length c.args.slices.now = omega arith in
    ap (λ r. take r c.loop-axis.lens) (sym all) ∙ filled_all c.loop-axis.invariant (omega arith) (length_part_shape c.args.slices.now ∙ sym all)
