use Rattle.std.proofs.Common.{◌≡◌, ◌<◌, false, map, length, get_or, take, pos, sym, refl, ap, ◌∙◌, arith, length-set, w64, SFits, rules}
use Rattle.std.proofs.lemmas.List.{take_all}
use Rattle.std.proofs.lemmas.Int.{to_z-of_z}
use Rattle.semantics.specs.Slices.{part_of}
use Rattle.views.specs.Slicing.{part_stride, part_strides}
use Rattle.views.proofs.Slices.{part_strides_more}
use Rattle.views.proofs.slice.strides_of_slices.Goals as goal

pub loop-axis-init : goal.loop-axis-init
unfolding part_strides
loop-axis-init c = (refl, refl)

pub loop-axis-preserved : goal.loop-axis-preserved
loop-axis-preserved c =
    let k = c.loop-axis.axis in
    let f : SFits w64 (get_or c.args.strides k (pos 0)) = search rules in
    let g : SFits w64 c.stride_of_slice.result = search rules in
    let low : k < length c.loop-axis.all = omega arith in (
      simp length-set c.loop-axis.invariant.0,
      part_strides_more c.args.slices.now c.args.strides c.loop-axis.all k (record { from = 0; backward = false; step = 0; many = 0 }) _ (omega arith) (omega arith) low c.loop-axis.invariant.1
          (to_z-of_z w64 c.stride_of_slice.result g ∙ (c.stride_of_slice.ensures ∙ ap (part_stride (part_of (get_or c.args.slices.now k (record { from = 0; backward = false; step = 0; many = 0 })))) (to_z-of_z w64 (get_or c.args.strides k (pos 0)) f))),
    )

pub returns : goal.returns
returns c =
    let n = length c.args.slices.now in
    let all : c.loop-axis.axis ≡ n = omega arith in
    ap (λ k. take k c.loop-axis.all) (sym all) ∙ (c.loop-axis.invariant.1 ∙ ap (λ ps. part_strides (map part_of ps) c.args.strides) (take_all c.loop-axis.axis c.args.slices.now c.loop-axis-test.false))
