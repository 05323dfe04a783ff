use Rattle.std.proofs.Common.{◌≡◌, ◌<◌, map, length, take, sym, refl, ap, ◌∙◌, arith, length-set}
use Rattle.std.proofs.lemmas.List.{take_all}
use Rattle.semantics.specs.Slices.{part_of}
use Rattle.views.specs.Slicing.{froms}
use Rattle.views.proofs.Slices.{froms_more}
use Rattle.views.proofs.slice.first_of_slices.Goals as goal

pub loop-axis-init : goal.loop-axis-init
unfolding froms
loop-axis-init c = (refl, refl)

pub loop-axis-preserved : goal.loop-axis-preserved
loop-axis-preserved c =
    let low : c.loop-axis.axis < length c.loop-axis.first = omega arith in
    (simp length-set c.loop-axis.invariant.0, froms_more c.args.slices.now c.loop-axis.first c.loop-axis.axis _ (omega arith) low c.loop-axis.invariant.1)

pub returns : goal.returns
returns c =
    let n = length c.args.slices.now in
    let all : c.loop-axis.axis ≡ n = omega arith in
    ap (λ k. take k c.loop-axis.first) (sym all) ∙ (c.loop-axis.invariant.1 ∙ ap (λ ps. froms (map part_of ps)) (take_all c.loop-axis.axis c.args.slices.now c.loop-axis-test.false))
