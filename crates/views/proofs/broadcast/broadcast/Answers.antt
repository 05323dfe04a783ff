use Rattle.std.proofs.Common.{◌≡◌, ◌-◌, length, ◌<◌, eqb, get_or, pos, ◌+ℤ◌, refl, ap, ◌∙◌, ap₂, arith, length-set, length-take, w64, SFits, to_z, of_z, rules}
use Rattle.semantics.specs.Shapes.{pick}
use Rattle.std.proofs.lemmas.Int.{to_z-of_z}
use Rattle.semantics.specs.Broadcast.{narrow}
use Rattle.semantics.proofs.Places.{inside_in, length_inside}
use Rattle.encoding.specs.ShapeOf.{shape_of}
use Rattle.views.specs.Views.{address}
use Rattle.views.proofs.Seeing.{sees_good}
use Rattle.views.proofs.Broadcasts.{spread_none, spread_more, spread_all, broadcast_holds}
use Rattle.views.proofs.broadcast.broadcast.Goals as goal

pub loop-axis-init : goal.loop-axis-init
loop-axis-init c = (refl, spread_none (c.args.shape.rank - c.args.view.shape.rank) (omega arith))

pub loop-axis-preserved : goal.loop-axis-preserved
loop-axis-preserved c =
    let v = c.args.view in
    let s = shape_of v.shape in
    let k = c.loop-axis.axis in
    let gap = c.args.shape.rank - v.shape.rank in
    let long = length-take v.shape.rank v.shape.lens in
    let listed = c.lengths-len-items.ensures in
    let low : k < v.shape.rank = omega (arith, ap length listed) in
    let f : SFits w64 (get_or v.strides k (pos 0)) = search rules in
    let g : SFits w64 c.pinned_stride.result = search rules in
    let put : to_z w64 (of_z w64 c.pinned_stride.result) ≡ pick (eqb (get_or s k 0) 1) (pos 0) (get_or v.strides k (pos 0))
    = to_z-of_z w64 c.pinned_stride.result g ∙ (c.pinned_stride.ensures ∙ ap₂ (λ d z. pick (eqb d 1) (pos 0) z) (ap (λ xs. get_or xs k 0) listed) (to_z-of_z w64 (get_or v.strides k (pos 0)) f))
    in
    let wide-few = c.requires.spread.few in
    let wide-long = length-take c.args.shape.rank c.args.shape.lens in (
      simp length-set c.loop-axis.invariant.0,
      spread_more gap k s v.strides c.loop-axis.strides _ (omega arith) (omega arith) (omega arith) c.loop-axis.invariant.1 put,
    )

pub returns : goal.returns
unfolding address
returns c =
    let v = c.args.view in
    let s = shape_of v.shape in
    let w = shape_of c.args.shape in
    let gap = c.args.shape.rank - v.shape.rank in
    let long = length-take v.shape.rank v.shape.lens in
    let wide-few = c.requires.spread.few in
    let wide-long = length-take c.args.shape.rank c.args.shape.lens in
    let all : c.loop-axis.axis ≡ length s = omega (arith, ap length c.lengths-len-items.ensures) in
    let sees = sees_good v _ w (narrow s) c.requires.good c.requires.good.begins refl refl refl refl c.requires.spread.inside
    (λ is h. ap (λ z. pos v.start +ℤ z) (spread_all gap c.loop-axis.axis s v.strides c.loop-axis.strides is all (omega (arith, all, length_inside (inside_in w is h))) c.loop-axis.invariant.1))
    in
    record { sees = sees; holds = λ area bs a h. broadcast_holds h sees }
