use Rattle.std.proofs.Common.{◌≡◌, ◌<◌, length, get_or, take, pos, sym, refl, ap, ◌∙◌, arith, length-set, get_or-take, w64, rules}
use Rattle.std.proofs.lemmas.List.{take_all, length-take-le}
use Rattle.std.proofs.lemmas.Int.{to_z-of_z}
use Rattle.semantics.specs.Orders.{is_order}
use Rattle.semantics.specs.OrderLaws.{turned_strides}
use Rattle.semantics.proofs.Orders.{ordered}
use Rattle.encoding.specs.ShapeOf.{shape_of}
use Rattle.views.proofs.Turns.{turned_strides_more, turn_sees, turn_holds}
use Rattle.views.proofs.transpose.transpose.Goals as goal

pub loop-axis-init : goal.loop-axis-init
unfolding turned_strides
loop-axis-init c = (refl, refl)

pub bounds-view-old : goal.bounds-view-old
bounds-view-old c =
    let o = ordered c.args.order.now c.args.view.shape.rank c.requires.order in
    omega (arith, o.below c.loop-axis.axis (omega (arith, o.long)), c.args.view.shape.few)

pub bounds-strides-axis : goal.bounds-strides-axis
bounds-strides-axis c = omega (arith, (ordered c.args.order.now c.args.view.shape.rank c.requires.order).long, c.args.view.shape.few)

pub loop-axis-preserved : goal.loop-axis-preserved
loop-axis-preserved c =
    let v = c.args.view in
    let os = c.args.order.now in
    let k = c.loop-axis.axis in
    let rank = v.shape.rank in
    let o = ordered os rank c.requires.order in
    let there : k < length os = omega arith in
    let axis : get_or os k 0 < rank = o.below k (omega (arith, o.long)) in
    let in-strides : k < length c.loop-axis.strides = omega (arith, o.long, v.shape.few) in (
      simp length-set c.loop-axis.invariant.0,
      turned_strides_more os (take rank v.strides) c.loop-axis.strides k _ there in-strides c.loop-axis.invariant.1
          (to_z-of_z w64 _ (search rules) ∙ sym (get_or-take rank v.strides (get_or os k 0) (pos 0) axis)),
    )

pub transposed-requires : goal.transposed-requires
transposed-requires c =
    let v = c.args.view in
    let long : length (shape_of v.shape) ≡ v.shape.rank = length-take-le v.shape.rank v.shape.lens (omega (arith, v.shape.few)) in
    ap (is_order c.args.order.now) long ∙ c.requires.order

pub returns : goal.returns
returns c =
    let v = c.args.view in
    let os = c.args.order.now in
    let k = c.loop-axis.axis in
    let rank = v.shape.rank in
    let o = ordered os rank c.requires.order in
    let all : k ≡ length os = omega arith in
    let whole : take k os ≡ os = take_all k os (omega arith) in
    let long : length (shape_of v.shape) ≡ rank = length-take-le rank v.shape.lens (omega (arith, v.shape.few)) in
    let sees = turn_sees v _ os c.requires.good (ap (is_order os) long ∙ c.requires.order) (omega (arith, v.shape.few)) c.transposed.ensures refl refl refl refl
    (ap (λ n. take n c.loop-axis.strides) (sym all) ∙ (c.loop-axis.invariant.1 ∙ (ap (λ qs. turned_strides qs (take rank v.strides)) whole ∙ ap (λ n. turned_strides os (take n v.strides)) (sym long))))
    in
    record { sees = sees; holds = λ area bs a h. turn_holds os h sees }
