use Rattle.std.proofs.Common.{◌≡◌, ◌<◌, length, get_or, take, sym, refl, ap, ◌∙◌, arith}
use Rattle.std.proofs.lemmas.List.{length-take-le, get_or-take}
use Rattle.semantics.proofs.Orders.{ordered, length_turned, get_d_turned}
use Rattle.encoding.specs.ShapeOf.{shape_of}
use Rattle.encoding.proofs.Filling.{filled_none, filled_more, filled_all}
use Rattle.encoding.proofs.orders.transposed.Goals as goal

pub loop-axis-init : goal.loop-axis-init
loop-axis-init c = filled_none _ _ refl

pub bounds-shape-old : goal.bounds-shape-old
bounds-shape-old c =
    let s = c.args.shape.now in
    let long : length (shape_of s) ≡ s.rank = length-take-le s.rank s.lens (omega arith) in
    let o = ordered c.args.order.now (length (shape_of s)) c.requires in
    omega (arith, o.below c.loop-axis.axis (omega (arith, o.long)))

pub bounds-lens-axis : goal.bounds-lens-axis
bounds-lens-axis c =
    let s = c.args.shape.now in
    let long : length (shape_of s) ≡ s.rank = length-take-le s.rank s.lens (omega arith) in
    omega (arith, (ordered c.args.order.now (length (shape_of s)) c.requires).long)

pub loop-axis-preserved : goal.loop-axis-preserved
loop-axis-preserved c =
    let s = c.args.shape.now in
    let os = c.args.order.now in
    let k = c.loop-axis.axis in
    let long : length (shape_of s) ≡ s.rank = length-take-le s.rank s.lens (omega arith) in
    let o = ordered os (length (shape_of s)) c.requires in
    let below = o.below k (omega (arith, o.long)) in
    let there : k < length os = omega arith in
    filled_more _ c.loop-axis.invariant (omega (arith, o.long)) (sym (get_d_turned os (shape_of s) k there ∙ get_or-take s.rank s.lens (get_or os k 0) 0 (omega arith)))

pub returns : goal.returns
returns c =
    let s = c.args.shape.now in
    let os = c.args.order.now in
    let long : length (shape_of s) ≡ s.rank = length-take-le s.rank s.lens (omega arith) in
    let o = ordered os (length (shape_of s)) c.requires in
    let all : c.loop-axis.axis ≡ s.rank = omega (arith, o.long) in
    ap (λ r. take r c.loop-axis.lens) (sym all) ∙ filled_all c.loop-axis.invariant (omega arith) (length_turned os (shape_of s) ∙ (o.long ∙ (long ∙ sym all)))
