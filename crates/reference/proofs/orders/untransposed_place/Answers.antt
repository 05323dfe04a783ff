use Rattle.std.proofs.Common.{◌≡◌, ◌<◌, length, get_or, take, sym, ap, ◌∙◌, arith}
use Rattle.std.proofs.lemmas.List.{length-take-le, get_or-take}
use Rattle.semantics.specs.Orders.{where_in}
use Rattle.semantics.proofs.Orders.{ordered, length_turned_back, get_d_turned_back}
use Rattle.reference.specs.IndicesOf.{indices_of}
use Rattle.encoding.proofs.Filling.{filled_more, filled_all}
use Rattle.reference.proofs.orders.untransposed_place.Goals as goal

pub offset_bounds-place-find_axis : goal.offset_bounds-place-find_axis
offset_bounds-place-find_axis c =
    let p = c.args.place.now in
    let long : length (indices_of p) ≡ p.rank = length-take-le p.rank p.indices (omega arith) in
    let o = ordered c.args.order.now (length (indices_of p)) c.requires.order in
    omega (arith, o.found_below c.loop-k.k (omega arith))

pub bounds-place-find_axis : goal.bounds-place-find_axis
bounds-place-find_axis c =
    let p = c.args.place.now in
    let long : length (indices_of p) ≡ p.rank = length-take-le p.rank p.indices (omega arith) in
    let o = ordered c.args.order.now (length (indices_of p)) c.requires.order in
    omega (arith, o.found_below c.loop-k.k (omega arith))

pub loop-k-preserved : goal.loop-k-preserved
loop-k-preserved c =
    let p = c.args.place.now in
    let os = c.args.order.now in
    let k = c.loop-k.k in
    let long : length (indices_of p) ≡ p.rank = length-take-le p.rank p.indices (omega arith) in
    let o = ordered os (length (indices_of p)) c.requires.order in
    let below = o.found_below k (omega arith) in
    let there : k < length os = omega (arith, o.long) in
    filled_more _ c.loop-k.invariant (omega arith)
    (ap (λ j. get_or p.indices j 0) c.find_axis.ensures ∙ sym (get_d_turned_back os (indices_of p) k there ∙ get_or-take p.rank p.indices (where_in k os) 0 (omega arith)))

pub returns : goal.returns
returns c =
    let p = c.args.place.now in
    let os = c.args.order.now in
    let long : length (indices_of p) ≡ p.rank = length-take-le p.rank p.indices (omega arith) in
    let o = ordered os (length (indices_of p)) c.requires.order in
    let all : c.loop-k.k ≡ p.rank = omega arith in
    ap (λ r. take r c.loop-k.indices) (sym all) ∙ filled_all c.loop-k.invariant (omega arith) (length_turned_back os (indices_of p) ∙ (o.long ∙ (long ∙ sym all)))
