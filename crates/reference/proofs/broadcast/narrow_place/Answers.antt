use Rattle.std.proofs.Common.{◌≡◌, ◌+◌, ◌-◌, eqb, length, get_or, take, sym, ap, ◌∙◌, arith}
use Rattle.std.proofs.lemmas.List.{length-take-le, get_or-take}
use Rattle.semantics.specs.Shapes.{pick}
use Rattle.semantics.specs.Broadcast.{narrow}
use Rattle.reference.proofs.Broadcasting.{length_narrow, get_d_narrow}
use Rattle.encoding.proofs.Filling.{filled_more, filled_all}
use Rattle.reference.proofs.broadcast.narrow_place.Goals as goal

pub loop-k-preserved : goal.loop-k-preserved
loop-k-preserved c =
    let s = c.args.shape.now in
    let p = c.args.place.now in
    let k = c.loop-k.k in
    let many = ap length c.lengths-len-items.ensures in
    let l : length (take s.rank s.lens) ≡ s.rank = length-take-le s.rank s.lens (omega arith) in
    let m : length (take p.rank p.indices) ≡ p.rank = length-take-le p.rank p.indices (omega arith) in
    let a = get_d_narrow k (take s.rank s.lens) (take p.rank p.indices) (omega arith) (omega arith) in
    let d = sym (ap (λ x. get_or x k 0) c.lengths-len-items.ensures) in
    let n : length (take p.rank p.indices) - length (take s.rank s.lens) ≡ p.rank - s.rank = omega arith in
    let i = ap (λ x. get_or (take p.rank p.indices) (x + k) 0) n ∙ get_or-take p.rank p.indices (p.rank - s.rank + k) 0 (omega arith) in
    let e = c.pin_index.ensures in
    filled_more c.pin_index.result c.loop-k.invariant (omega arith)
    (e ∙ (ap (λ x. pick (eqb x 1) 0 (get_or p.indices (p.rank - s.rank + k) 0)) (sym d) ∙ (ap (λ x. pick (eqb (get_or (take s.rank s.lens) k 0) 1) 0 x) (sym i) ∙ sym a)))

pub returns : goal.returns
returns c =
    let s = c.args.shape.now in
    let p = c.args.place.now in
    let l : length (take s.rank s.lens) ≡ s.rank = length-take-le s.rank s.lens (omega arith) in
    let m : length (take p.rank p.indices) ≡ p.rank = length-take-le p.rank p.indices (omega arith) in
    let many = ap length c.lengths-len-items.ensures in
    let all : c.loop-k.k ≡ s.rank = omega arith in
    let long : length (narrow (take s.rank s.lens) (take p.rank p.indices)) ≡ c.loop-k.k = omega (arith, length_narrow (take s.rank s.lens) (take p.rank p.indices) (omega arith)) in
    ap (λ r. take r c.loop-k.indices) (sym all) ∙ filled_all c.loop-k.invariant (omega arith) long
