use Rattle.std.proofs.Common.{◌≡◌, ◌+◌, ◌-◌, ◌≤◌, ◌++◌, length, take, drop, set, sym, ap, ◌∙◌, arith, length-drop, length-set}
use Rattle.std.proofs.lemmas.List.{length-take-le}
use Rattle.reference.specs.IndicesOf.{indices_of}
use Rattle.reference.proofs.Cutting.{take_both, put_cut}
use Rattle.reference.proofs.place.axes.insert_index.Goals as goal

pub returns : goal.returns
returns c =
    let p = c.args.place.now in
    let a = c.args.axis in
    let l : p.rank ≤ length p.indices = omega arith in
    let long : length (indices_of p) ≡ p.rank = length-take-le p.rank p.indices l in
    let there = c.requires.there in
    let few = c.requires.few in
    let new = c.copy_from_slice.new.self in
    let many : length new ≡ p.rank - a = ap length c.copy_from_slice.ensures.after ∙ length-take-le (p.rank - a) (drop a p.indices) (omega (arith, length-drop a p.indices)) in
    take_both (take (a + 1) (set p.indices a c.args.index)) new _ (p.rank + 1) (omega (arith, length-take-le (a + 1) (set p.indices a c.args.index) (omega (arith, length-set p.indices a c.args.index))))
    ∙ (ap (λ x. take (a + 1) (set p.indices a c.args.index) ++ x) c.copy_from_slice.ensures.after ∙ sym (put_cut a p.rank c.args.index p.indices (omega arith) (omega arith)))
