use Rattle.std.proofs.Common.{◌≡◌, ◌+◌, ◌-◌, ◌≤◌, ◌++◌, length, take, drop, sym, ap, ◌∙◌, arith, length-drop}
use Rattle.std.proofs.lemmas.List.{length-take-le}
use Rattle.encoding.specs.ShapeOf.{shape_of}
use Rattle.reference.proofs.Cutting.{take_both, without_cut}
use Rattle.reference.proofs.shapes.remove_axis.Goals as goal

pub returns : goal.returns
returns c =
    let s = c.args.shape.now in
    let a = c.args.axis in
    let l : s.rank ≤ length s.lens = omega arith in
    let long : length (shape_of s) ≡ s.rank = length-take-le s.rank s.lens l in
    let there = c.requires.there in
    let new = c.copy_from_slice.new.self in
    let many : length new ≡ s.rank - (a + 1) = ap length c.copy_from_slice.ensures.after ∙ length-take-le (s.rank - (a + 1)) (drop (a + 1) s.lens) (omega (arith, length-drop (a + 1) s.lens)) in
    take_both (take a s.lens) new _ (s.rank - 1) (omega (arith, length-take-le a s.lens (omega arith)))
    ∙ (ap (λ x. take a s.lens ++ x) c.copy_from_slice.ensures.after ∙ sym (without_cut a s.rank s.lens (omega arith) l))
