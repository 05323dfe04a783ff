use Rattle.std.proofs.Common.{◌≡◌, ◌+◌, ◌*◌, ◌≤◌, length, get_or, take, sym, refl, ap, ◌∙◌, subst, arith}
use Rattle.std.proofs.lemmas.List.{length-take-le}
use Rattle.semantics.specs.Shapes.{In, flat}
use Rattle.semantics.proofs.Places.{Inside, inside_in, length_inside, flat_below}
use Rattle.encoding.specs.declared.shape.Shape.{Shape}
use Rattle.encoding.specs.ShapeOf.{shape_of}
use Rattle.reference.specs.declared.place.Place.{Place}
use Rattle.reference.specs.IndicesOf.{indices_of}
use Rattle.reference.proofs.Numbering.{flat_more, flat_more_below}
use Rattle.reference.proofs.place.numbering.flatten.Goals as goal

same_rank : (s : Shape) (p : Place) → s.rank ≤ length s.lens → p.rank ≤ length p.indices → In (shape_of s) (indices_of p) → p.rank ≡ s.rank
same_rank s p l m h =
    sym (length-take-le p.rank p.indices m) ∙ (length_inside (inside_in (shape_of s) (indices_of p) h) ∙ length-take-le s.rank s.lens l)

-- with as many indices as lengths
inside : (s : Shape) (p : Place) → s.rank ≤ length s.lens → p.rank ≤ length p.indices → In (shape_of s) (indices_of p) → Inside (take s.rank s.lens) (take s.rank p.indices)
inside s p l m h = subst (λ r. Inside (shape_of s) (take r p.indices)) (same_rank s p l m h) (inside_in (shape_of s) (indices_of p) h)

pub loop-k-init : goal.loop-k-init
unfolding flat
loop-k-init c = refl

pub overflow_mul-number : goal.overflow_mul-number
overflow_mul-number c =
    let s = c.args.shape.now in
    let p = c.args.place.now in
    let l : s.rank ≤ length s.lens = omega arith in
    let m : s.rank ≤ length p.indices = omega arith in
    let i = inside s p l (omega arith) c.requires.inside in
    let low = flat_more_below s.lens p.indices s.rank c.loop-k.k l m i c.loop-k-test.true in
    let same = ap (λ n. n * get_or s.lens c.loop-k.k 0) c.loop-k.invariant in
    omega arith

pub overflow_add-number : goal.overflow_add-number
overflow_add-number c =
    let s = c.args.shape.now in
    let p = c.args.place.now in
    let l : s.rank ≤ length s.lens = omega arith in
    let m : s.rank ≤ length p.indices = omega arith in
    let i = inside s p l (omega arith) c.requires.inside in
    let low = flat_more_below s.lens p.indices s.rank c.loop-k.k l m i c.loop-k-test.true in
    let same = ap (λ n. n * get_or s.lens c.loop-k.k 0) c.loop-k.invariant in
    omega arith

pub loop-k-preserved : goal.loop-k-preserved
loop-k-preserved c =
    let s = c.args.shape.now in
    let p = c.args.place.now in
    let l : s.rank ≤ length s.lens = omega arith in
    let m : s.rank ≤ length p.indices = omega arith in
    let i = inside s p l (omega arith) c.requires.inside in
    let more = flat_more s.lens p.indices s.rank c.loop-k.k l m i c.loop-k-test.true in
    ap (λ n. n * get_or s.lens c.loop-k.k 0 + get_or p.indices c.loop-k.k 0) c.loop-k.invariant ∙ sym more

pub returns : goal.returns
returns c =
    let s = c.args.shape.now in
    let p = c.args.place.now in
    let l : s.rank ≤ length s.lens = omega arith in
    let e : c.loop-k.k ≡ s.rank = omega arith in
    let r = same_rank s p l (omega arith) c.requires.inside in
    let all = ap (λ k. flat (take k s.lens) (take k p.indices)) e ∙ ap (λ k. flat (take s.rank s.lens) (take k p.indices)) (sym r) in
    let low = flat_below (inside_in _ _ c.requires.inside) in
    record { number = c.loop-k.invariant ∙ all; below = omega arith }
