use Rattle.std.proofs.Common.{◌≡◌, ℕ, ◌+◌, ◌-◌, ◌%◌, ◌<◌, eqb, [], ◌∷◌, ◌++◌, length, get_or, take, sym, ap, ◌∙◌, subst, add_assoc, arith, length-take, get_or-take}
use lib.Ieee.{nan}
use Rattle.std.proofs.lemmas.Nat.{mod_below}
use Rattle.std.proofs.lemmas.List.{length-take-le}
use Rattle.semantics.specs.Shapes.{pick, size, unflat}
use Rattle.semantics.specs.Broadcast.{narrow}
use Rattle.semantics.proofs.Inside.{Spreads}
use Rattle.encoding.specs.ShapeOf.{shape_of}
use Rattle.encoding.specs.declared.shape.Shape.{Shape}
use Rattle.numbers.specs.Operations.{binary64}
use Rattle.numbers.specs.Standing.{StandsFor}
use Rattle.kernels.proofs.Narrowing.{spreads_few}
use Rattle.kernels.proofs.Numbering.{last_axis, last_some}
use Rattle.kernels.proofs.Readings.{stand_same}
use Rattle.kernels.proofs.Turns.{set_below}
use Rattle.kernels.proofs.Feeding.{count_last, count_one, count_more}
use Rattle.kernels.proofs.leaves.fill_count.Goals as goal

axes : (s : Shape) → length s.lens ≡ 8 → 0 < s.rank → shape_of s ≡ take (s.rank - 1) (shape_of s) ++ get_or s.lens (s.rank - 1) 0 ∷ []
axes s eight some =
    let w = shape_of s in
    let few = s.few in
    let low : s.rank - 1 < s.rank = omega arith in
    last_axis w s.rank (length-take-le s.rank s.lens (omega arith)) some ∙ ap (λ d. take (s.rank - 1) w ++ d ∷ []) (get_or-take s.rank s.lens (s.rank - 1) 0 low)

-- the number at a place, by the place's number
number : (s : Shape) → length s.lens ≡ 8 → 0 < s.rank → (m n : ℕ) → n < size (shape_of s) → get_or (narrow (m ∷ []) (unflat (shape_of s) n)) 0 0 ≡ pick (eqb m 1) 0 (n % get_or s.lens (s.rank - 1) 0)
number s eight some m n h =
    let whole = axes s eight some in
    ap (λ t. get_or (narrow (m ∷ []) (unflat t n)) 0 0) whole ∙ count_last m (take (s.rank - 1) (shape_of s)) (get_or s.lens (s.rank - 1) 0) n (subst (λ t. n < size t) whole h)

pub returns-then-many-eq1 : goal.returns-then-many-eq1
returns-then-many-eq1 c =
    let s = c.args.shape in
    let some : 0 < s.rank = omega (arith, spreads_few c.requires.spreads, length-take s.rank s.lens) in
    stand_same
    (λ k l. ap (λ n. binary64.of n) (sym (number s (omega arith) some c.args.many (c.args.first + k) (omega arith) ∙ count_one c.args.many _ c.if-many-eq1.true)))
    (c.fill_with.ensures (binary64.of 0) c.whole_float.ensures)

pub overflow_sub-len : goal.overflow_sub-len
overflow_sub-len c = omega (arith, spreads_few c.requires.spreads, length-take c.args.shape.rank c.args.shape.lens)

len_some : (s : Shape) (m n : ℕ) → length s.lens ≡ 8 → Spreads (m ∷ []) (shape_of s) → n < size (shape_of s) → 0 < get_or s.lens (s.rank - 1) 0
len_some s m n eight p h =
    let some : 0 < s.rank = omega (arith, spreads_few p, length-take s.rank s.lens) in
    last_some (take (s.rank - 1) (shape_of s)) _ n (subst (λ t. n < size t) (axes s eight some) h)

pub nonzero_rem-index : goal.nonzero_rem-index
nonzero_rem-index c = len_some c.args.shape c.args.many c.args.first (omega arith) c.requires.spreads (omega arith)

pub next_index-index-requires : goal.next_index-index-requires
next_index-index-requires c =
    let some = len_some c.args.shape c.args.many c.args.first (omega arith) c.requires.spreads (omega arith) in
    omega (arith, mod_below (c.args.first + c.loop-x.x-index) (get_or c.args.shape.lens (c.args.shape.rank - 1) 0) some)

pub loop-x-preserved : goal.loop-x-preserved
loop-x-preserved c =
    let i = c.loop-x.x-index in
    let len = get_or c.args.shape.lens (c.args.shape.rank - 1) 0 in
    let l : i < length c.loop-x.out = omega arith in (
      c.next_index-index.ensures (c.args.first + i) c.loop-x.invariant.0 ∙ ap (λ n. n % len) (add_assoc c.args.first i 1),
      set_below nan (λ k x. StandsFor x (binary64.of ((c.args.first + k) % len))) c.loop-x.out i c.whole_float-in-loop-x.result l c.loop-x.invariant.1
          (subst (λ n. StandsFor c.whole_float-in-loop-x.result (binary64.of n)) c.loop-x.invariant.0 c.whole_float-in-loop-x.ensures),
    )

pub returns : goal.returns
returns c =
    let s = c.args.shape in
    let some : 0 < s.rank = omega (arith, spreads_few c.requires.spreads, length-take s.rank s.lens) in
    stand_same
    (λ k l. ap (λ n. binary64.of n) (sym (number s (omega arith) some c.args.many (c.args.first + k) (omega arith) ∙ count_more c.args.many _ c.if-many-eq1.false)))
    (record { each = λ k l. c.loop-x.invariant.1 k (omega arith) })
