-- Rows of places, and places axis by axis.
use Rattle.std.proofs.Common.{◌≡◌, ℕ, zero, suc, false, eqb, ◌+◌, ◌-◌, ◌*◌, ◌^◌, ◌<◌, ◌≤◌, ◌≢◌, List, [], ◌∷◌, length, get_or, set, ℤ, pos, ◌+ℤ◌, ◌*ℤ◌, nat_abs, sym, ap, ◌∙◌, subst, add-zero, one-mul, mul-one, arith, get_or-set_other, get_or-set_same, w64, SFits, to_z, of_z, below_more}
use lib.IntN.{+ℤ_idr}
use Rattle.std.proofs.lemmas.Bool.{false≢true}
use Rattle.std.proofs.lemmas.Int.{to_z-of_z}
use Rattle.semantics.specs.Shapes.{size, flat}
use Rattle.semantics.specs.OrderLaws.{dot}
use Rattle.semantics.proofs.Places.{Inside, no_axes, axis, inside_in}
use Rattle.views.specs.declared.view.Source.{Source}
use Rattle.views.specs.declared.view.Source.TheVariants.{Area, Input}
use Rattle.views.specs.Walking.{Lies, Walks}
use Rattle.views.specs.Views.{number_from}
use Rattle.views.specs.Copying.{Moves, Walk, Copied}
use Rattle.views.proofs.Walks.{walks_from, walks_more}

module _ {o : Source} {area bs s : List ℕ} {zs : List ℤ} {from d : ℕ} {z : ℤ} (w : Walk o area bs (d ∷ s) (z ∷ zs) from) where
  pub walk_lies : {is : List ℕ} (i : ℕ) → i < d → Inside s is → Lies 0 w.high (pos from +ℤ z *ℤ pos i)
  walk_lies i l h = walks_from (walks_more w.walks l) h

  -- one step along the first axis
  pub walk_moves : {is : List ℕ} (i : ℕ) → i < d → i < 2 ^ 62 → Inside s is → Moves from z i
  walk_moves i l near h =
      let here = walks_from w.walks (axis l h) in
      let same : from ≡ here.word = ap nat_abs here.is in
      record { high = w.high; short = w.short; here = omega arith; near = near; there = walk_lies i l h }

  -- the places behind it
  pub walk_next : (i r : ℕ) → i < d → pos from +ℤ z *ℤ pos i ≡ pos r → Walk o area bs s zs r
  walk_next i r l e =
      record { high = w.high; short = w.short; there = w.there; walks = subst (λ x. Walks 0 w.high s zs x) e (walks_more w.walks l) }

  pub walk_below : {is : List ℕ} (i : ℕ) {r : ℕ} → i < d → Inside s is → pos from +ℤ z *ℤ pos i ≡ pos r → r < w.high
  walk_below i {r} l h e =
      let at = walk_lies i l h in
      let same : r ≡ at.word = ap nat_abs (sym e ∙ at.is) in
      omega arith

row_here : (o : Source) (area bs : List ℕ) (n from : ℕ) (z : ℤ) (out is : List ℕ) → ((j : ℕ) → j < n → get_or out j 0 ≡ number_from o area bs (nat_abs (pos from +ℤ z *ℤ pos j))) → Inside (n ∷ []) is →
    get_or out (flat (n ∷ []) is) 0 ≡ number_from o area bs (nat_abs (pos from +ℤ dot (z ∷ []) is))
unfolding flat dot size
row_here o area bs n from z out [] each h = elim h [ ]
row_here o area bs n from z out (i ∷ (j ∷ is)) each (axis l h) = elim h [ ]
row_here o area bs n from z out (i ∷ []) each (axis l no_axes) =
    ap (λ k. get_or out k 0) (add-zero (i * 1) ∙ mul-one i) ∙ (each i l ∙ ap (λ x. number_from o area bs (nat_abs (pos from +ℤ x))) (sym (+ℤ_idr (z *ℤ pos i))))

-- a row is copied where each of its numbers is
pub copied_row : {o : Source} {area bs : List ℕ} {n from : ℕ} {z : ℤ} {out : List ℕ} → ((j : ℕ) → j < n → get_or out j 0 ≡ number_from o area bs (nat_abs (pos from +ℤ z *ℤ pos j))) → Copied o area bs (n ∷ []) (z ∷ []) from out
copied_row {o} {area} {bs} {n} {from} {z} {out} each = record { each = λ is h. row_here o area bs n from z out is each (inside_in (n ∷ []) is h) }

pub copied_words : {area bs : List ℕ} {n from : ℕ} {z : ℤ} {out : List ℕ} → ((j : ℕ) → j < n → get_or out j 0 ≡ get_or area (nat_abs (pos from +ℤ z *ℤ pos j)) 0) → Copied Area area bs (n ∷ []) (z ∷ []) from out
unfolding number_from
copied_words each = copied_row each

pub copied_numbers : {area bs : List ℕ} {b n from : ℕ} {z : ℤ} {out : List ℕ} → ((j : ℕ) → j < n → get_or out j 0 ≡ number_from (Input b) [] bs (nat_abs (pos from +ℤ z *ℤ pos j))) → Copied (Input b) area bs (n ∷ []) (z ∷ []) from out
unfolding number_from
copied_numbers each = copied_row each

pub copied_run : {area bs : List ℕ} {n from : ℕ} {z : ℤ} {out : List ℕ} → z ≡ pos 1 → ((j : ℕ) → j < n → get_or out j 0 ≡ get_or area (from + j) 0) → Copied Area area bs (n ∷ []) (z ∷ []) from out
copied_run {area} {bs} {n} {from} {z} {out} e each =
    copied_words (λ j l. each j l ∙ ap (λ k. get_or area k 0) (ap (λ k. from + k) (sym (one-mul j)) ∙ ap (λ x. nat_abs (pos from +ℤ x *ℤ pos j)) (sym e)))

-- a row that is not empty
pub some_room : (n : ℕ) → false ≡ eqb n 0 → 0 < n
some_room zero e = absurd (false≢true e)
some_room (suc n) e = omega arith

-- one more number of a row
pub row_more : (f : ℕ → ℕ) (out : List ℕ) (i x : ℕ) → i < length out → ((j : ℕ) → j < i → get_or out j 0 ≡ f j) → x ≡ f i → (j : ℕ) → j < i + 1 → get_or (set out i x) j 0 ≡ f j
row_more f out i x l before here =
    below_more (λ j. get_or (set out i x) j 0 ≡ f j) i
    (λ j h. let other : j ≢ i = omega arith in get_or-set_other out i j x 0 other ∙ before j h)
    (get_or-set_same out i x 0 l ∙ here)

-- the address that the code finds
pub walk_found : {o : Source} {area bs s : List ℕ} {zs : List ℤ} {from d : ℕ} {z : ℤ} {is : List ℕ} (w : Walk o area bs (d ∷ s) (z ∷ zs) from) (i : ℕ) {r : ℕ} → SFits w64 z → i < d → Inside s is →
    pos from +ℤ to_z w64 (of_z w64 z) *ℤ pos i ≡ pos r → r < w.high
walk_found {from = from} {z = z} w i f l h e = walk_below w i l h (ap (λ x. pos from +ℤ x *ℤ pos i) (sym (to_z-of_z w64 z f)) ∙ e)

pub walk_steps : {o : Source} {area bs s : List ℕ} {zs : List ℤ} {from d : ℕ} {z : ℤ} {is : List ℕ} (w : Walk o area bs (d ∷ s) (z ∷ zs) from) (i : ℕ) → SFits w64 z → i < d → i < 2 ^ 62 → Inside s is → Moves from (to_z w64 (of_z w64 z)) i
walk_steps {from = from} {z = z} w i f l near h = subst (λ x. Moves from x i) (sym (to_z-of_z w64 z f)) (walk_moves w i l near h)

-- the last number of a run
pub run_ends : {area bs : List ℕ} {from n : ℕ} {z : ℤ} → Walk Area area bs (n ∷ []) (z ∷ []) from → z ≡ pos 1 → 0 < n → from + n ≤ length area
run_ends {from = from} {n} {z} w e some =
    let there = w.there in
    let last = walk_lies w (n - 1) (omega arith) no_axes in
    let same : from + 1 * (n - 1) ≡ last.word = ap nat_abs (ap (λ x. pos from +ℤ x *ℤ pos (n - 1)) (sym e) ∙ last.is) in
    omega arith

pub one_from_bits : {z : ℤ} → SFits w64 z → of_z w64 z ≡ 1 → z ≡ pos 1
one_from_bits {z} f e = sym (to_z-of_z w64 z f) ∙ ap (to_z w64) e
