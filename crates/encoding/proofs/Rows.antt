-- Inputs one after another: one step of the row, whether or not there is a good input at an index.
use Rattle.std.proofs.Common.{◌≡◌, ℕ, zero, suc, ◌+◌, ◌<◌, ◌≤◌, true, false, List, [], length, sym, refl, ap, ◌∙◌, inl, inr, arith}
use Rattle.std.proofs.lemmas.Bool.{leb-true, and_parts, lt-leb, and_left, and_right, cases_Bool}
use Rattle.encoding.specs.Format.{rank_at, next_at, good_at, behind, row_from, row_at, offsets, stop}
use Rattle.encoding.specs.Headers.{Heads, Flawed}
use Rattle.encoding.specs.declared.header.Header.{Header}
use Rattle.encoding.specs.declared.header.Flaw.{Flaw}
use Rattle.encoding.specs.declared.header.Flaw.TheVariants.{Short, Axes}
use Rattle.encoding.proofs.Formats.{start_at_is, next_at_is}

pub next_at_after : (bs : List ℕ) (i : ℕ) → i < next_at bs i
next_at_after bs i =
    let begins = start_at_is bs i in
    let ends = next_at_is bs i in omega arith

pub good_at_parts : (bs : List ℕ) (i : ℕ) → good_at bs i ≡ true → (rank_at bs i ≤ 8) × (next_at bs i ≤ length bs)
unfolding good_at
good_at_parts bs i g =
    let both = and_parts _ _ g in (leb-true _ _ both.0, leb-true _ _ both.1)

pub good_at_inside : (bs : List ℕ) (i : ℕ) → good_at bs i ≡ true → i < length bs
good_at_inside bs i g =
    let on = next_at_after bs i in
    let there = (good_at_parts bs i g).1 in omega arith

pub not_good_many : (bs : List ℕ) (i : ℕ) → 8 < rank_at bs i → good_at bs i ≡ false
unfolding good_at
not_good_many bs i h = and_left _ _ (lt-leb _ _ h)

pub not_good_short : (bs : List ℕ) (i : ℕ) → length bs < next_at bs i → good_at bs i ≡ false
unfolding good_at
not_good_short bs i h = and_right _ _ (lt-leb _ _ h)

pub not_good_past : (bs : List ℕ) (i : ℕ) → length bs ≤ i → good_at bs i ≡ false
not_good_past bs i h =
    let on = next_at_after bs i in not_good_short bs i (omega arith)

module _ (bs : List ℕ) where
  pub row_from_bad : (f i : ℕ) → good_at bs i ≡ false → row_from f bs i ≡ record { offsets = []; stop = i }
  unfolding row_from
  row_from_bad zero i g = refl
  row_from_bad (suc f) i g = rw g refl

  pub row_from_good : (f i : ℕ) → good_at bs i ≡ true → row_from (suc f) bs i ≡ behind i (row_from f bs (next_at bs i))
  unfolding row_from
  row_from_good f i g = rw g refl

  -- more turns than bytes are left change nothing
  row_from_turns : (f g i : ℕ) → length bs ≤ i + f → length bs ≤ i + g → row_from f bs i ≡ row_from g bs i
  row_from_turns zero g i p q = let past : length bs ≤ i = omega arith in row_from_bad 0 i (not_good_past bs i past) ∙ sym (row_from_bad g i (not_good_past bs i past))
  row_from_turns (suc f) zero i p q = let past : length bs ≤ i = omega arith in row_from_bad (suc f) i (not_good_past bs i past) ∙ sym (row_from_bad 0 i (not_good_past bs i past))
  row_from_turns (suc f) (suc g) i p q =
      elim (cases_Bool (good_at bs i)) [
        | inl yes-good ↦ let on = next_at_after bs i in row_from_good f i yes-good ∙ (ap (behind i) (row_from_turns f g (next_at bs i) (omega arith) (omega arith)) ∙ sym (row_from_good g i yes-good))
        | inr not-Good ↦ row_from_bad (suc f) i not-Good ∙ sym (row_from_bad (suc g) i not-Good)
      ]

  pub row_at_bad : (i : ℕ) → good_at bs i ≡ false → row_at bs i ≡ record { offsets = []; stop = i }
  unfolding row_at
  row_at_bad i g = row_from_bad (length bs) i g

  pub row_at_good : (i : ℕ) → good_at bs i ≡ true → row_at bs i ≡ behind i (row_at bs (next_at bs i))
  unfolding row_at
  row_at_good i g =
      let on = next_at_after bs i in
      row_from_turns (length bs) (suc (length bs)) i (omega arith) (omega arith) ∙ row_from_good (length bs) i g

-- the same by what the reading of a head answers
pub flawed_not_good : (bs : List ℕ) (i : ℕ) (f : Flaw) → Flawed bs i f → good_at bs i ≡ false
flawed_not_good bs i Short h = not_good_short bs i h.1
flawed_not_good bs i Axes h = not_good_many bs i h

module _ (bs : List ℕ) (i : ℕ) (h : Header) (heads : Heads bs i h) where
  pub row_at_head : row_at bs i ≡ behind i (row_at bs h.next)
  row_at_head = row_at_good bs i heads.good ∙ ap (λ n. behind i (row_at bs n)) (sym heads.ends)

  pub head_on : (i < h.next) × (h.next ≤ length bs)
  head_on =
      let on = next_at_after bs i in
      let there = (good_at_parts bs i heads.good).1 in
      let ends = heads.ends in (omega arith, omega arith)

pub offsets_is : (bs : List ℕ) → (row_at bs 0).offsets ≡ offsets bs
unfolding offsets
offsets_is bs = refl

pub stop_is : (bs : List ℕ) → (row_at bs 0).stop ≡ stop bs
unfolding stop
stop_is bs = refl
