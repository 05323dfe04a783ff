-- Walking over inputs one after another: what lies behind `count` of them.
use Rattle.std.proofs.Common.{◌≡◌, ℕ, zero, suc, ◌+◌, ◌<◌, ◌≤◌, false, List, [], ◌∷◌, length, get_or, drop, sym, refl, ap, ◌∙◌, subst, inl, inr, add-zero, arith, length-drop}
use Rattle.std.specs.Prelude.{Option, Result, Ok, Err, MatchOption, MatchResult}
use Rattle.std.specs.Result.{result_ok}
use Rattle.std.proofs.lemmas.List.{drop-drop, get_or-drop}
use Rattle.std.proofs.lemmas.Bool.{cases_Bool}
use Rattle.encoding.specs.declared.header.Header.{Header}
use Rattle.encoding.specs.declared.header.Flaw.{Flaw}
use Rattle.encoding.specs.declared.inputs.Walk.{Walk}
use Rattle.encoding.specs.Format.{good_at, next_at, behind, Row, row_from, row_at, offsets}
use Rattle.encoding.specs.Headers.{Heads, Flawed}
use Rattle.encoding.specs.Inputs.{Found, Walked, WalkedAll}
use Rattle.encoding.proofs.Rows.{row_from_bad, row_from_good, row_at_good, row_at_bad, row_at_head, flawed_not_good}

module _ (bs : List ℕ) where
  -- each input takes a turn, and there are as many turns as bytes
  few_from : (f i : ℕ) → length (row_from f bs i).offsets ≤ f
  unfolding row_from behind
  few_from zero i = omega arith
  few_from (suc f) i =
      elim (cases_Bool (good_at bs i)) [
        | inl good ↦ let rest = few_from f (next_at bs i) in let one = ap (λ (r : Row). length r.offsets) (row_from_good bs f i good) in omega arith
        | inr bad ↦ let none = ap (λ (r : Row). length r.offsets) (row_from_bad bs (suc f) i bad) in omega arith
      ]

  few_offsets : length (offsets bs) ≤ length bs
  unfolding offsets row_at
  few_offsets = few_from (length bs) 0

  -- nothing begins where no input is good
  none_good : (i : ℕ) → (row_at bs i).offsets ≡ [] → good_at bs i ≡ false
  unfolding behind
  none_good i none =
      elim (cases_Bool (good_at bs i)) [
        | inl good ↦ let one = ap (λ (r : Row). length r.offsets) (row_at_good bs i good) in let zero_long = ap length none in absurd (omega arith)
        | inr bad ↦ bad
      ]

  module _ (k at : ℕ) (rest : (row_at bs at).offsets ≡ drop k (offsets bs)) where
    -- the inputs from `at` on are those from number k on
    here : (h : Header) → Heads bs at h → drop k (offsets bs) ≡ at ∷ (row_at bs h.next).offsets
    unfolding behind
    here h heads = sym rest ∙ ap (λ (r : Row). r.offsets) (row_at_head bs at h heads)

    pub none_from : (f : Flaw) → Flawed bs at f → length (offsets bs) ≤ k
    none_from f why =
        let all : drop k (offsets bs) ≡ [] = sym rest ∙ ap (λ (r : Row). r.offsets) (row_at_bad bs at (flawed_not_good bs at f why)) in
        omega (arith, length-drop k (offsets bs), ap length all)

    pub more_from : (h : Header) → Heads bs at h → k < length (offsets bs)
    more_from h heads = omega (arith, length-drop k (offsets bs), ap length (here h heads))

    pub found_at : (h : Header) → Heads bs at h → Found bs k h
    found_at h heads =
        let first : get_or (offsets bs) k 0 ≡ at = ap (λ n. get_or (offsets bs) n 0) (sym (add-zero k)) ∙ (sym (get_or-drop k (offsets bs) 0 0) ∙ ap (λ xs. get_or xs 0 0) (here h heads)) in
        record { there = more_from h heads; heads = subst (λ n. Heads bs n h) (sym first) heads }

    pub next_from : (h : Header) → Heads bs at h → (row_at bs h.next).offsets ≡ drop (k + 1) (offsets bs)
    next_from h heads = sym (ap (λ xs. drop 1 xs) (here h heads)) ∙ drop-drop 1 k (offsets bs)

    pub stop_from : (h : Header) → Heads bs at h → (row_at bs h.next).stop ≡ (row_at bs at).stop
    unfolding behind
    stop_from h heads = sym (ap (λ (r : Row). r.stop) (row_at_head bs at h heads))

  -- a walk over as many inputs as there are bytes is one over all
  pub walked_all : (w : Walk) → Walked bs (length bs) w → WalkedAll bs w
  walked_all w walked =
      let few = few_offsets in
      let all : w.count ≡ length (offsets bs) = omega (arith, walked.count) in
      let over = length-drop w.count (offsets bs) in
      let empty : length (row_at bs w.at).offsets ≡ 0 = omega (arith, ap length walked.rest) in
      let bad = none_good w.at (nothing (row_at bs w.at).offsets empty) in
      record { inside = walked.inside; count = all; stops = sym (ap (λ (r : Row). r.stop) (row_at_bad bs w.at bad)) ∙ walked.stops; none = bad }
    where
      nothing : (xs : List ℕ) → length xs ≡ 0 → xs ≡ []
      nothing [] e = refl
      nothing (x ∷ xs) e = absurd (omega arith)

  -- after a walk over k inputs, the head that is read, if any, is that of input k
  pub found_after : (k : ℕ) (w : Walk) → Walked bs k w → (r : Result Header Flaw) (o : Option Header) → MatchResult r (λ h. Heads bs w.at h) (λ f. Flawed bs w.at f) → o ≡ result_ok r → MatchOption o (length (offsets bs) ≤ k) (λ h. Found bs k h)
  found_after k w walked (Ok h) o heads e =
      let more = more_from w.count w.at walked.rest h heads in
      let all : w.count ≡ k = omega (arith, walked.count) in
      let P : Option Header → Type 0 = λ o. MatchOption o (length (offsets bs) ≤ k) (λ h. Found bs k h) in
      subst P (sym e) (subst (λ n. Found bs n h) all (found_at w.count w.at walked.rest h heads))
  found_after k w walked (Err f) o why e =
      let few = none_from w.count w.at walked.rest f why in
      let none : length (offsets bs) ≤ k = omega (arith, walked.count) in
      let P : Option Header → Type 0 = λ o. MatchOption o (length (offsets bs) ≤ k) (λ h. Found bs k h) in subst P (sym e) none
