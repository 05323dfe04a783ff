-- Orders of axes, and shapes that are the same, entry by entry.
use Rattle.std.proofs.Common.{◌≡◌, ℕ, suc, ◌+◌, ◌<◌, ◌≤◌, Bool, true, false, ◌||◌, cond, not, ltb, Some, None, inl, inr, eqb, List, [], ◌∷◌, length, get_or, drop, sym, refl, ap, ◌∙◌, arith}
use Rattle.std.specs.List.{position, position_or_len}
use Rattle.std.specs.Option.{unwrap_or}
use Rattle.std.proofs.lemmas.List.{drop_more, drop_all}
use Rattle.std.proofs.lemmas.Bool.{eq-eqb, ne_eqb, cases_eq, cases_lt, lt-ltb, le-ltb}
use Rattle.semantics.specs.Shapes.{pick}
use Rattle.semantics.specs.Orders.{among, where_in}

-- ---- an axis looked for from a place on
module _ (x : ℕ) (os : List ℕ) (k : ℕ) where
  among_drop : k < length os → among x (drop k os) ≡ (eqb x (get_or os k 0) || among x (drop (k + 1) os))
  unfolding among
  among_drop l = ap (among x) (drop_more os k 0 l)

  pub among_here : k < length os → get_or os k 0 ≡ x → among x (drop k os) ≡ true
  among_here l e = among_drop l ∙ ap (λ b. b || among x (drop (k + 1) os)) (eq-eqb x (get_or os k 0) (sym e))

  pub among_later : k < length os → (get_or os k 0 ≡ x → ⊥) → among x (drop k os) ≡ among x (drop (k + 1) os)
  among_later l n = among_drop l ∙ ap (λ b. b || among x (drop (k + 1) os)) (ne_eqb x (get_or os k 0) (λ e. n (sym e)))

  pub among_end : length os ≤ k → among x (drop k os) ≡ false
  unfolding among
  among_end l = ap (among x) (drop_all k os l)

  where_drop : k < length os → where_in x (drop k os) ≡ pick (eqb x (get_or os k 0)) 0 (suc (where_in x (drop (k + 1) os)))
  unfolding where_in
  where_drop l = ap (where_in x) (drop_more os k 0 l)

  pub where_here : k < length os → get_or os k 0 ≡ x → where_in x (drop k os) ≡ 0
  where_here l e = where_drop l ∙ ap (λ b. pick b 0 (suc (where_in x (drop (k + 1) os)))) (eq-eqb x (get_or os k 0) (sym e))

  pub where_later : k < length os → (get_or os k 0 ≡ x → ⊥) → where_in x (drop k os) ≡ suc (where_in x (drop (k + 1) os))
  where_later l n = where_drop l ∙ ap (λ b. pick b 0 (suc (where_in x (drop (k + 1) os)))) (ne_eqb x (get_or os k 0) (λ e. n (sym e)))

  pub where_end : length os ≤ k → where_in x (drop k os) ≡ 0
  unfolding where_in
  where_end l = ap (where_in x) (drop_all k os l)

-- ---- the library's look-ups
eqb_turned : (x y : ℕ) → eqb x y ≡ eqb y x
eqb_turned x y =
    elim (cases_eq x y) [
      | inl e ↦ eq-eqb x y e ∙ sym (eq-eqb y x (sym e))
      | inr n ↦ ne_eqb x y n ∙ sym (ne_eqb y x (λ e. n (sym e)))
    ]

pub where_len : (x : ℕ) (os : List ℕ) → position_or_len (λ o. eqb o x) os ≡ where_in x os
unfolding where_in
where_len x [] = refl
where_len x (o ∷ os) = go (eqb o x) (where_len x os) ∙ ap (λ b. pick b 0 (suc (where_in x os))) (eqb_turned o x)
  where
    go : (b : Bool) → position_or_len (λ o. eqb o x) os ≡ where_in x os → cond (not b) (1 + position_or_len (λ o. eqb o x) os) 0 ≡ pick b 0 (suc (where_in x os))
    go true e = refl
    go false e = omega (arith, e)

where_below : (x : ℕ) (os : List ℕ) → where_in x os ≤ length os
unfolding where_in
where_below x [] = omega arith
where_below x (o ∷ os) = go (eqb x o) (where_below x os)
  where
    go : (b : Bool) → where_in x os ≤ length os → pick b 0 (suc (where_in x os)) ≤ suc (length os)
    go true l = omega arith
    go false l = omega arith

or_length : (n m : ℕ) → n ≤ m → unwrap_or (cond (ltb n m) (Some n) None) m ≡ n
or_length n m l =
    elim (cases_lt n m) [
      | inl h ↦ ap (λ b. unwrap_or (cond b (Some n) None) m) (lt-ltb n m h)
      | inr h ↦ ap (λ b. unwrap_or (cond b (Some n) None) m) (le-ltb n m h) ∙ omega arith
    ]

pub where_found : (x : ℕ) (os : List ℕ) → unwrap_or (position (λ o. eqb o x) os) (length os) ≡ where_in x os
where_found x os = let e = where_len x os in or_length (position_or_len (λ o. eqb o x) os) (length os) (omega (arith, where_below x os)) ∙ e
