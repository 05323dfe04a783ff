-- Words: what the tests on them tell.
use Rattle.std.proofs.Common.{◌≡◌, ℕ, ◌<◌, Bool, true, false, ◌&&◌, ltb, List, [], ◌∷◌, ◌++◌, length, Some, None, sym, refl, ap, ◌∙◌, subst, ap₂, ⊎_elim, arith, length-append}
use mathlib.Core.Bool.{false≢true}
use Rattle.std.proofs.lemmas.Bool.{and_parts, and_from, or_cases, or_left, or_right, or_parts, eqb-true, eq-eqb, ltb-true, lt-ltb}
use Rattle.semantics.specs.Shapes.{pick}
use Rattle.grammar.specs.Words.{Word, same_word, begins_word, find, is_some, begins_some, all_in_word, is_letter, shaped}

pub same_word_is : (u w : Word) → same_word u w ≡ true → u ≡ w
unfolding same_word
same_word_is [] [] h = refl
same_word_is [] (c ∷ w) h = absurd (false≢true h)
same_word_is (b ∷ u) [] h = absurd (false≢true h)
same_word_is (b ∷ u) (c ∷ w) h =
    let p = and_parts _ _ h in ap₂ (λ (x : ℕ) (y : Word). x ∷ y) (eqb-true b c p.0) (same_word_is u w p.1)

pub same_word_refl : (w : Word) → same_word w w ≡ true
unfolding same_word
same_word_refl [] = refl
same_word_refl (b ∷ w) = and_from _ _ (eq-eqb b b refl) (same_word_refl w)

pub begins_word_is : (u w : Word) → begins_word u w ≡ true → (v : Word) × (w ≡ u ++ v)
unfolding begins_word
begins_word_is [] w h = (w, refl)
begins_word_is (b ∷ u) [] h = absurd (false≢true h)
begins_word_is (b ∷ u) (c ∷ w) h =
    let p = and_parts _ _ h in
    let k = begins_word_is u w p.1 in (k.0, ap₂ (λ (x : ℕ) (y : Word). x ∷ y) (sym (eqb-true b c p.0)) k.1)

pub begins_word_front : (u v : Word) → begins_word u (u ++ v) ≡ true
unfolding begins_word
begins_word_front [] v = refl
begins_word_front (b ∷ u) v = and_from _ _ (eq-eqb b b refl) (begins_word_front u v)

pub data Among {A : Type 0} (a : A) : List A → Type 0 where
  here : {xs : List A} → Among a (a ∷ xs)
  there : {b : A} {xs : List A} → Among a xs → Among a (b ∷ xs)

module _ {A : Type 0} (spelled : A → Word) where
  pub find_some : (xs : List A) (w : Word) (a : A) → find spelled xs w ≡ Some a → w ≡ spelled a
  unfolding find
  find_some [] w a h = absurd (none≢some h)
    where
      none≢some : None ≡ Some a → ⊥
      none≢some e = let z : ◌≡◌ {A = ℕ} 0 1 = cc in omega arith
  find_some (x ∷ xs) w a h = go (same_word w (spelled x)) refl h (find_some xs w a)
    where
      go : (t : Bool) → same_word w (spelled x) ≡ t → pick t (Some x) (find spelled xs w) ≡ Some a → (find spelled xs w ≡ Some a → w ≡ spelled a) → w ≡ spelled a
      go true e k f = let q : x ≡ a = cc in same_word_is w (spelled x) e ∙ ap spelled q
      go false e k f = f k

  pub find_none : (xs : List A) (w : Word) → is_some spelled xs w ≡ false → find spelled xs w ≡ None
  unfolding find is_some
  find_none [] w h = refl
  find_none (x ∷ xs) w h =
      let p = or_parts (same_word w (spelled x)) (is_some spelled xs w) h in rw p.0 (find_none xs w p.1)

  pub is_some_is : (xs : List A) (w : Word) → is_some spelled xs w ≡ true → (a : A) × Among a xs × (w ≡ spelled a)
  unfolding is_some
  is_some_is [] w h = absurd (false≢true h)
  is_some_is (x ∷ xs) w h =
      ⊎_elim
      (λ e. (x, here, same_word_is w (spelled x) e))
      (λ e. let k = is_some_is xs w e in (k.0, there k.1, k.2))
      (or_cases (same_word w (spelled x)) (is_some spelled xs w) h)

  pub is_some_among : {a : A} {xs : List A} → Among a xs → is_some spelled xs (spelled a) ≡ true
  unfolding is_some
  is_some_among {a} here = or_left _ _ (same_word_refl (spelled a))
  is_some_among (there i) = or_right _ _ (is_some_among i)

  pub begins_some_is : (xs : List A) (w : Word) → begins_some spelled xs w ≡ true → (a : A) × Among a xs × (v : Word) × (spelled a ≡ w ++ v)
  unfolding begins_some
  begins_some_is [] w h = absurd (false≢true h)
  begins_some_is (x ∷ xs) w h =
      ⊎_elim
      (λ e. let k = begins_word_is w (spelled x) e in (x, here, k.0, k.1))
      (λ e. let k = begins_some_is xs w e in (k.0, there k.1, k.2, k.3))
      (or_cases (begins_word w (spelled x)) (begins_some spelled xs w) h)

  pub begins_some_among : {a : A} {xs : List A} → Among a xs → (u v : Word) → spelled a ≡ u ++ v → begins_some spelled xs u ≡ true
  unfolding begins_some
  begins_some_among {a} {xs} here u v e = or_left _ _ (subst (λ w. begins_word u w ≡ true) (sym e) (begins_word_front u v))
  begins_some_among (there i) u v e = or_right _ _ (begins_some_among i u v e)

pub all_in_word_front : (u v : Word) → all_in_word (u ++ v) ≡ true → all_in_word u ≡ true
unfolding all_in_word
all_in_word_front [] v h = refl
all_in_word_front (b ∷ u) v h = let p = and_parts _ _ h in and_from _ _ p.0 (all_in_word_front u v p.1)

pub shaped_front : (b : ℕ) (u v : Word) → shaped (b ∷ u ++ v) ≡ true → shaped (b ∷ u) ≡ true
unfolding shaped
shaped_front b u v h =
    let p = and_parts (is_letter b && all_in_word (u ++ v)) (ltb (length (u ++ v)) 8) h in
    let q = and_parts (is_letter b) (all_in_word (u ++ v)) p.0 in
    let l : length u < 8 = omega (arith, ltb-true (length (u ++ v)) 8 p.1, length-append u v) in
    and_from _ _ (and_from _ _ q.0 (all_in_word_front u v q.1)) (lt-ltb (length u) 8 l)
