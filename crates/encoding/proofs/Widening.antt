-- Shapes that are broadcast, length by length from the last on.
use Rattle.std.proofs.Common.{◌≡◌, ℕ, zero, suc, ◌+◌, ◌-◌, ◌<◌, ◌≤◌, max, Bool, true, false, ◌&&◌, ◌||◌, eqb, ◌≢◌, List, [], ◌∷◌, reverse, length, get_or, take, set, sym, refl, ap, ◌∙◌, arith, length-set, below_more}
use Rattle.std.proofs.lemmas.List.{length-reverse, get_or-reverse, get_or_default, ext_get_or, get_or-take, length-take-le, get_or-set_same, get_or-set_other}
use Rattle.std.proofs.lemmas.Bool.{and_from, and_left, and_right}
use Rattle.std.specs.List.{list_all, zip}
use Rattle.semantics.specs.Shapes.{pick}
use Rattle.semantics.specs.Broadcast.{joins, joined, fit, wide}

abbrev pub fits_one : ℕ → ℕ → Bool
fits_one a b = eqb a b || (eqb a 1 || eqb b 1)

-- as far as both reach; before the first of the shorter one every length goes
pub joins_zip : (s t : List ℕ) → list_all (λ p. fits_one p.0 p.1) (zip s t) ≡ joins s t
unfolding joins
joins_zip [] t = refl
joins_zip (a ∷ s) [] = refl
joins_zip (a ∷ s) (b ∷ t) = ap (λ x. fits_one a b && x) (joins_zip s t)

wider_second : (a : ℕ) → a ≡ pick (eqb a 1) 1 a
wider_second a = grind arith

pub get_d_joined : (k : ℕ) (s t : List ℕ) → get_or (joined s t) k 1 ≡ pick (eqb (get_or s k 1) 1) (get_or t k 1) (get_or s k 1)
unfolding joined
get_d_joined k [] t = refl
get_d_joined k (a ∷ s) [] = wider_second (get_or (a ∷ s) k 1)
get_d_joined zero (a ∷ s) (b ∷ t) = refl
get_d_joined (suc k) (a ∷ s) (b ∷ t) = get_d_joined k s t

pub length_joined : (s t : List ℕ) → length (joined s t) ≡ max (length s) (length t)
unfolding joined
length_joined [] t = omega arith
length_joined (a ∷ s) [] = omega arith
length_joined (a ∷ s) (b ∷ t) = omega (arith, length_joined s t)

-- a loop from the last lengths on
pub record Widening (s t lens : List ℕ) (rank k : ℕ) : Type 0 where
  pub long : length lens ≡ 8
  pub same : (j : ℕ) → j < k → get_or lens (rank - 1 - j) 0 ≡ get_or (joined (reverse s) (reverse t)) j 1

pub widening_none : (s t lens : List ℕ) (rank : ℕ) → length lens ≡ 8 → Widening s t lens rank 0
widening_none s t lens rank h = record { long = h; same = λ j l. absurd (omega arith) }

module _ (s t lens : List ℕ) (rank : ℕ) where
  pub widening_more : (k a b v : ℕ) → k < rank → rank ≤ 8 → a ≡ get_or (reverse s) k 1 → b ≡ get_or (reverse t) k 1 → v ≡ pick (eqb a 1) b a →
      Widening s t lens rank k → Widening s t (set lens (rank - 1 - k) v) rank (k + 1)
  widening_more k a b v l few p q e w =
      let there : rank - 1 - k < length lens = omega (arith, w.long) in
      record {
        long = length-set lens (rank - 1 - k) v ∙ w.long;
        same = below_more _ _
            (λ j h. let ne : rank - 1 - j ≢ rank - 1 - k = omega arith in get_or-set_other lens (rank - 1 - k) (rank - 1 - j) v 0 ne ∙ w.same j h)
            (get_or-set_same lens (rank - 1 - k) v 0 there
            ∙ (e
            ∙ (ap (λ x. pick (eqb x 1) b x) p
            ∙ (ap (λ x. pick (eqb (get_or (reverse s) k 1) 1) x (get_or (reverse s) k 1)) q ∙ sym (get_d_joined k (reverse s) (reverse t))))));
      }

  pub widened : rank ≡ max (length s) (length t) → Widening s t lens rank rank → rank ≤ 8 → take rank lens ≡ wide s t
  unfolding wide
  widened most w few =
      let l = length-reverse s in
      let m = length-reverse t in
      let js = joined (reverse s) (reverse t) in
      let n : length js ≡ rank = omega (arith, length_joined (reverse s) (reverse t)) in
      let o : length (take rank lens) ≡ rank = length-take-le rank lens (omega (arith, w.long)) in
      ext_get_or 0 (take rank lens) (reverse js) (o ∙ (sym n ∙ sym (length-reverse js))) (λ i h.
      let i-back : rank - 1 - (rank - 1 - i) ≡ i = omega arith in
      let i-there : length js - 1 - i ≡ rank - 1 - i = omega arith in
      let i-in : i < length js = omega arith in
      let j-in : rank - 1 - i < length js = omega arith in
      get_or-take rank lens i 0 (omega arith)
      ∙ (ap (λ x. get_or lens x 0) (sym i-back)
      ∙ (w.same (rank - 1 - i) (omega arith)
      ∙ (get_or_default js (rank - 1 - i) 1 0 j-in ∙ (ap (λ x. get_or js x 0) (sym i-there) ∙ sym (get_or-reverse js i 0 i-in))))))

pub fits_zip : (s t : List ℕ) → list_all (λ p. fits_one p.0 p.1) (zip (reverse s) (reverse t)) ≡ fit s t
unfolding fit
fits_zip s t = joins_zip (reverse s) (reverse t)

-- ---- one axis after the other, from the last on
fits_first : (b : ℕ) → fits_one 1 b ≡ true
fits_first b = grind arith

fits_second : (a : ℕ) → fits_one a 1 ≡ true
fits_second a = grind arith

pub joins_all : (n : ℕ) (s t : List ℕ) → length s ≤ n → length t ≤ n → ((j : ℕ) → j < n → fits_one (get_or s j 1) (get_or t j 1) ≡ true) → joins s t ≡ true
unfolding joins
joins_all n [] t l m h = refl
joins_all n (a ∷ s) [] l m h = refl
joins_all n (a ∷ s) (b ∷ t) l m h =
    and_from _ _ (h 0 (omega arith)) (joins_all (n - 1) s t (omega arith) (omega arith) (λ j k. h (suc j) (omega arith)))

pub joins_none : (k : ℕ) (s t : List ℕ) → fits_one (get_or s k 1) (get_or t k 1) ≡ false → joins s t ≡ false
unfolding joins
joins_none k [] t e = sym (fits_first (get_or t k 1)) ∙ e
joins_none k (a ∷ s) [] e = sym (fits_second (get_or (a ∷ s) k 1)) ∙ e
joins_none zero (a ∷ s) (b ∷ t) e = and_left _ _ e
joins_none (suc k) (a ∷ s) (b ∷ t) e = and_right _ _ (joins_none k s t e)

pub not_widened : (s t : List ℕ) (k a b : ℕ) → a ≡ get_or (reverse s) k 1 → b ≡ get_or (reverse t) k 1 → fits_one a b ≡ false → fit s t ≡ false
unfolding fit
not_widened s t k a b p q e =
    joins_none k (reverse s) (reverse t) (ap (λ x. fits_one x (get_or (reverse t) k 1)) (sym p) ∙ (ap (λ x. fits_one a x) (sym q) ∙ e))
