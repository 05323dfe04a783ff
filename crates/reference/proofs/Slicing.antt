-- Slices axis by axis.
use Rattle.std.proofs.Common.{◌≡◌, ℕ, zero, suc, ◌+◌, ◌/◌, ◌<◌, ◌≤◌, true, ◌&&◌, List, [], ◌∷◌, length, get_or, drop, sym, refl, ap, ◌∙◌, subst, arith}
use Rattle.std.proofs.lemmas.List.{drop_more, drop_all, length-map, get_or-map}
use Rattle.std.proofs.lemmas.Bool.{and_parts, false≢true}
use Rattle.semantics.specs.Parts.{Part, place_of, part_fits, parts_fit, places_of, apart, in_part, in_parts, which_one}
use Rattle.semantics.proofs.Axes.{fits_step}
use Rattle.semantics.specs.declared.slice.Slice.{Slice}
use Rattle.semantics.specs.Slices.{part_of, parts_of}
use Rattle.reference.specs.PartsOf.{Stepping}

-- ---- whether slices fit
pub parts_fit_length : (ps : List Part) (s : List ℕ) → parts_fit ps s ≡ true → length ps ≡ length s
unfolding parts_fit
parts_fit_length [] [] e = refl
parts_fit_length [] (d ∷ s) e = absurd (false≢true e)
parts_fit_length (p ∷ ps) [] e = absurd (false≢true e)
parts_fit_length (p ∷ ps) (d ∷ s) e = ap suc (parts_fit_length ps s (and_parts (part_fits p d) (parts_fit ps s) e).1)

pub slices_length : (xs : List Slice) (s : List ℕ) → parts_fit (parts_of xs) s ≡ true → length xs ≡ length s
slices_length xs s e = sym (length-map xs part_of) ∙ parts_fit_length (parts_of xs) s e

module _ (d : Slice) (xs : List Slice) (s : List ℕ) (k : ℕ) where
  pub fit_drop : k < length xs → k < length s →
      parts_fit (parts_of (drop k xs)) (drop k s) ≡ (part_fits (part_of (get_or xs k d)) (get_or s k 0) && parts_fit (parts_of (drop (k + 1) xs)) (drop (k + 1) s))
  unfolding parts_fit
  fit_drop l m = ap (λ ys. parts_fit (parts_of ys) (drop k s)) (drop_more xs k d l) ∙ ap (λ t. parts_fit (parts_of (get_or xs k d ∷ drop (k + 1) xs)) t) (drop_more s k 0 m)

  pub fit_end : length xs ≤ k → length s ≤ k → parts_fit (parts_of (drop k xs)) (drop k s) ≡ true
  unfolding parts_fit
  fit_end l m = ap (λ ys. parts_fit (parts_of ys) (drop k s)) (drop_all k xs l) ∙ ap (λ t. parts_fit [] t) (drop_all k s m)

pub fits_at : (d : Slice) (xs : List Slice) (s : List ℕ) (k : ℕ) → parts_fit (parts_of xs) s ≡ true → k < length s → part_fits (part_of (get_or xs k d)) (get_or s k 0) ≡ true
unfolding parts_fit
fits_at d [] [] k e l = absurd (omega arith)
fits_at d [] (n ∷ s) k e l = absurd (false≢true e)
fits_at d (x ∷ xs) [] k e l = absurd (omega arith)
fits_at d (x ∷ xs) (n ∷ s) zero e l = (and_parts (part_fits (part_of x) n) (parts_fit (parts_of xs) s) e).0
fits_at d (x ∷ xs) (n ∷ s) (suc k) e l = fits_at d xs s k (and_parts (part_fits (part_of x) n) (parts_fit (parts_of xs) s) e).1 (omega arith)

-- ---- the places that slices show
pub length_places_of : (xs : List Slice) (is : List ℕ) → length xs ≤ length is → length (places_of (parts_of xs) is) ≡ length xs
unfolding places_of
length_places_of [] is h = refl
length_places_of (x ∷ xs) [] h = absurd (omega arith)
length_places_of (x ∷ xs) (i ∷ is) h = ap suc (length_places_of xs is (omega arith))

pub get_d_places_of : (d : Slice) (xs : List Slice) (is : List ℕ) (k : ℕ) → k < length xs → length xs ≤ length is → get_or (places_of (parts_of xs) is) k 0 ≡ place_of (part_of (get_or xs k d)) (get_or is k 0)
unfolding places_of
get_d_places_of d [] is k l h = absurd (omega arith)
get_d_places_of d (x ∷ xs) [] k l h = absurd (omega arith)
get_d_places_of d (x ∷ xs) (i ∷ is) zero l h = refl
get_d_places_of d (x ∷ xs) (i ∷ is) (suc k) l h = get_d_places_of d xs is k (omega arith) (omega arith)

-- ---- steps
pub stepping_at : (d : Slice) (xs : List Slice) (k : ℕ) → Stepping xs → k < length xs → 0 < (get_or xs k d).step
stepping_at d xs k h l = subst (λ n. 0 < n) (get_or-map (λ (s : Slice). s.step) xs k d 0 l) (h k l)

pub stepping_from : (d : Slice) (xs : List Slice) (s : List ℕ) → parts_fit (parts_of xs) s ≡ true → Stepping xs
stepping_from d xs s e k l =
    let there : k < length s = omega (arith, slices_length xs s e) in
    subst (λ n. 0 < n) (sym (get_or-map (λ (x : Slice). x.step) xs k d 0 l)) (fits_step (part_of (get_or xs k d)) (get_or s k 0) (fits_at d xs s k e there))

-- ---- whether a place is shown, and at which place
module _ (d : Slice) (xs : List Slice) (is : List ℕ) (k : ℕ) where
  pub in_drop : k < length xs → k < length is →
      in_parts (parts_of (drop k xs)) (drop k is) ≡ (in_part (part_of (get_or xs k d)) (get_or is k 0) && in_parts (parts_of (drop (k + 1) xs)) (drop (k + 1) is))
  unfolding in_parts
  in_drop l m = ap (λ ys. in_parts (parts_of ys) (drop k is)) (drop_more xs k d l) ∙ ap (λ js. in_parts (parts_of (get_or xs k d ∷ drop (k + 1) xs)) js) (drop_more is k 0 m)

  pub in_end : length xs ≤ k → in_parts (parts_of (drop k xs)) (drop k is) ≡ true
  unfolding in_parts
  in_end l = ap (λ ys. in_parts (parts_of ys) (drop k is)) (drop_all k xs l)

pub length_which_one : (xs : List Slice) (is : List ℕ) → length xs ≤ length is → length (which_one (parts_of xs) is) ≡ length xs
unfolding which_one
length_which_one [] is h = refl
length_which_one (x ∷ xs) [] h = absurd (omega arith)
length_which_one (x ∷ xs) (i ∷ is) h = ap suc (length_which_one xs is (omega arith))

pub get_d_which_one : (d : Slice) (xs : List Slice) (is : List ℕ) (k : ℕ) → k < length xs → length xs ≤ length is → get_or (which_one (parts_of xs) is) k 0 ≡ apart (part_of (get_or xs k d)) (get_or is k 0) / (get_or xs k d).step
unfolding which_one
get_d_which_one d [] is k l h = absurd (omega arith)
get_d_which_one d (x ∷ xs) [] k l h = absurd (omega arith)
get_d_which_one d (x ∷ xs) (i ∷ is) zero l h = refl
get_d_which_one d (x ∷ xs) (i ∷ is) (suc k) l h = get_d_which_one d xs is k (omega arith) (omega arith)
