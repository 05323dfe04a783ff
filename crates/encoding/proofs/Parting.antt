-- Slices axis by axis.
use Rattle.std.proofs.Common.{◌≡◌, ℕ, zero, suc, ◌<◌, false, ◌&&◌, List, [], ◌∷◌, length, get_or, sym, refl, ap, ◌∙◌, arith}
use Rattle.std.specs.List.{list_all, zip}
use Rattle.std.proofs.lemmas.List.{length-map}
use Rattle.std.proofs.lemmas.Bool.{and_right}
use Rattle.semantics.specs.declared.slice.Slice.{Slice}
use Rattle.semantics.specs.Slices.{part_of, parts_of}
use Rattle.semantics.specs.Parts.{Part, part_fits, parts_fit, part_shape}

-- as many slices as axes fit where each fits its axis
pub all_parts_fit : (xs : List Slice) (s : List ℕ) → length xs ≡ length s → list_all (λ q. part_fits (part_of q.0) q.1) (zip xs s) ≡ parts_fit (parts_of xs) s
unfolding parts_fit
all_parts_fit [] [] e = refl
all_parts_fit [] (d ∷ s) e = absurd (omega arith)
all_parts_fit (x ∷ xs) [] e = absurd (omega arith)
all_parts_fit (x ∷ xs) (d ∷ s) e = ap (λ b. part_fits (part_of x) d && b) (all_parts_fit xs s (omega arith))

pub parts_fit_other : (ps : List Part) (s : List ℕ) → (length ps ≡ length s → ⊥) → parts_fit ps s ≡ false
unfolding parts_fit
parts_fit_other [] [] h = absurd (h refl)
parts_fit_other [] (d ∷ s) h = refl
parts_fit_other (p ∷ ps) [] h = refl
parts_fit_other (p ∷ ps) (d ∷ s) h = and_right _ _ (parts_fit_other ps s (λ e. h (ap suc e)))

pub slices_other : (xs : List Slice) (s : List ℕ) → (length xs ≡ length s → ⊥) → parts_fit (parts_of xs) s ≡ false
slices_other xs s h = parts_fit_other (parts_of xs) s (λ e. h (sym (length-map xs part_of) ∙ e))

-- ---- the shape of slices
pub length_part_shape : (xs : List Slice) → length (part_shape (parts_of xs)) ≡ length xs
unfolding part_shape
length_part_shape [] = refl
length_part_shape (x ∷ xs) = ap suc (length_part_shape xs)

pub get_d_part_shape : (d : Slice) (xs : List Slice) (k : ℕ) → k < length xs → get_or (part_shape (parts_of xs)) k 0 ≡ (get_or xs k d).many
unfolding part_shape
get_d_part_shape d [] k l = absurd (omega arith)
get_d_part_shape d (x ∷ xs) zero l = refl
get_d_part_shape d (x ∷ xs) (suc k) l = get_d_part_shape d xs k (omega arith)
