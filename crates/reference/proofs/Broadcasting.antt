-- Places of a wider shape.
use Rattle.std.proofs.Common.{◌≡◌, ℕ, zero, suc, ◌+◌, ◌-◌, ◌<◌, ◌≤◌, eqb, List, [], ◌∷◌, length, get_or, drop, refl, ap, ◌∙◌, arith, length-drop}
use Rattle.std.proofs.lemmas.List.{get_or-drop}
use Rattle.semantics.specs.Shapes.{pick, In}
use Rattle.semantics.specs.Broadcast.{pinned, narrow}
use Rattle.semantics.proofs.Places.{inside_in, in_inside, length_inside}
use Rattle.semantics.proofs.Inside.{Spreads, inside_narrow}
use Rattle.reference.specs.Broadcasts.{Reaches}

length_pinned : (s is : List ℕ) → length s ≤ length is → length (pinned s is) ≡ length s
unfolding pinned
length_pinned [] is h = refl
length_pinned (d ∷ s) [] h = absurd (omega arith)
length_pinned (d ∷ s) (i ∷ is) h = ap suc (length_pinned s is (omega arith))

get_d_pinned : (k : ℕ) (s is : List ℕ) → k < length s → length s ≤ length is → get_or (pinned s is) k 0 ≡ pick (eqb (get_or s k 0) 1) 0 (get_or is k 0)
unfolding pinned
get_d_pinned k [] is l h = absurd (omega arith)
get_d_pinned k (d ∷ s) [] l h = absurd (omega arith)
get_d_pinned zero (d ∷ s) (i ∷ is) l h = refl
get_d_pinned (suc k) (d ∷ s) (i ∷ is) l h = get_d_pinned k s is (omega arith) (omega arith)

pub length_narrow : (s is : List ℕ) → length s ≤ length is → length (narrow s is) ≡ length s
unfolding narrow
length_narrow s is h = length_pinned s _ (omega (arith, length-drop (length is - length s) is))

pub get_d_narrow : (k : ℕ) (s is : List ℕ) → k < length s → length s ≤ length is → get_or (narrow s is) k 0 ≡ pick (eqb (get_or s k 0) 1) 0 (get_or is (length is - length s + k) 0)
unfolding narrow
get_d_narrow k s is l h =
    get_d_pinned k s (drop (length is - length s) is) l (omega (arith, length-drop (length is - length s) is)) ∙ ap (λ i. pick (eqb (get_or s k 0) 1) 0 i) (get_or-drop (length is - length s) is k 0)

length_pinned_le : (s is : List ℕ) → length (pinned s is) ≤ length is
unfolding pinned
length_pinned_le [] is = omega arith
length_pinned_le (d ∷ s) [] = omega arith
length_pinned_le (d ∷ s) (i ∷ is) = omega (arith, length_pinned_le s is)

length_narrow_le : (s is : List ℕ) → length (narrow s is) ≤ length is
unfolding narrow
length_narrow_le s is = omega (arith, length_pinned_le s (drop (length is - length s) is), length-drop (length is - length s) is)

-- a place of a shape to which s is broadcast leads to a place of s
pub reaches : {s w is : List ℕ} → Spreads s w → In w is → Reaches s is
reaches {s} {w} {is} r h =
    let i = inside_narrow r (inside_in w is h) in
    record { few = omega (arith, length_inside i, length_narrow_le s is); inside = in_inside i }
