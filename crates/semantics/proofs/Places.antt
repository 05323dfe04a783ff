-- A place of a shape, index by index, and its number.
use Rattle.std.proofs.Common.{◌≡◌, ℕ, zero, suc, ◌*◌, ◌%◌, ◌<◌, List, [], ◌∷◌, length, get_or, refl, ap, div-add-mod', arith}
use Rattle.std.proofs.lemmas.Nat.{mul-add-lt, div-mul-add, mod-mul-add, div_below, mod_below}
use Rattle.semantics.specs.Shapes.{size, In, flat, unflat}
use Rattle.semantics.specs.PlaceLaws.{PlacesNumbered}

-- the same as `In`, for proofs by induction
pub data Inside : List ℕ → List ℕ → Type 0 where
  no_axes : Inside [] []
  axis : {d i : ℕ} {ds is : List ℕ} → i < d → Inside ds is → Inside (d ∷ ds) (i ∷ is)

pub inside_in : (s is : List ℕ) → In s is → Inside s is
unfolding In
inside_in [] [] h = no_axes
inside_in [] (i ∷ is) h = absurd (omega (arith, h.0))
inside_in (d ∷ s) [] h = absurd (omega (arith, h.0))
inside_in (d ∷ s) (i ∷ is) h =
    axis (h.1 0 (omega arith)) (inside_in s is (omega (arith, h.0), λ k l. h.1 (suc k) (omega arith)))

pub length_inside : {s is : List ℕ} → Inside s is → length is ≡ length s
length_inside no_axes = refl
length_inside (axis l h) = ap suc (length_inside h)

pub get_d_inside : {s is : List ℕ} (k : ℕ) → Inside s is → k < length s → get_or is k 0 < get_or s k 0
get_d_inside k no_axes l = absurd (omega arith)
get_d_inside zero (axis i h) l = i
get_d_inside (suc k) (axis i h) l = get_d_inside k h (omega arith)

pub in_inside : {s is : List ℕ} → Inside s is → In s is
unfolding In
in_inside h = (length_inside h, λ k l. get_d_inside k h l)

-- a shape with a number below its size has places along its later axes
some_below : (n d m : ℕ) → n < d * m → 0 < m
some_below n d zero h = absurd (omega arith)
some_below n d (suc m) h = omega arith

pub inside_unflat : (s : List ℕ) (n : ℕ) → n < size s → Inside s (unflat s n)
unfolding size unflat
inside_unflat [] n h = no_axes
inside_unflat (d ∷ ds) n h =
    let p = some_below n d (size ds) h in
    axis (div_below n (size ds) d p h) (inside_unflat ds (n % size ds) (mod_below n (size ds) p))

pub flat_unflat : (s : List ℕ) (n : ℕ) → n < size s → flat s (unflat s n) ≡ n
unfolding size flat unflat
flat_unflat [] n h = omega arith
flat_unflat (d ∷ ds) n h =
    let p = some_below n d (size ds) h in
    rw (flat_unflat ds (n % size ds) (mod_below n (size ds) p)) (div-add-mod' n (size ds))

pub flat_below : {s is : List ℕ} → Inside s is → flat s is < size s
unfolding size flat
flat_below no_axes = omega arith
flat_below (axis {d} {i} {ds} {is} l h) = omega (arith, mul-add-lt i (size ds) (flat ds is) d l (flat_below h))

pub unflat_flat : {s is : List ℕ} → Inside s is → unflat s (flat s is) ≡ is
unfolding size flat unflat
unflat_flat no_axes = refl
unflat_flat (axis {d} {i} {ds} {is} l h) =
    let b = flat_below h in
    rw (div-mul-add i (size ds) (flat ds is) b, mod-mul-add i (size ds) (flat ds is) b, unflat_flat h)

pub places_numbered : PlacesNumbered
places_numbered s is n =
    (λ h. (in_inside (inside_unflat s n h), flat_unflat s n h), λ h. (flat_below (inside_in s is h), unflat_flat (inside_in s is h)))
