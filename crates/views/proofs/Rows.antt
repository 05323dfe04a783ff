-- Strides of numbers that lie rows first.
use Rattle.std.proofs.Common.{◌≡◌, ℕ, zero, suc, ◌+◌, ◌*◌, ◌<◌, ◌≤◌, List, [], ◌∷◌, length, get_or, take, drop, set, ℤ, pos, ◌+ℤ◌, ◌*ℤ◌, sym, refl, ap, ◌∙◌, ap₂, mul_comm, arith}
use Rattle.std.proofs.lemmas.List.{drop_more}
use Rattle.semantics.specs.Shapes.{size, flat}
use Rattle.semantics.specs.OrderLaws.{dot}
use Rattle.semantics.proofs.Places.{Inside, no_axes, axis, inside_in, length_inside}
use Rattle.views.specs.Walking.{RowMajor, row_strides}

pub dot_rows : {s is : List ℕ} → Inside s is → dot (row_strides s) is ≡ pos (flat s is)
unfolding dot row_strides flat
dot_rows no_axes = refl
dot_rows (axis {d} {i} {ds} {is} l h) = ap₂ (λ a b. pos a +ℤ b) (mul_comm (size ds) i) (dot_rows h)

-- strides past the last index do not count
pub dot_take : (zs : List ℤ) (is : List ℕ) (n : ℕ) → length is ≤ n → dot (take n zs) is ≡ dot zs is
unfolding dot
dot_take [] is zero l = refl
dot_take [] is (suc n) l = refl
dot_take (z ∷ zs) [] zero l = refl
dot_take (z ∷ zs) (i ∷ is) zero l = absurd (omega arith)
dot_take (z ∷ zs) [] (suc n) l = refl
dot_take (z ∷ zs) (i ∷ is) (suc n) l = ap (λ x. z *ℤ pos i +ℤ x) (dot_take zs is n (omega arith))

pub row_major_from : (s : List ℕ) (zs : List ℤ) (n : ℕ) → length s ≤ n → take n zs ≡ row_strides s → RowMajor s zs
row_major_from s zs n l e =
    record {
      far = λ is h.
          let inside = inside_in s is h in
          let few : length is ≤ n = omega (arith, length_inside inside) in
          sym (dot_take zs is n few) ∙ (ap (λ ys. dot ys is) e ∙ dot_rows inside);
    }

-- without places any strides will do
positive : (d n : ℕ) → 0 < d → d * n ≡ 0 → n ≡ 0
positive d zero l e = refl
positive zero (suc n) l e = absurd (omega arith)
positive (suc d) (suc n) l e = absurd (omega arith)

pub no_place : {s is : List ℕ} → Inside s is → size s ≡ 0 → ⊥
unfolding size
no_place no_axes e = omega arith
no_place (axis {d} {i} {ds} l h) e = no_place h (positive d (size ds) (omega arith) e)

pub row_major_none : (s : List ℕ) (zs : List ℤ) → size s ≡ 0 → RowMajor s zs
row_major_none s zs e = record { far = λ is h. absurd (no_place (inside_in s is h) e) }

pub size_drop : (s : List ℕ) (k : ℕ) → k < length s → size (drop k s) ≡ get_or s k 0 * size (drop (k + 1) s)
unfolding size
size_drop s k l = ap size (drop_more s k 0 l)

-- later axes have no more places, where there are any
pub size_drop_le : (s : List ℕ) (k : ℕ) → 0 < size s → (0 < size (drop k s)) × (size (drop k s) ≤ size s)
unfolding size
size_drop_le s zero p = (p, omega arith)
size_drop_le [] (suc k) p = (omega arith, omega arith)
size_drop_le (zero ∷ s) (suc k) p = absurd (omega arith)
size_drop_le (suc d ∷ s) (suc k) p =
    let some : 0 < size s = more (size s) p in
    let rest = size_drop_le s k some in
    (rest.0, omega arith)
  where
    more : (n : ℕ) → 0 < suc d * n → 0 < n
    more zero h = omega arith
    more (suc n) h = omega arith

pub row_strides_drop : (s : List ℕ) (k : ℕ) → k < length s → row_strides (drop k s) ≡ pos (size (drop (k + 1) s)) ∷ row_strides (drop (k + 1) s)
unfolding row_strides
row_strides_drop s k l = ap row_strides (drop_more s k 0 l)

pub drop_take_set : {A : Type 0} (r k : ℕ) (xs : List A) (y : A) → k < r → k < length xs → drop k (take r (set xs k y)) ≡ y ∷ drop (suc k) (take r xs)
drop_take_set r k [] y l m = absurd (omega arith)
drop_take_set zero k (x ∷ xs) y l m = absurd (omega arith)
drop_take_set (suc r) zero (x ∷ xs) y l m = refl
drop_take_set (suc r) (suc k) (x ∷ xs) y l m = drop_take_set r k xs y (omega arith) (omega arith)
