-- The number of a place one axis after the other, and the place of a number with the last axis first.
use Rattle.std.proofs.Common.{◌≡◌, ℕ, zero, suc, ◌+◌, ◌-◌, ◌*◌, ◌/◌, ◌%◌, ◌<◌, ◌≤◌, List, [], ◌∷◌, ◌++◌, length, get_or, take, drop, set, sym, ap, ◌∙◌, mod-lt, mod-eq_of_lt, mul_assoc, mul_comm, add-mul, mul-le-mul_left, mul-zero, zero-mul, mul-one, div-one, arith}
use native.Mathlib.Nat.{div-div-eq-div-mul}
use lib.Arith.{digits_div, digits_mod, mod-mul}
use Rattle.std.proofs.lemmas.Nat.{div_below}
use Rattle.std.proofs.lemmas.List.{take_more, take-take, drop-set, length-take-le, append_assoc}
use Rattle.semantics.specs.Shapes.{size, flat, unflat}
use Rattle.semantics.proofs.Places.{Inside, no_axes, axis, flat_below}
use Rattle.encoding.proofs.Sizes.{size_push}

pub flat_push : (s is : List ℕ) (d i : ℕ) → length is ≡ length s → flat (s ++ d ∷ []) (is ++ i ∷ []) ≡ flat s is * d + i
unfolding flat size
flat_push [] [] d i e = omega (arith, mul-one i)
flat_push [] (j ∷ is) d i e = absurd (omega arith)
flat_push (x ∷ s) [] d i e = absurd (omega arith)
flat_push (x ∷ s) (j ∷ is) d i e =
    let more = flat_push s is d i (omega arith) in
    let all = ap (λ n. j * n) (size_push s d) ∙ sym (mul_assoc j (size s) d) in
    omega (arith, add-mul (j * size s) (flat s is) d)

size_take_le : {s is : List ℕ} (k : ℕ) → Inside s is → size (take k s) ≤ size s
unfolding size flat
size_take_le zero h = omega (arith, flat_below h)
size_take_le (suc k) no_axes = omega arith
size_take_le (suc k) (axis l h) = mul-le-mul_left _ (size_take_le k h)

pub flat_take_le : {s is : List ℕ} (k : ℕ) → Inside s is → flat (take k s) (take k is) ≤ flat s is
unfolding size flat
flat_take_le zero h = omega arith
flat_take_le (suc k) no_axes = omega arith
flat_take_le (suc k) (axis {i = i} {ds = ds} l h) =
    let more = flat_take_le k h in
    let some = mul-le-mul_left i (size_take_le k h) in
    omega arith

-- one axis more of a place
module _ (lens indices : List ℕ) (r k : ℕ) (long : r ≤ length lens) (much : r ≤ length indices) (inside : Inside (take r lens) (take r indices)) (more : k < r) where
  pub flat_more : flat (take (k + 1) lens) (take (k + 1) indices) ≡ flat (take k lens) (take k indices) * get_or lens k 0 + get_or indices k 0
  flat_more =
      let l : k < length lens = omega arith in
      let m : k < length indices = omega arith in
      let p : length (take k lens) ≡ k = length-take-le k lens (omega arith) in
      let q : length (take k indices) ≡ k = length-take-le k indices (omega arith) in
      rw (take_more lens k 0 l, take_more indices k 0 m) (flat_push (take k lens) (take k indices) (get_or lens k 0) (get_or indices k 0) (q ∙ sym p))

  pub flat_more_below : flat (take k lens) (take k indices) * get_or lens k 0 + get_or indices k 0 < size (take r lens)
  flat_more_below =
      let low = flat_take_le (k + 1) inside in
      let one : take (k + 1) (take r lens) ≡ take (k + 1) lens = take-take (k + 1) r lens (omega arith) in
      let two : take (k + 1) (take r indices) ≡ take (k + 1) indices = take-take (k + 1) r indices (omega arith) in
      let same : flat (take (k + 1) (take r lens)) (take (k + 1) (take r indices)) ≡ flat (take (k + 1) lens) (take (k + 1) indices) = cc in
      omega (arith, flat_more, flat_below inside)

-- the last axis of the place of a number
some_left : (m d n : ℕ) → n < m * d → 0 < m
some_left zero d n h = absurd (omega (arith, zero-mul d))
some_left (suc m) d n h = omega arith

some_right : (m d n : ℕ) → n < m * d → 0 < d
some_right m zero n h = absurd (omega (arith, mul-zero m))
some_right m (suc d) n h = omega arith

pub unflat_push : (s : List ℕ) (d n : ℕ) → n < size s * d → unflat (s ++ d ∷ []) n ≡ unflat s (n / d) ++ n % d ∷ []
unfolding unflat size
unflat_push [] d n h =
    let small : n < d = omega arith in
    ap (λ x. x ∷ []) (div-one n ∙ sym (mod-eq_of_lt small))
unflat_push (x ∷ s) d n h =
    let all : n < x * (size s * d) = omega (arith, mul_assoc x (size s) d) in
    let some : 0 < size s * d = some_right x (size s * d) n all in
    let left : 0 < size s = some_left (size s) d 0 some in
    let right : 0 < d = some_right (size s) d 0 some in
    let low : n % d < d = mod-lt n right in
    let more = unflat_push s d (n % (size s * d)) (mod-lt n some) in
    let split : n % (size s * d) ≡ (n / d % size s) * d + n % d = mod-mul n left right in
    let first : n / (size s * d) ≡ n / d / size s = ap (λ m. n / m) (mul_comm (size s) d) ∙ sym (div-div-eq-div-mul n d (size s)) in
    let rest : n % (size s * d) / d ≡ n / d % size s = ap (λ m. m / d) split ∙ digits_div (n / d % size s) low in
    let last : n % (size s * d) % d ≡ n % d = ap (λ m. m % d) split ∙ digits_mod (n / d % size s) low in
    let whole = size_push s d in
    cc

-- one index more of the place of a number, from the last on
module _ (lens indices : List ℕ) (r j k n rest : ℕ) (long : r ≤ length lens) (there : j < length indices) (step : k ≡ j + 1) (more : j < r) (below : rest < size (take k lens)) where
  in_lens : j < length lens
  in_lens = omega arith

  lens_more : take k lens ≡ take j lens ++ get_or lens j 0 ∷ []
  lens_more = ap (λ m. take m lens) step ∙ take_more lens j 0 in_lens

  below_product : rest < size (take j lens) * get_or lens j 0
  below_product = omega (arith, ap size lens_more, size_push (take j lens) (get_or lens j 0))

  pub length_some : 0 < get_or lens j 0
  length_some = some_right (size (take j lens)) (get_or lens j 0) rest below_product

  pub rest_below : rest / get_or lens j 0 < size (take j lens)
  rest_below = div_below rest (get_or lens j 0) (size (take j lens)) length_some below_product

  pub unflat_more : unflat (take k lens) rest ++ take (r - k) (drop k indices) ≡ unflat (take r lens) n →
      unflat (take j lens) (rest / get_or lens j 0) ++ take (r - j) (drop j (set indices j (rest % get_or lens j 0))) ≡ unflat (take r lens) n
  unflat_more e =
      let v = rest % get_or lens j 0 in
      let one : r - j ≡ suc (r - k) = omega arith in
      let put =
      ap (λ xs. take (r - j) xs) (drop-set indices j v there)
      ∙ (ap (λ m. take m (v ∷ drop (j + 1) indices)) one ∙ ap (λ m. v ∷ take (r - k) (drop m indices)) (sym step)) in
      let push = ap (λ xs. unflat xs rest) lens_more ∙ unflat_push (take j lens) (get_or lens j 0) rest below_product in
      ap (λ xs. unflat (take j lens) (rest / get_or lens j 0) ++ xs) put
      ∙ (sym (append_assoc (unflat (take j lens) (rest / get_or lens j 0)) (v ∷ []) (take (r - k) (drop k indices)))
      ∙ (ap (λ xs. xs ++ take (r - k) (drop k indices)) (sym push) ∙ e))

pub unflat_all : (lens indices : List ℕ) (r k n rest : ℕ) → k ≤ 0 →
    unflat (take k lens) rest ++ take (r - k) (drop k indices) ≡ unflat (take r lens) n → take r indices ≡ unflat (take r lens) n
unfolding unflat
unflat_all lens indices r zero n rest h e = ap (λ m. take m indices) (omega arith) ∙ e
unflat_all lens indices r (suc k) n rest h e = absurd (omega arith)
