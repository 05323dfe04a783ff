-- The number of places of a shape, one length after the other, and capped at the largest word.
use Rattle.std.proofs.Common.{◌≡◌, ℕ, zero, suc, ◌+◌, ◌*◌, ◌<◌, ◌≤◌, min, List, [], ◌∷◌, ◌++◌, length, get_or, take, sym, ap, ◌∙◌, inl, inr, mul-le-mul_right, mul_assoc, one-mul, mul-zero, mul-one, mul-suc, arith}
use native.Mathlib.Nat.{min-eq_left, min-eq_right}
use Rattle.std.proofs.lemmas.List.{take_more}
use Rattle.std.proofs.lemmas.Bool.{cases_lt}
use Rattle.std.specs.List.{fold}
use Rattle.semantics.specs.Shapes.{size}

pub size_push : (xs : List ℕ) (y : ℕ) → size (xs ++ y ∷ []) ≡ size xs * y
unfolding size
size_push [] y = mul-one y ∙ sym (one-mul y)
size_push (x ∷ xs) y = ap (λ n. x * n) (size_push xs y) ∙ sym (mul_assoc x (size xs) y)

pub size_more : (xs : List ℕ) (k : ℕ) → k < length xs → size (take (k + 1) xs) ≡ size (take k xs) * get_or xs k 0
size_more xs k h = ap size (take_more xs k 0 h) ∙ size_push (take k xs) (get_or xs k 0)

-- a product capped on the way is the product capped
min_mul_over : (p d most : ℕ) → most ≤ p → min (most * d) most ≡ min (p * d) most
min_mul_over p zero most h = ap (λ n. min n most) (mul-zero most ∙ sym (mul-zero p))
min_mul_over p (suc d) most h =
    let there : most ≤ most * suc d = simp mul-suc (omega arith) in
    let beyond : most * suc d ≤ p * suc d = mul-le-mul_right (suc d) h in
    let all : most ≤ p * suc d = omega arith in min-eq_right there ∙ sym (min-eq_right all)

pub min_mul_capped : (p d most : ℕ) → min (min p most * d) most ≡ min (p * d) most
min_mul_capped p d most =
    elim (cases_lt p most) [
      | inl h ↦ let low : p ≤ most = omega arith in ap (λ n. min (n * d) most) (min-eq_left low)
      | inr h ↦ ap (λ n. min (n * d) most) (min-eq_right h) ∙ min_mul_over p d most h
    ]

-- so is one that is capped at each length
pub size_capped : (ds : List ℕ) (p most : ℕ) → fold (λ q d. min (q * d) most) (min p most) ds ≡ min (p * size ds) most
unfolding size
size_capped [] p most = ap (λ n. min n most) (sym (mul-one p))
size_capped (d ∷ ds) p most =
    ap (λ q. fold (λ q d. min (q * d) most) q ds) (min_mul_capped p d most)
    ∙ (size_capped ds (p * d) most ∙ ap (λ n. min n most) (mul_assoc p d (size ds)))
