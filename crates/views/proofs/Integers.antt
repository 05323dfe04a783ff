-- A stride times an index, over the integers.
use Rattle.std.proofs.Common.{◌≡◌, ℕ, zero, suc, ◌+◌, ◌*◌, ℤ, pos, negsuc, ◌+ℤ◌, ◌*ℤ◌, neg_ℤ, sym, refl, ap, ◌∙◌, mul_assoc, mul-one, mul-add, arith}
use lib.IntN.{neg_ℤ-+ℤ, neg_ℤ-neg_ℤ}
use Rattle.std.proofs.lemmas.Int.{ints}

pub times_add : (z : ℤ) (a b : ℕ) → z *ℤ pos (a + b) ≡ z *ℤ pos a +ℤ z *ℤ pos b
times_add (pos m) a b = ap pos (mul-add m a b)
times_add (negsuc m) a b = ap (λ n. neg_ℤ (pos n)) (mul-add (suc m) a b) ∙ neg_ℤ-+ℤ (pos (suc m * a)) (pos (suc m * b))

pub times_times : (z : ℤ) (a b : ℕ) → z *ℤ pos a *ℤ pos b ≡ z *ℤ pos (a * b)
times_times (pos m) a b = ap pos (mul_assoc m a b)
times_times (negsuc m) a b = neg_times (suc m * a) b ∙ ap (λ n. neg_ℤ (pos n)) (mul_assoc (suc m) a b)
  where
    neg_times : (n b : ℕ) → neg_ℤ (pos n) *ℤ pos b ≡ neg_ℤ (pos (n * b))
    neg_times zero b = omega (arith, ints)
    neg_times (suc n) b = refl

pub times_neg : (z : ℤ) (a : ℕ) → neg_ℤ z *ℤ pos a ≡ neg_ℤ (z *ℤ pos a)
times_neg (pos zero) a = omega (arith, ints)
times_neg (pos (suc n)) a = refl
times_neg (negsuc n) a = sym (neg_ℤ-neg_ℤ (pos (suc n * a)))

pub times_one : (z : ℤ) → z *ℤ pos 1 ≡ z
times_one (pos m) = ap pos (mul-one m)
times_one (negsuc m) = ap (λ n. neg_ℤ (pos n)) (mul-one (suc m))
