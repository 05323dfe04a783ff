-- Sums of products as the code has them, through the bits of its words.
use Rattle.std.proofs.Common.{◌≡◌, ℕ, ◌^◌, ◌<◌, T, ℤ, pos, ◌+ℤ◌, ◌*ℤ◌, nat_abs, sym, ap, ◌∙◌, subst, ap₂, arith, w64, Fits, SFits, to_z, of_z}
use lib.Signed.{non_neg}
use Rattle.std.proofs.lemmas.Int.{to_z-of_z}

-- a stride times an index
pub mul_is : {z j : ℤ} {i : ℕ} → SFits w64 z → SFits w64 j → j ≡ pos i → to_z w64 (of_z w64 z) *ℤ to_z w64 (of_z w64 j) ≡ z *ℤ pos i
mul_is {z} {j} f g e = ap₂ (λ a b. a *ℤ b) (to_z-of_z w64 z f) (to_z-of_z w64 j g ∙ e)

-- added to what there is
pub add_is : {x at y p : ℤ} → x ≡ at → y ≡ p → SFits w64 p → x +ℤ to_z w64 (of_z w64 y) ≡ at +ℤ p
add_is {x} {at} {y} {p} e q f = ap₂ (λ a b. a +ℤ to_z w64 (of_z w64 b)) e q ∙ ap (λ b. at +ℤ b) (to_z-of_z w64 p f)

pub kept_is : {x y : ℤ} → x ≡ y → SFits w64 y → to_z w64 (of_z w64 x) ≡ y
kept_is {x} {y} e f = ap (λ a. to_z w64 (of_z w64 a)) e ∙ to_z-of_z w64 y f

pub sfits_same : {x y : ℤ} → x ≡ y → SFits w64 y → SFits w64 x
sfits_same e f = subst (λ a. SFits w64 a) (sym e) f

-- an address, as an index
pub nat_casts : {x : ℤ} {n : ℕ} → x ≡ pos n → n < 2 ^ 62 → T (non_neg x) × Fits w64 (nat_abs x)
nat_casts {x} {n} e h =
    let fits : Fits w64 n = record { fits = omega arith } in
    subst (λ a. T (non_neg a) × Fits w64 (nat_abs a)) (sym e) (tt, fits)

pub nat_is : {x : ℤ} {n : ℕ} → x ≡ pos n → nat_abs x ≡ n
nat_is e = ap nat_abs e
