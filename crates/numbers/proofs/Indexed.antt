-- An index is the whole number that its pattern stands for.
use Rattle.std.proofs.Common.{◌≡◌, ℕ, ◌-◌, ◌*◌, ◌/◌, ◌^◌, ◌<◌, ◌≤◌, min, Bool, true, false, cond, not, ◌&&◌, ◌||◌, T, eqb, pos, sym, refl, ap, ◌∙◌, inl, inr, le_refl, le_of_lt, zero-mul, arith, le→leb}
use mathlib.Core.Bool.{beq}
use native.Mathlib.Nat.{zero-div}
use lib.Ieee.{Float, nan, inf, fin, Format, binary64, up, down, eq, of_int, to_unsigned, in_unsigned, in_float}
use lib.Ieee.Fits.{of_int-fits, down_pos}
use lib.Ieee.Casts.{to_unsigned-lt}
use lib.Ieee.Back.{unsigned_back}
use lib.Ieee.Nearest.{div_same}
use Rattle.std.proofs.lemmas.Bool.{true≢false, eqb-true, eq-eqb, and_parts, or_cases, cond-true}
use Rattle.semantics.specs.declared.operation.Unary.TheVariants.{Not}
use Rattle.semantics.specs.declared.operation.Binary.TheVariants.{Same}
use Rattle.numbers.specs.Binary64.{read, flag, bits_one, not_bits, same_bits, whole_bits, index_bits}
use Rattle.numbers.specs.Operations.{unary_bits, binary_bits, binary64 as numbers}
use Rattle.numbers.specs.Indices.{Indices}
use Rattle.numbers.proofs.Written.{read_write}

-- ---- the same numbers have the same whole part

same_sign : (s t : Bool) (n : ℕ) → beq s t ≡ true → cond s 0 n ≡ cond t 0 n
same_sign true true n e = refl
same_sign true false n e = absurd (true≢false (sym e))
same_sign false true n e = absurd (true≢false (sym e))
same_sign false false n e = refl

-- 0 has either sign
none : (s : Bool) (k c : ℕ) → k ≡ 0 → cond s 0 (min k c) ≡ 0
none true k c e = refl
none false k c e = omega arith

eq_unsigned : (w : ℕ) (x y : Float) → eq x y ≡ true → to_unsigned w x ≡ to_unsigned w y
unfolding eq to_unsigned
eq_unsigned w nan y e = absurd (true≢false (sym e))
eq_unsigned w (inf s) nan e = absurd (true≢false (sym e))
eq_unsigned w (inf s) (inf t) e = same_sign s t (2 ^ w - 1) e
eq_unsigned w (inf s) (fin t n d) e = absurd (true≢false (sym e))
eq_unsigned w (fin s m e) nan h = absurd (true≢false (sym h))
eq_unsigned w (fin s m e) (inf t) h = absurd (true≢false (sym h))
eq_unsigned w (fin s m e) (fin t n d) h =
    let a = m * up e * down d in
    let p = and_parts (eqb a (n * up d * down e)) (beq s t || eqb a 0) h in
    let q : m * up e / down e ≡ n * up d / down d =
    div_same (m * up e) (down e) (n * up d) (down d) (down_pos e) (down_pos d) (eqb-true a (n * up d * down e) p.0) in
    elim (or_cases (beq s t) (eqb a 0) p.1) [
      | inl f ↦ same_sign s t (min (m * up e / down e) (2 ^ w - 1)) f ∙ ap (λ (k : ℕ). cond t 0 (min k (2 ^ w - 1))) q
      | inr z ↦
          let o : m * up e / down e ≡ 0 =
          div_same (m * up e) (down e) 0 (down d) (down_pos e) (down_pos d) (eqb-true a 0 z ∙ sym (zero-mul (down e))) ∙ zero-div (down d) in
          none s (m * up e / down e) (2 ^ w - 1) o ∙ sym (none t (n * up d / down d) (2 ^ w - 1) (sym q ∙ o))
    ]

-- a number that is whole is the same as itself
eq_itself : (f : Format) (w : ℕ) (x : Float) → T (in_unsigned f w x) → eq x x ≡ true
unfolding eq in_unsigned
eq_itself f w nan h = absurd h
eq_itself f w (inf s) h = absurd h
eq_itself f w (fin true m e) h = ap (λ (b : Bool). b && true) (eq-eqb (m * up e * down e) (m * up e * down e) refl)
eq_itself f w (fin false m e) h = ap (λ (b : Bool). b && true) (eq-eqb (m * up e * down e) (m * up e * down e) refl)

-- ---- whole numbers below 2^32 are numbers

module _ (n : ℕ) (h : n < 2 ^ 32) where
  whole_back : T (in_unsigned binary64 32 (of_int binary64 (pos n))) × (to_unsigned 32 (of_int binary64 (pos n)) ≡ n)
  unfolding in_float
  whole_back = unsigned_back binary64 32 n (le→leb n (2 ^ 53) (omega arith)) h

  read_whole : read (whole_bits n) ≡ of_int binary64 (pos n)
  unfolding whole_bits
  read_whole = read_write (of_int binary64 (pos n)) (of_int-fits binary64 (pos n))

-- ---- the index

flag_one : (b : Bool) → flag b ≡ bits_one → b ≡ true
flag_one true e = refl
flag_one false e = absurd (no e)
  where
    no : ◌≡◌ {A = ℕ} 0 bits_one → ⊥
    no p = omega arith

index_from : (x : Float) (n : ℕ) → n < 2 ^ 32 → eq x (of_int binary64 (pos n)) ≡ true
    → cond (eq x (of_int binary64 (pos (to_unsigned 32 x)))) (to_unsigned 32 x) (2 ^ 32) ≡ n
index_from x n h e =
    let u : to_unsigned 32 x ≡ n = eq_unsigned 32 x (of_int binary64 (pos n)) e ∙ (whole_back n h).1 in
    cond-true _ _ _ (ap (λ (k : ℕ). eq x (of_int binary64 (pos k))) u ∙ e) ∙ u

index_to : (x : Float) (n : ℕ) → n < 2 ^ 32 → cond (eq x (of_int binary64 (pos (to_unsigned 32 x)))) (to_unsigned 32 x) (2 ^ 32) ≡ n
    → eq x (of_int binary64 (pos n)) ≡ true
index_to x n h e = go (eq x (of_int binary64 (pos (to_unsigned 32 x)))) refl e
  where
    go : (b : Bool) → eq x (of_int binary64 (pos (to_unsigned 32 x))) ≡ b → cond b (to_unsigned 32 x) (2 ^ 32) ≡ n → eq x (of_int binary64 (pos n)) ≡ true
    go true p q = ap (λ (k : ℕ). eq x (of_int binary64 (pos k))) (sym q) ∙ p
    go false p q = absurd (omega arith)

pub index_bound : (a : ℕ) → numbers.index a ≤ 2 ^ 32
unfolding numbers index_bits
index_bound a = go (eq (read a) (of_int binary64 (pos (to_unsigned 32 (read a)))))
  where
    go : (b : Bool) → cond b (to_unsigned 32 (read a)) (2 ^ 32) ≤ 2 ^ 32
    go true = le_of_lt (to_unsigned-lt 32 (read a))
    go false = le_refl (2 ^ 32)

pub index_same : (a n : ℕ) → n < 2 ^ 32 → numbers.index a ≡ n → numbers.two Same a (numbers.of n) ≡ bits_one
unfolding numbers binary_bits index_bits same_bits
index_same a n h e =
    ap flag (ap (eq (read a)) (read_whole n h) ∙ index_to (read a) n h e)

pub index_found : (a n : ℕ) → n < 2 ^ 32 → numbers.two Same a (numbers.of n) ≡ bits_one → numbers.index a ≡ n
unfolding numbers binary_bits index_bits same_bits
index_found a n h e = index_from (read a) n h (sym (ap (eq (read a)) (read_whole n h)) ∙ flag_one _ e)

pub index_of : (n : ℕ) → n < 2 ^ 32 → numbers.index (numbers.of n) ≡ n
unfolding numbers index_bits
index_of n h =
    ap (λ (x : Float). cond (eq x (of_int binary64 (pos (to_unsigned 32 x)))) (to_unsigned 32 x) (2 ^ 32)) (read_whole n h)
    ∙ index_from (of_int binary64 (pos n)) n h (eq_itself binary64 32 (of_int binary64 (pos n)) (whole_back n h).0)

-- ---- truth

pub true_or_not : (a : ℕ) → numbers.one Not a ≡ flag (not (numbers.truth a))
unfolding numbers unary_bits not_bits
true_or_not a = refl

pub indices : Indices
indices = record { bound = index_bound; back = index_of; same = index_same; found = index_found; true_or_not = true_or_not }
