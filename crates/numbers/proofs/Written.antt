-- Every operation writes a value that the format holds, and what is written so is a pattern.
use Rattle.std.proofs.Common.{◌≡◌, ℕ, zero, suc, ◌^◌, ◌<◌, Bool, true, false, cond, not, T, pos, sym, refl, ap, ◌∙◌, subst, lit<}
use lib.Ieee.{Float, nan, inf, fin, binary64, fits, is_nan, nan_bits, to_bits, lt}
use lib.Ieee.Fits.{nan-fits, inf-fits, round-fits, cond-fits, neg-fits, add-fits, sub-fits, mul-fits, div-fits, sqrt-fits, of_int-fits}
use lib.Ieee.Bits.{of_bits-to_bits, to_bits-lt, of_bits-fits, to_bits-of_bits, nan_bits_is}
use Rattle.std.specs.Float as Floats
use Rattle.semantics.specs.declared.operation.Unary.{Unary}
use Rattle.semantics.specs.declared.operation.Unary.TheVariants.{Neg, Abs, Sqrt, Floor, Not}
use Rattle.semantics.specs.declared.operation.Binary.{Binary}
use Rattle.semantics.specs.declared.operation.Binary.TheVariants.{Add, Sub, Mul, Div, Less, Same, Least, Most}
use Rattle.numbers.specs.Binary64.{read, write, flag, bits_nan, neg_bits, abs_bits, sqrt_bits, floor_bits, not_bits, add_bits, sub_bits, mul_bits, div_bits, less_bits, same_bits, least_bits, most_bits, whole_bits, canonical_bits}
use Rattle.numbers.specs.Operations.{unary_bits, binary_bits, empty_bits, binary64 as numbers}
use Rattle.numbers.specs.Patterns.{Pattern, OnlyPatterns}

-- ---- writing

as_written : (v : Float) → cond (is_nan v) bits_nan (write v) ≡ write v
unfolding is_nan to_bits
as_written nan = refl
as_written (inf s) = refl
as_written (fin s m e) = refl

pub written : (v : Float) → T (fits binary64 v) → Pattern (write v)
unfolding canonical_bits
written v h =
    record {
      below = to_bits-lt binary64 v h;
      plain = ap (λ (b : Bool). cond b bits_nan (write v)) (nan_bits_is binary64 (write v) ∙ ap is_nan (of_bits-to_bits binary64 v h)) ∙ as_written v;
    }

-- what is read back from what was written
pub read_write : (v : Float) → T (fits binary64 v) → read (write v) ≡ v
read_write v h = of_bits-to_bits binary64 v h

written_nan : (v : Float) → is_nan v ≡ true → write v ≡ bits_nan
unfolding is_nan to_bits
written_nan nan e = refl
written_nan (inf s) e = absurd (subst (λ (b : Bool). T (not b)) e tt)
written_nan (fin s m e) p = absurd (subst (λ (b : Bool). T (not b)) p tt)

pub write_read : (n : ℕ) → n < 2 ^ 64 → write (read n) ≡ canonical_bits n
unfolding canonical_bits
write_read n h = go (is_nan (read n)) refl ∙ ap (λ (b : Bool). cond b bits_nan n) (sym (nan_bits_is binary64 n))
  where
    go : (b : Bool) → is_nan (read n) ≡ b → write (read n) ≡ cond (is_nan (read n)) bits_nan n
    go true e = written_nan (read n) e ∙ ap (λ (b : Bool). cond b bits_nan n) (sym e)
    go false e =
        to_bits-of_bits binary64 n h (subst (λ (b : Bool). T (not b)) (sym e) tt)
        ∙ ap (λ (b : Bool). cond b bits_nan n) (sym e)

pub read_fits : (n : ℕ) → T (fits binary64 (read n))
read_fits n = of_bits-fits binary64 n

pub canonical_pattern : (n : ℕ) → n < 2 ^ 64 → Pattern (canonical_bits n)
canonical_pattern n h = subst Pattern (write_read n h) (written (read n) (read_fits n))

no_other_nan : (n : ℕ) → Pattern n → read n ≡ nan → n ≡ bits_nan
unfolding to_bits
no_other_nan n p e = sym p.plain ∙ sym (write_read n p.below) ∙ ap write e

-- ---- what the operations on one number give

flag_pattern : (b : Bool) → Pattern (flag b)
unfolding canonical_bits nan_bits
flag_pattern true = record { below = lit< tt; plain = refl }
flag_pattern false = record { below = lit< tt; plain = refl }

pub abs_fits : (v : Float) → T (fits binary64 v) → T (fits binary64 (Floats.float_with_sign false v))
unfolding fits Floats.float_with_sign
abs_fits nan h = tt
abs_fits (inf s) h = tt
abs_fits (fin s zero e) h = h
abs_fits (fin s (suc m) e) h = h

pub sqrt_fits : (v : Float) → T (fits binary64 v) → T (fits binary64 (Floats.sqrt binary64 v))
sqrt_fits v h = sqrt-fits binary64 v

pub floor_fits : (v : Float) → T (fits binary64 (Floats.floor binary64 v))
unfolding Floats.round_with
floor_fits nan = nan-fits binary64
floor_fits (inf s) = inf-fits binary64 s
floor_fits (fin true m e) = round-fits binary64 true _ _
floor_fits (fin false m e) = round-fits binary64 false _ _

pub one_pattern : (k : Unary) (a : ℕ) → Pattern (numbers.one k a)
unfolding numbers unary_bits neg_bits abs_bits sqrt_bits floor_bits not_bits
one_pattern Neg a = written _ (neg-fits binary64 (read a) (read_fits a))
one_pattern Abs a = written _ (abs_fits (read a) (read_fits a))
one_pattern Sqrt a = written _ (sqrt_fits (read a) (read_fits a))
one_pattern Floor a = written _ (floor_fits (read a))
one_pattern Not a = flag_pattern _

-- ---- on two

pub two_pattern : (k : Binary) (a b : ℕ) → Pattern (numbers.two k a b)
unfolding numbers binary_bits add_bits sub_bits mul_bits div_bits less_bits same_bits least_bits most_bits
two_pattern Add a b = written _ (add-fits binary64 (read a) (read b))
two_pattern Sub a b = written _ (sub-fits binary64 (read a) (read b))
two_pattern Mul a b = written _ (mul-fits binary64 (read a) (read b))
two_pattern Div a b = written _ (div-fits binary64 (read a) (read b))
two_pattern Less a b = flag_pattern _
two_pattern Same a b = flag_pattern _
two_pattern Least a b = written _ (cond-fits binary64 (lt (read a) (read b)) (read a) (read b) (read_fits a) (read_fits b))
two_pattern Most a b = written _ (cond-fits binary64 (lt (read b) (read a)) (read a) (read b) (read_fits a) (read_fits b))

pub of_pattern : (n : ℕ) → Pattern (numbers.of n)
unfolding numbers whole_bits
of_pattern n = written _ (of_int-fits binary64 (pos n))

pub empty_pattern : (k : Binary) → Pattern (numbers.empty k)
unfolding numbers empty_bits canonical_bits nan_bits
empty_pattern Add = record { below = lit< tt; plain = refl }
empty_pattern Sub = record { below = lit< tt; plain = refl }
empty_pattern Mul = record { below = lit< tt; plain = refl }
empty_pattern Div = record { below = lit< tt; plain = refl }
empty_pattern Less = record { below = lit< tt; plain = refl }
empty_pattern Same = record { below = lit< tt; plain = refl }
empty_pattern Least = record { below = lit< tt; plain = refl }
empty_pattern Most = record { below = lit< tt; plain = refl }

pub only_patterns : OnlyPatterns
only_patterns =
    record {
      one = one_pattern;
      two = two_pattern;
      of = of_pattern;
      empty = empty_pattern;
      made = canonical_pattern;
      kept = λ n p. p.plain;
      again = write_read;
      no_other_nan = no_other_nan;
    }
