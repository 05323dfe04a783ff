-- Patterns that are no NaN's, by their bits.
use Rattle.std.proofs.Common.{◌≡◌, ℕ, ◌+◌, ◌%◌, ◌^◌, ◌≤◌, Bool, true, false, not, T, sym, refl, subst, arith}
use lib.Arith.{le→nltb}
use lib.Bits.{bit_or, or_add_and}
use lib.Ieee.{binary64, nan_bits}
use lib.Ieee.Bits.{nan_bits_above}
use Rattle.std.proofs.lemmas.Nat.{and_le_l, and_le_r}
use Rattle.std.proofs.lemmas.Bool.{cond-false}
use Rattle.numbers.specs.Binary64.{canonical_bits, bits_nan}
use Rattle.numbers.specs.Plain.{NoNan, Looked}

-- up to infinity's pattern, without the sign
pub plain_below : (a : ℕ) → a % 2 ^ 63 ≤ 0x7ff0_0000_0000_0000 → NoNan a
plain_below a h = record { plain = subst (λ (b : Bool). T (not b)) (sym (nan_bits_above binary64 a)) (le→nltb _ _ h) }

pub looked : (seen a : ℕ) → Looked seen a (bit_or seen (a % 2 ^ 63 + 0x000f_ffff_ffff_ffff))
looked seen a =
    let m = a % 2 ^ 63 + 0x000f_ffff_ffff_ffff in
    record {
      before = λ l. record { low = omega (arith, l.low, or_add_and seen m, and_le_r seen m) };
      here = λ l. plain_below a (omega (arith, l.low, or_add_and seen m, and_le_l seen m));
    }

-- making such a pattern canonical changes nothing
pub no_nan_canonical : (a : ℕ) → NoNan a → canonical_bits a ≡ a
unfolding canonical_bits
no_nan_canonical a p = cond-false (nan_bits binary64 a) bits_nan a (is_false (nan_bits binary64 a) p.plain)
  where
    is_false : (b : Bool) → T (not b) → b ≡ false
    is_false true h = absurd h
    is_false false h = refl
