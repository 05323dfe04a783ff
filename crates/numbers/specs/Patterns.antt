-- What holds of every pattern that an operation gives.
use Rattle.std.specs.Prelude.{◌≡◌, ℕ, ◌^◌, ◌<◌}
use Rattle.std.specs.Float.{nan}
use Rattle.semantics.specs.declared.operation.Unary.{Unary}
use Rattle.semantics.specs.declared.operation.Binary.{Binary}
use Rattle.numbers.specs.Binary64.{read, write, bits_nan, canonical_bits}
use Rattle.numbers.specs.Operations.{binary64}

-- a pattern of 64 bits, and of the NaNs only the one
pub record Pattern (n : ℕ) : Type 0 where
  pub below : n < 2 ^ 64
  pub plain : canonical_bits n ≡ n

-- whatever an operation is given, it gives a pattern; so is what is made canonical, which changes no pattern
pub record OnlyPatterns : Type 0 where
  pub one : (k : Unary) (a : ℕ) → Pattern (binary64.one k a)
  pub two : (k : Binary) (a b : ℕ) → Pattern (binary64.two k a b)
  pub of : (n : ℕ) → Pattern (binary64.of n)
  pub empty : (k : Binary) → Pattern (binary64.empty k)
  pub made : (n : ℕ) → n < 2 ^ 64 → Pattern (canonical_bits n)
  pub kept : (n : ℕ) → Pattern n → canonical_bits n ≡ n
  -- reading and writing again is what canonical does; so it changes no pattern, and one pattern alone is read as a NaN
  pub again : (n : ℕ) → n < 2 ^ 64 → write (read n) ≡ canonical_bits n
  pub no_other_nan : (n : ℕ) → Pattern n → read n ≡ nan → n ≡ bits_nan
