-- What an index and truth are, in terms of the operations themselves.
use Rattle.std.specs.Prelude.{◌≡◌, ℕ, ◌^◌, ◌<◌, ◌≤◌, not}
use Rattle.semantics.specs.declared.operation.Unary.TheVariants.{Not}
use Rattle.semantics.specs.declared.operation.Binary.TheVariants.{Same}
use Rattle.numbers.specs.Binary64.{bits_one, flag}
use Rattle.numbers.specs.Operations.{binary64}

-- below 2^32, n is the index of just those numbers that are the same as n; the rest have 2^32
pub record Indices : Type 0 where
  pub bound : (a : ℕ) → binary64.index a ≤ 2 ^ 32
  pub back : (n : ℕ) → n < 2 ^ 32 → binary64.index (binary64.of n) ≡ n
  pub same : (a n : ℕ) → n < 2 ^ 32 → binary64.index a ≡ n → binary64.two Same a (binary64.of n) ≡ bits_one
  pub found : (a n : ℕ) → n < 2 ^ 32 → binary64.two Same a (binary64.of n) ≡ bits_one → binary64.index a ≡ n
  -- what is true is what `not` gives 0 for
  pub true_or_not : (a : ℕ) → binary64.one Not a ≡ flag (not (binary64.truth a))
