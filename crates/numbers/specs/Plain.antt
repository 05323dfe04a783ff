-- Patterns that are no NaN's: for these a number is its bits, with no test on the way.
use Rattle.std.specs.Prelude.{ℕ, ◌^◌, ◌<◌, not, T}
use Rattle.std.specs.Float.Ieee.{nan_bits}
use Rattle.std.specs.Float.{binary64}

pub record NoNan (a : ℕ) : Type 0 where
  pub plain : T (not (nan_bits binary64 a))

-- what is kept of the patterns that were looked at: clear as long as none was a NaN's
pub record Clear (seen : ℕ) : Type 0 where
  pub low : seen < 2 ^ 63

-- with one more pattern
pub record Looked (seen a r : ℕ) : Type 0 where
  pub before : Clear r → Clear seen
  pub here : Clear r → NoNan a
