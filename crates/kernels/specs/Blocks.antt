-- Blocks of numbers, and the patterns that they stand for.
use Rattle.std.specs.Prelude.{ℕ, ◌<◌, List, length, slice_index_or, Float}
use Rattle.std.specs.Float.{nan}
use Rattle.semantics.specs.declared.operation.Unary.{Unary}
use Rattle.semantics.specs.declared.operation.Binary.{Binary}
use Rattle.semantics.specs.Shapes.{pick}
use Rattle.numbers.specs.Operations.{binary64}
use Rattle.numbers.specs.Standing.{StandsFor, MadeOfOne, MadeOfTwo}

-- number k of a block
abbrev pub at : List Float → ℕ → Float
at xs k = slice_index_or xs k nan

-- each number stands for a pattern
pub record StandFor (xs : List Float) (f : ℕ → ℕ) : Type 0 where
  pub each : (k : ℕ) → k < length xs → StandsFor (at xs k) (f k)

-- x or y, by the number c
pub record ChosenFloat (c x y r : Float) : Type 0 where
  pub on : (a b d : ℕ) → StandsFor c a → StandsFor x b → StandsFor y d → StandsFor r (pick (binary64.truth a) b d)

-- new is what an operation makes of old, number by number
pub record Applied (k : Unary) (old new : List Float) : Type 0 where
  pub each : (j : ℕ) → j < length old → MadeOfOne k (at old j) (at new j)

pub record Joined (k : Binary) (old right new : List Float) : Type 0 where
  pub each : (j : ℕ) → j < length old → MadeOfTwo k (at old j) (at right j) (at new j)

pub record Chosen (old left right new : List Float) : Type 0 where
  pub each : (j : ℕ) → j < length old → ChosenFloat (at old j) (at left j) (at right j) (at new j)
