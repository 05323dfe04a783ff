-- What a place of a wider shape is asked.
use Rattle.std.specs.Prelude.{ℕ, ◌≤◌, List, length}
use Rattle.semantics.specs.Shapes.{In}
use Rattle.semantics.specs.Broadcast.{narrow}

-- a place of a wider shape leads to a place of s
pub record Reaches (s is : List ℕ) : Type 0 where
  pub few : length s ≤ length is
  pub inside : In s (narrow s is)
