-- A view seen in a wider shape.
use Rattle.std.specs.Prelude.{ℕ, ◌≤◌, List, [], ◌∷◌, ◌++◌, length, replicate, ℤ, pos, ◌==◌}
use Rattle.semantics.specs.Shapes.{pick, In}
use Rattle.semantics.specs.Broadcast.{narrow}
use Rattle.semantics.specs.Arrays.{Array}

-- each place of w is seen from a place of s
pub record Spread (s w : List ℕ) : Type 0 where
  pub few : length s ≤ length w
  pub inside : (is : List ℕ) → In w is → In s (narrow s is)

-- a number in a length of 1 counts for all
unfoldable pub pinned_strides : List ℕ → List ℤ → List ℤ
pinned_strides [] zs = []
pinned_strides (d ∷ ds) [] = []
pinned_strides (d ∷ ds) (z ∷ zs) = pick (d == 1) (pos 0) z ∷ pinned_strides ds zs

-- axes that are not there do not count
unfoldable pub spread_strides : ℕ → List ℕ → List ℤ → List ℤ
unfolding pinned_strides
spread_strides gap s zs = replicate gap (pos 0) ++ pinned_strides s zs

unfoldable pub broadcast_array : List ℕ → Array ℕ → Array ℕ
unfolding narrow
broadcast_array w a = record { shape = w; at = λ is. a.at (narrow a.shape is) }
