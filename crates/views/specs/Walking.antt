-- Addresses of the places of a shape: by strides, from an address on.
use Rattle.std.specs.Prelude.{◌≡◌, ℕ, ◌<◌, ◌≤◌, List, [], ◌∷◌, ℤ, pos, ◌+ℤ◌}
use Rattle.semantics.specs.Shapes.{size, In, flat}
use Rattle.semantics.specs.OrderLaws.{dot}

-- an address that is a number in low..high
pub record Lies (low high : ℕ) (z : ℤ) : Type 0 where
  pub word : ℕ
  pub is : z ≡ pos word
  pub above : low ≤ word
  pub below : word < high

-- each place of a shape has such an address
pub record Walks (low high : ℕ) (s : List ℕ) (zs : List ℤ) (from : ℤ) : Type 0 where
  pub lies : (is : List ℕ) → In s is → Lies low high (from +ℤ dot zs is)

-- strides of numbers that lie rows first, with no gaps
unfoldable pub row_strides : List ℕ → List ℤ
unfolding size
row_strides [] = []
row_strides (d ∷ ds) = pos (size ds) ∷ row_strides ds

-- strides under which the places of a shape are as far from the first as their numbers say
pub record RowMajor (s : List ℕ) (zs : List ℤ) : Type 0 where
  pub far : (is : List ℕ) → In s is → dot zs is ≡ pos (flat s is)
