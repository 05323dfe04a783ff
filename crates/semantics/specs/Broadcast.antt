-- Broadcasting: shapes with their last lengths under each other, equal or one of them 1; a number in a length of 1 counts for all.
use Rattle.std.specs.Prelude.{ℕ, ◌-◌, Bool, true, ◌&&◌, ◌||◌, List, [], ◌∷◌, reverse, length, drop, ◌==◌}
use Rattle.semantics.specs.Shapes.{pick}

-- first lengths under each other
unfoldable pub joins : List ℕ → List ℕ → Bool
joins [] bs = true
joins (a ∷ xs) [] = true
joins (a ∷ xs) (b ∷ bs) = (a == b || (a == 1 || b == 1)) && joins xs bs

unfoldable pub joined : List ℕ → List ℕ → List ℕ
joined [] bs = bs
joined (a ∷ xs) [] = a ∷ xs
joined (a ∷ xs) (b ∷ bs) = pick (a == 1) b a ∷ joined xs bs

-- whether two shapes can be broadcast together, and to which
unfoldable pub fit : List ℕ → List ℕ → Bool
unfolding joins
fit s t = joins (reverse s) (reverse t)

unfoldable pub wide : List ℕ → List ℕ → List ℕ
unfolding joined
wide s t = reverse (joined (reverse s) (reverse t))

-- a place of the wider shape, seen from the narrower one
unfoldable pub pinned : List ℕ → List ℕ → List ℕ
pinned [] is = []
pinned (d ∷ ds) [] = []
pinned (d ∷ ds) (i ∷ is) = pick (d == 1) 0 i ∷ pinned ds is

unfoldable pub narrow : List ℕ → List ℕ → List ℕ
unfolding pinned
narrow s is = pinned s (drop (length is - length s) is)
