-- What holds of places and their numbers.
use Rattle.std.specs.Prelude.{◌≡◌, ℕ, ◌<◌, List}
use Rattle.semantics.specs.Shapes.{size, In, flat, unflat}

-- each number below the size is the number of one place, and each place has a number below the size
abbrev pub PlacesNumbered : Type 0
PlacesNumbered =
    (s is : List ℕ) (n : ℕ) → (n < size s → In s (unflat s n) × (flat s (unflat s n) ≡ n)) × (In s is → (flat s is < size s) × (unflat s (flat s is) ≡ is))
