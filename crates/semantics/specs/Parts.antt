-- Parts: along each axis so many places, from one on, forward or back by steps.
use Rattle.std.specs.Prelude.{ℕ, ◌+◌, ◌-◌, ◌*◌, ◌/◌, ◌%◌, Bool, true, false, ◌&&◌, ◌||◌, List, [], ◌∷◌, ◌==◌, nat_le, nat_lt}
use Rattle.semantics.specs.Shapes.{pick}

pub record Part : Type 0 where
  pub from : ℕ
  pub backward : Bool
  pub step : ℕ
  pub many : ℕ

unfoldable pub place_of : Part → ℕ → ℕ
place_of p i = pick p.backward (p.from - p.step * i) (p.from + p.step * i)

-- the first place and the last are places of the axis; a step is not 0; no places fit anywhere
unfoldable pub part_fits : Part → ℕ → Bool
part_fits p d =
    nat_le 1 p.step && (p.many == 0 || (nat_lt p.from d && pick p.backward (nat_le (p.step * (p.many - 1)) p.from) (nat_lt (p.from + p.step * (p.many - 1)) d)))

unfoldable pub parts_fit : List Part → List ℕ → Bool
unfolding part_fits
parts_fit [] [] = true
parts_fit [] (d ∷ ds) = false
parts_fit (p ∷ ps) [] = false
parts_fit (p ∷ ps) (d ∷ ds) = part_fits p d && parts_fit ps ds

unfoldable pub part_shape : List Part → List ℕ
part_shape [] = []
part_shape (p ∷ ps) = p.many ∷ part_shape ps

unfoldable pub places_of : List Part → List ℕ → List ℕ
unfolding place_of
places_of [] is = []
places_of (p ∷ ps) [] = []
places_of (p ∷ ps) (i ∷ is) = place_of p i ∷ places_of ps is

-- whether place i of an axis is in a part, and as which
unfoldable pub apart : Part → ℕ → ℕ
apart p i = pick p.backward (p.from - i) (i - p.from)

unfoldable pub in_part : Part → ℕ → Bool
unfolding apart
in_part p i = pick p.backward (nat_le i p.from) (nat_le p.from i) && (apart p i % p.step == 0 && nat_lt (apart p i / p.step) p.many)

unfoldable pub in_parts : List Part → List ℕ → Bool
unfolding in_part
in_parts [] is = true
in_parts (p ∷ ps) [] = false
in_parts (p ∷ ps) (i ∷ is) = in_part p i && in_parts ps is

unfoldable pub which_one : List Part → List ℕ → List ℕ
unfolding apart
which_one [] is = []
which_one (p ∷ ps) [] = []
which_one (p ∷ ps) (i ∷ is) = apart p i / p.step ∷ which_one ps is
