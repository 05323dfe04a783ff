-- Orders of axes: axis i of the outcome is axis os[i] of the array.
use Rattle.std.specs.Prelude.{ℕ, zero, suc, Bool, true, false, ◌&&◌, ◌||◌, List, [], ◌∷◌, length, ◌==◌, slice_index}
use Rattle.semantics.specs.Shapes.{pick}

unfoldable pub among : ℕ → List ℕ → Bool
among c [] = false
among c (d ∷ ds) = c == d || among c ds

-- each of 0 .. n - 1 is there
unfoldable pub all_among : ℕ → List ℕ → Bool
unfolding among
all_among zero xs = true
all_among (suc n) xs = among n xs && all_among n xs

-- an order of r axes: r numbers, each of 0 .. r - 1 once
unfoldable pub is_order : List ℕ → ℕ → Bool
unfolding all_among
is_order os r = length os == r && all_among r os

unfoldable pub turned : List ℕ → List ℕ → List ℕ
turned [] xs = []
turned (o ∷ os) xs = slice_index xs o ∷ turned os xs

unfoldable pub where_in : ℕ → List ℕ → ℕ
where_in x [] = 0
where_in x (o ∷ os) = pick (x == o) 0 (suc (where_in x os))

-- the place of the array that a place of the outcome shows: its index k is the one that stands where k is in the order
unfoldable pub turned_from : ℕ → ℕ → List ℕ → List ℕ → List ℕ
unfolding where_in
turned_from k zero os is = []
turned_from k (suc n) os is = slice_index is (where_in k os) ∷ turned_from (suc k) n os is

unfoldable pub turned_back : List ℕ → List ℕ → List ℕ
unfolding turned_from
turned_back os is = turned_from 0 (length os) os is
