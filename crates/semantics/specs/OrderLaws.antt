-- What holds of orders of axes: an order has each axis once, an order after an order is an order, and each has a way back.
use Rattle.std.specs.Prelude.{◌≡◌, ℕ, zero, suc, ◌<◌, true, List, [], ◌∷◌, map, length, ℤ, pos, ◌+ℤ◌, ◌*ℤ◌, slice_index, slice_index_or}
use Rattle.semantics.specs.Shapes.{size, In}
use Rattle.semantics.specs.Orders.{is_order, turned, turned_back, where_in}
use Rattle.semantics.specs.Arrays.{Array, Alike, turn_array}

-- each entry of an order of r axes is an axis and stands only there; each axis is found, below r, where it stands
abbrev pub OrderEntries : Type 0
OrderEntries =
    (os : List ℕ) (r k : ℕ) → is_order os r ≡ true → k < r →
    (slice_index os k < r) × (where_in (slice_index os k) os ≡ k) × (where_in k os < r) × (slice_index os (where_in k os) ≡ k)

-- an order keeps the number of places
abbrev pub TurnedSize : Type 0
TurnedSize = (os s : List ℕ) → is_order os (length s) ≡ true → size (turned os s) ≡ size s

-- the places of an array and of the array in another order are the same, one to one
abbrev pub TurnedPlaces : Type 0
TurnedPlaces =
    (os s is : List ℕ) → is_order os (length s) ≡ true →
    (In (turned os s) is → In s (turned_back os is) × (turned os (turned_back os is) ≡ is)) × (In s is → In (turned os s) (turned os is) × (turned_back os (turned os is) ≡ is))

-- ps after os, as one order
unfoldable pub order_after : List ℕ → List ℕ → List ℕ
unfolding turned
order_after ps os = turned ps os

-- an order after an order is an order
abbrev pub OrderAfter : Type 0
OrderAfter = (ps os : List ℕ) (r : ℕ) → is_order ps r ≡ true → is_order os r ≡ true → is_order (order_after ps os) r ≡ true

-- an array turned twice is alike the array turned once, by that order
abbrev pub OrderAfterAlike : Type 0 → Type 0
OrderAfterAlike Num =
    (ps os : List ℕ) (a : Array Num) → is_order ps (length a.shape) ≡ true → is_order os (length a.shape) ≡ true →
    Alike (turn_array ps (turn_array os a)) (turn_array (order_after ps os) a)

-- where axis k is in os, where k + 1 is, .., n of them
unfoldable pub way_from : ℕ → ℕ → List ℕ → List ℕ
unfolding where_in
way_from k zero os = []
way_from k (suc n) os = where_in k os ∷ way_from (suc k) n os

-- the order that undoes os
unfoldable pub way_back : List ℕ → List ℕ
unfolding way_from
way_back os = way_from 0 (length os) os

-- the way back is an order, and a place is turned back by turning it by the way back
abbrev pub WayBack : Type 0
WayBack = (os : List ℕ) (r : ℕ) → is_order os r ≡ true → (is_order (way_back os) r ≡ true) × ((is : List ℕ) → turned_back os is ≡ turned (way_back os) is)

-- an array turned and turned back is alike the array
abbrev pub WayBackAlike : Type 0 → Type 0
WayBackAlike Num = (os : List ℕ) (a : Array Num) → is_order os (length a.shape) ≡ true → Alike (turn_array (way_back os) (turn_array os a)) a

-- how far a place is from the first one in memory, where one more at index k is a stride further
unfoldable pub dot : List ℤ → List ℕ → ℤ
dot [] is = pos 0
dot (z ∷ zs) [] = pos 0
dot (z ∷ zs) (i ∷ is) = z *ℤ pos i +ℤ dot zs is

-- axis i of the outcome is axis os[i], with its stride
unfoldable pub turned_strides : List ℕ → List ℤ → List ℤ
turned_strides os zs = map (λ o. slice_index_or zs o (pos 0)) os

-- under strides in an order, a place is as far as the place that it shows is under the strides themselves: to turn an array moves no number
abbrev pub TurnedStrides : Type 0
TurnedStrides =
    (os is : List ℕ) (zs : List ℤ) → is_order os (length zs) ≡ true → length is ≡ length zs →
    dot (turned_strides os zs) is ≡ dot zs (turned_back os is)
