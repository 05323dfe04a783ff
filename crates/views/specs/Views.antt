-- What a view shows.
use Rattle.std.specs.Prelude.{◌≡◌, ℕ, ◌+◌, ◌*◌, ◌^◌, ◌<◌, ◌≤◌, List, length, ℤ, pos, ◌+ℤ◌, slice_index, unsigned_abs}
use Rattle.semantics.specs.Shapes.{size, In, flat}
use Rattle.semantics.specs.Arrays.{Array}
use Rattle.semantics.specs.OrderLaws.{dot}
use Rattle.encoding.specs.ShapeOf.{shape_of}
use Rattle.encoding.specs.Format.{number_at}
use Rattle.views.specs.declared.view.Source.{Source}
use Rattle.views.specs.declared.view.Source.TheVariants.{Area, Input}
use Rattle.views.specs.declared.view.View.{View}
use Rattle.views.specs.Walking.{Walks}

-- the address of a place
unfoldable pub address : View → List ℕ → ℤ
unfolding dot
address v is = pos v.start +ℤ dot v.strides is

-- every place's address lies in low..high, and none is too large for sums of addresses
pub record Good (v : View) : Type 0 where
  pub up : v.low ≤ v.high
  pub short : v.high < 2 ^ 62
  pub begins : v.start < 2 ^ 62
  pub walks : Walks v.low v.high (shape_of v.shape) v.strides (pos v.start)

-- the number at an address
unfoldable pub number_from : Source → List ℕ → List ℕ → ℕ → ℕ
unfolding number_at
number_from Area area bs n = slice_index area n
number_from (Input b) area bs n = number_at bs (b + 8 * n)

-- all addresses below high are there
abbrev pub Reaches : Source → List ℕ → List ℕ → ℕ → Type 0
Reaches Area area bs high = high ≤ length area
Reaches (Input b) area bs high = b + 8 * high ≤ length bs

-- the number at a place
unfoldable pub seen : List ℕ → List ℕ → View → List ℕ → ℕ
unfolding number_from address
seen area bs v is = number_from v.source area bs (unsigned_abs (address v is))

-- the array that a view is, over the words of the number area and the bytes of the inputs
pub record Holds (area bs : List ℕ) (v : View) (a : Array ℕ) : Type 0 where
  pub good : Good v
  pub there : Reaches v.source area bs v.high
  pub shaped : shape_of v.shape ≡ a.shape
  pub shows : (is : List ℕ) → In (shape_of v.shape) is → seen area bs v is ≡ a.at is

-- r looks at the numbers of v: its place is shows what the place `to is` of v shows
pub record Sees (v r : View) (s : List ℕ) (to : List ℕ → List ℕ) : Type 0 where
  pub good : Good r
  pub shaped : shape_of r.shape ≡ s
  pub low : r.low ≡ v.low
  pub high : r.high ≡ v.high
  pub source : r.source ≡ v.source
  pub inside : (is : List ℕ) → In s is → In (shape_of v.shape) (to is)
  pub same : (is : List ℕ) → In s is → address r is ≡ address v (to is)

-- the places lie rows first from the start on, with no gaps
pub record Packed (v : View) : Type 0 where
  pub far : (is : List ℕ) → In (shape_of v.shape) is → address v is ≡ pos (v.start + flat (shape_of v.shape) is)

-- all of a buffer
pub record Whole (o : Source) (first : ℕ) (s : List ℕ) (r : View) : Type 0 where
  pub good : Good r
  pub packed : Packed r
  pub shaped : shape_of r.shape ≡ s
  pub start : r.start ≡ first
  pub low : r.low ≡ first
  pub high : r.high ≡ first + size s
  pub source : r.source ≡ o

-- an array's numbers stand in the number area rows first, from a word on
pub record Laid (area : List ℕ) (first : ℕ) (a : Array ℕ) : Type 0 where
  pub room : first + size a.shape ≤ length area
  pub each : (is : List ℕ) → In a.shape is → slice_index area (first + flat a.shape is) ≡ a.at is
