-- Numbers of a view's places, written out rows first.
use Rattle.std.specs.Prelude.{◌≡◌, ℕ, ◌^◌, ◌<◌, List, ℤ, pos, ◌+ℤ◌, ◌*ℤ◌, slice_index, unsigned_abs}
use Rattle.semantics.specs.Shapes.{In, flat}
use Rattle.semantics.specs.OrderLaws.{dot}
use Rattle.views.specs.declared.view.Source.{Source}
use Rattle.views.specs.Walking.{Lies, Walks}
use Rattle.views.specs.Views.{Reaches, number_from}

-- an address, and one so many strides further: both are far below the largest word
pub record Moves (from : ℕ) (stride : ℤ) (i : ℕ) : Type 0 where
  pub high : ℕ
  pub short : high < 2 ^ 62
  pub here : from < high
  pub near : i < 2 ^ 62
  pub there : Lies 0 high (pos from +ℤ stride *ℤ pos i)

-- the addresses of all places, by these strides from an address on, are there
pub record Walk (o : Source) (area bs s : List ℕ) (zs : List ℤ) (from : ℕ) : Type 0 where
  pub high : ℕ
  pub short : high < 2 ^ 62
  pub there : Reaches o area bs high
  pub walks : Walks 0 high s zs (pos from)

-- at each place's number stands the number of that place: each place once, rows first
pub record Copied (o : Source) (area bs s : List ℕ) (zs : List ℤ) (from : ℕ) (out : List ℕ) : Type 0 where
  pub each : (is : List ℕ) → In s is → slice_index out (flat s is) ≡ number_from o area bs (unsigned_abs (pos from +ℤ dot zs is))
