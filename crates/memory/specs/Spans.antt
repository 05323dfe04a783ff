-- The words of the number area that a name's view looks into: its buffer. A name with nothing, or with a view of an input, has none.
use Rattle.std.specs.Prelude.{◌≡◌, ℕ, ◌-◌, ◌≤◌, ◌⊎◌, nat_lt, Option, Some, None}
use Rattle.semantics.specs.Shapes.{pick, size}
use Rattle.encoding.specs.ShapeOf.{shape_of}
use Rattle.views.specs.declared.view.View.{View}
use Rattle.views.specs.declared.view.Source.{Source}
use Rattle.views.specs.declared.view.Source.TheVariants.{Area, Input}
use Rattle.views.specs.Views.{Good}

-- x for a view of the number area, 0 for one of an input
unfoldable pub in_area : Source → ℕ → ℕ
in_area Area x = x
in_area (Input b) x = 0

-- where a slot's buffer begins, and the word behind it
unfoldable pub low_of : Option View → ℕ
unfolding in_area
low_of None = 0
low_of (Some v) = in_area v.source v.low

unfoldable pub high_of : Option View → ℕ
unfolding in_area
high_of None = 0
high_of (Some v) = in_area v.source v.high

-- how many places a slot's array has
unfoldable pub slot_size : Option View → ℕ
unfolding size
slot_size None = 0
slot_size (Some v) = size (shape_of v.shape)

-- the places of a view that shows fewer than its buffer has: what it would take to copy it out
unfoldable pub loose_size : Option View → ℕ
unfolding slot_size low_of high_of
loose_size s = pick (nat_lt (slot_size s) (high_of s - low_of s)) (slot_size s) 0

-- one buffer, or two that have no word in common
abbrev pub Apart : Option View → Option View → Type 0
Apart s t = ((low_of s ≡ low_of t) × (high_of s ≡ high_of t)) ⊎ ((high_of s ≤ low_of t) ⊎ (high_of t ≤ low_of s))

abbrev pub GoodSlot : Option View → Type 0
GoodSlot None = Unit {0}
GoodSlot (Some v) = Good v

-- a view shows all places of its buffer
unfoldable pub Fills : Option View → Type 0
unfolding slot_size low_of high_of
Fills s = high_of s - low_of s ≤ slot_size s
