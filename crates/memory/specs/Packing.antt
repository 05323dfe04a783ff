-- One buffer is moved down, with the slots that look into it.
use Rattle.std.specs.Prelude.{◌≡◌, ℕ, ◌+◌, ◌-◌, ◌<◌, ◌≤◌, List, length, ◌≢◌, nat_lt, slice_index_or, Option, None}
use Rattle.semantics.specs.Shapes.{pick}
use Rattle.semantics.specs.Values.{Cell}
use Rattle.views.specs.declared.view.View.{View}
use Rattle.views.specs.Shifting.{Moved}
use Rattle.kernels.specs.Filling.{SlotHolds, Tabled}
use Rattle.memory.specs.Spans.{low_of, high_of, slot_size, loose_size, GoodSlot}
use Rattle.memory.specs.Sums.{sum_of}
use Rattle.memory.specs.Tables.{Neat, Owned, AllFill}

-- a slot that looks into low..high looks into the same words from `to` on
pub record Slid (low high to : ℕ) (s r : Option View) : Type 0 where
  pub from_low : low_of s ≡ low
  pub from_high : high_of s ≡ high
  pub good : GoodSlot r
  pub size : slot_size r ≡ slot_size s
  pub now_low : low_of r ≡ to
  pub now_high : high_of r ≡ to + (high - low)
  pub holds : (old new bs : List ℕ) (cell : Cell ℕ) → Moved old new low high to → SlotHolds old bs s cell → SlotHolds new bs r cell

-- a slot after low..high were moved down to `to`
pub data After (low high to : ℕ) (s r : Option View) : Type 0 where
  moved : Slid low high to s r → After low high to s r
  stays : (low_of s ≡ low → high_of s ≢ high) → r ≡ s → After low high to s r

pub record AllAfter (low high to : ℕ) (old new : List (Option View)) : Type 0 where
  pub many : length new ≡ length old
  pub each : (k : ℕ) → k < length old → After low high to (slice_index_or old k None) (slice_index_or new k None)

-- of the buffers that end above `to`, that of slot k ends first
pub record Lowest (table : List (Option View)) (to k : ℕ) : Type 0 where
  pub there : k < length table
  pub above : to < high_of (slice_index_or table k None)
  pub least : (j : ℕ) → to < high_of (slice_index_or table j None) → high_of (slice_index_or table k None) ≤ high_of (slice_index_or table j None)

-- no buffer ends above `to`
pub record Settled (table : List (Option View)) (to : ℕ) : Type 0 where
  pub below : (k : ℕ) → high_of (slice_index_or table k None) ≤ to

-- a buffer that ends above `to` begins there or above
pub record Parted (table : List (Option View)) (to : ℕ) : Type 0 where
  pub above : (k : ℕ) → to < high_of (slice_index_or table k None) → to ≤ low_of (slice_index_or table k None)

-- how many slots' buffers end above `to`
unfoldable pub unsettled : ℕ → Option View → ℕ
unfolding high_of
unsettled to s = pick (nat_lt to (high_of s)) 1 0

-- the places that need not be copied out, of a slot whose buffer ends at `to` or below
unfoldable pub firm : ℕ → Option View → ℕ
unfolding high_of slot_size loose_size
firm to s = pick (nat_lt to (high_of s)) 0 (slot_size s - loose_size s)

-- a buffer was moved down to `to`, and ends at `far` now
pub record Turn (old-area new-area : List ℕ) (old new : List (Option View)) (to far : ℕ) : Type 0 where
  pub up : to ≤ far
  pub tabled : (bs : List ℕ) (ns : List (Cell ℕ)) → Tabled old-area bs old ns → Tabled new-area bs new ns
  pub many : length new ≡ length old
  pub neat : (top : ℕ) → Neat old top → Neat new top
  pub under : (top : ℕ) → Neat old top → far ≤ top
  pub parted : Parted new far
  pub fewer : sum_of (unsettled far) new < sum_of (unsettled to) old
  pub held : sum_of slot_size new ≡ sum_of slot_size old
  pub loose : sum_of loose_size new ≡ sum_of loose_size old
  pub owned : Owned old → Owned new
  pub firm_grows : Owned old → sum_of (firm to) old + far ≤ sum_of (firm far) new + to
  pub fills : AllFill old → AllFill new
