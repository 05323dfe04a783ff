-- The table of names and the number area: buffers are equal or apart, and lie below the top.
use Rattle.std.specs.Prelude.{◌≡◌, ℕ, ◌+◌, ◌<◌, ◌≤◌, max, List, length, slice_index_or, slice_set, Option, Some, None}
use Rattle.semantics.specs.Values.{Cell}
use Rattle.views.specs.declared.view.View.{View}
use Rattle.kernels.specs.Filling.{Tabled}
use Rattle.memory.specs.declared.memory.Memory.{Memory}
use Rattle.memory.specs.Spans.{low_of, high_of, slot_size, loose_size, Apart, GoodSlot, Fills}
use Rattle.memory.specs.Sums.{sum_of}

pub record Neat (table : List (Option View)) (top : ℕ) : Type 0 where
  pub good : (k : ℕ) → GoodSlot (slice_index_or table k None)
  pub up : (k : ℕ) → low_of (slice_index_or table k None) ≤ high_of (slice_index_or table k None)
  pub below : (k : ℕ) → high_of (slice_index_or table k None) ≤ top
  pub apart : (j k : ℕ) → Apart (slice_index_or table j None) (slice_index_or table k None)

-- the running counts are what they count
pub record Counted (m : Memory) : Type 0 where
  pub many : length m.names ≡ 64
  pub held : m.held ≡ sum_of slot_size m.names
  pub loose : m.loose ≡ sum_of loose_size m.names

-- some slot shows all places of the buffer of slot k
pub record Owner (table : List (Option View)) (k : ℕ) : Type 0 where
  pub who : ℕ
  pub there : who < length table
  pub low : low_of (slice_index_or table who None) ≡ low_of (slice_index_or table k None)
  pub high : high_of (slice_index_or table who None) ≡ high_of (slice_index_or table k None)
  pub fills : Fills (slice_index_or table who None)

pub record Owned (table : List (Option View)) : Type 0 where
  pub owner : (k : ℕ) → k < length table → Owner table k

-- every view shows all places of its buffer
pub record AllFill (table : List (Option View)) : Type 0 where
  pub each : (k : ℕ) → Fills (slice_index_or table k None)

-- whatever the table stood for, it stands for now: buffers may have been moved
pub record Carries (old-area new-area : List ℕ) (old new : Memory) : Type 0 where
  pub tabled : (bs : List ℕ) (ns : List (Cell ℕ)) → Tabled old-area bs old.names ns → Tabled new-area bs new.names ns
  pub neat : Neat new.names new.top
  pub counted : Counted new
  pub held : new.held ≡ old.held
  pub loose : new.loose ≡ old.loose
  pub top : new.top ≤ old.top
  pub fills : AllFill old.names → AllFill new.names

-- name k has a view now
pub record Bound (old new : Memory) (k : ℕ) (v : View) : Type 0 where
  pub names : new.names ≡ slice_set old.names k (Some v)
  pub top : new.top ≡ max old.top (high_of (Some v))
  pub held : new.held + slot_size (slice_index_or old.names k None) ≡ old.held + slot_size (Some v)
  pub loose : new.loose + loose_size (slice_index_or old.names k None) ≡ old.loose + loose_size (Some v)
  pub counted : Counted new
