-- A buffer that was moved down, and its views.
use Rattle.std.specs.Prelude.{◌≡◌, ℕ, ◌+◌, ◌-◌, ◌<◌, ◌≤◌, List, length, slice_index}
use Rattle.views.specs.declared.view.View.{View}
use Rattle.views.specs.Views.{Good}

-- the words low..high of the old area stand from `to` on in the new one
pub record Moved (old new : List ℕ) (low high to : ℕ) : Type 0 where
  pub room : to + (high - low) ≤ length new
  pub same : (k : ℕ) → k < high - low → slice_index new (to + k) ≡ slice_index old (low + k)

pub record Shifted (v : View) (to : ℕ) (r : View) : Type 0 where
  pub good : Good r
  pub shape : r.shape ≡ v.shape
  pub strides : r.strides ≡ v.strides
  pub low : r.low ≡ to
  pub high : r.high ≡ to + (v.high - v.low)
  pub source : r.source ≡ v.source
