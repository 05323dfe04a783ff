-- What holds of views whatever else happens.
use Rattle.std.specs.Prelude.{◌≡◌, ℕ, ◌<◌, ◌≤◌, List, length, slice_index}
use Rattle.semantics.specs.Arrays.{Array}
use Rattle.views.specs.declared.view.Source.TheVariants.{Area}
use Rattle.views.specs.declared.view.View.{View}
use Rattle.views.specs.Views.{Holds}

-- the words that a view looks into are as they were; a view of an input looks into none
pub record Kept (v : View) (old new : List ℕ) : Type 0 where
  pub room : v.source ≡ Area → v.high ≤ length new
  pub same : v.source ≡ Area → (k : ℕ) → v.low ≤ k → k < v.high → slice_index new k ≡ slice_index old k

-- what changes outside low..high changes nothing that a view holds
abbrev pub OnlyInside : Type 0
OnlyInside = (old new bs : List ℕ) (v : View) (a : Array ℕ) → Holds old bs v a → Kept v old new → Holds new bs v a
