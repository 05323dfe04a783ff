-- What the reading of an array's head answers.
use Rattle.std.specs.Prelude.{◌≡◌, ℕ, ◌<◌, ◌≤◌, true, List, length}
use Rattle.encoding.specs.declared.header.Header.{Header}
use Rattle.encoding.specs.declared.header.Flaw.{Flaw}
use Rattle.encoding.specs.declared.header.Flaw.TheVariants.{Short, Axes}
use Rattle.encoding.specs.ShapeOf.{shape_of}
use Rattle.encoding.specs.Format.{rank_at, shape_at, start_at, next_at, good_at}

pub record Heads (bs : List ℕ) (i : ℕ) (h : Header) : Type 0 where
  pub good : good_at bs i ≡ true
  pub shaped : shape_of h.shape ≡ shape_at bs i
  pub starts : h.start ≡ start_at bs i
  pub ends : h.next ≡ next_at bs i

abbrev pub Flawed : List ℕ → ℕ → Flaw → Type 0
Flawed bs i Short = (rank_at bs i ≤ 8) × (length bs < next_at bs i)
Flawed bs i Axes = 8 < rank_at bs i
