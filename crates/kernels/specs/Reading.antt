-- Rows of a view.
use Rattle.std.specs.Prelude.{◌≡◌, ℕ, ◌+◌, ◌<◌, List, ℤ, pos, ◌+ℤ◌, ◌*ℤ◌, unsigned_abs}
use Rattle.semantics.specs.Shapes.{size, unflat}
use Rattle.encoding.specs.ShapeOf.{shape_of}
use Rattle.views.specs.declared.view.Source.{Source}
use Rattle.views.specs.declared.view.View.{View}
use Rattle.views.specs.Views.{address, number_from}
use Rattle.kernels.specs.declared.row.Row.{Row}

-- number j of those that are a stride apart
unfoldable pub along : Source → List ℕ → List ℕ → ℕ → ℤ → ℕ → ℕ
unfolding number_from
along o area bs from z j = number_from o area bs (unsigned_abs (pos from +ℤ z *ℤ pos j))

-- the places from a number on that are left in its row
pub record RowAt (v : View) (n : ℕ) (r : Row) : Type 0 where
  pub some : 0 < r.left
  pub there : (j : ℕ) → j < r.left → n + j < size (shape_of v.shape)
  pub lies : (j : ℕ) → j < r.left → address v (unflat (shape_of v.shape) (n + j)) ≡ pos r.from +ℤ r.stride *ℤ pos j
