-- What showing an array leaves in the room for it.
use Rattle.std.specs.Prelude.{ℕ, List, Option}
use Rattle.semantics.specs.Shapes.{size, up_to}
use Rattle.semantics.specs.Programs.{numbers_at}
use Rattle.encoding.specs.Format.{inputs_of}
use Rattle.encoding.specs.Writing.{array_bytes, Writes}
use Rattle.views.specs.declared.view.View.{View}
use Rattle.kernels.specs.Filling.{Ready, tree_array}

-- the tree at node i stands as an array behind byte `at`, and all other bytes are as they were; or it does not fit, and all are
pub record TreeShown (ws : List ℕ) (i : ℕ) (table : List (Option View)) (area bs w : List ℕ) (at : ℕ) (old new : List ℕ) (r : Option ℕ) : Type 0 where
  pub on : (q : Ready ws i table area bs w) → Writes old new at (array_bytes w (numbers_at (tree_array (inputs_of bs) q.names q.expr w) (up_to 0 (size w)))) r
