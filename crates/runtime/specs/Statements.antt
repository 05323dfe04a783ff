-- What running a statement answers, against the states of the meaning.
use Rattle.std.specs.Prelude.{◌≡◌, ℕ, ◌+◌, ◌<◌, ◌≤◌, ◌⊎◌, List, [], ◌∷◌, ◌++◌, length, Ok, Err, Result, slice_index_or, slice_set, Option, Some, None}
use Rattle.semantics.specs.Shapes.{size, unflat}
use Rattle.semantics.specs.Arrays.{Array}
use Rattle.semantics.specs.Values.{Expr, Cell, some, val, value}
use Rattle.semantics.specs.Programs.{State, Shown as Listed}
use Rattle.numbers.specs.Operations.{binary64}
use Rattle.encoding.specs.Format.{inputs_of}
use Rattle.encoding.specs.Words.{written}
use Rattle.encoding.specs.Writing.{array_bytes}
use Rattle.program.specs.declared.step.Step.{Step}
use Rattle.program.specs.Spelling.{spell}
use Rattle.program.specs.Standing.{steps_from}
use Rattle.views.specs.declared.view.View.{View}
use Rattle.views.specs.Views.{Good, Holds}
use Rattle.kernels.specs.Trees.{tree}
use Rattle.kernels.specs.Filling.{Tabled, Ready}
use Rattle.memory.specs.declared.memory.Memory.{Memory}
use Rattle.memory.specs.Spans.{low_of, high_of, GoodSlot}
use Rattle.memory.specs.Tables.{Neat, Counted, AllFill}
use Rattle.runtime.specs.declared.fault.Fault.TheVariants.{Room}
use Rattle.runtime.specs.declared.fault.Stop.{Stop}
use Rattle.runtime.specs.declared.statements.Shown.{Shown}
use Rattle.runtime.specs.Faults.{fault_number}
use Rattle.runtime.specs.Planning.{sizes}
use Rattle.runtime.specs.States.{Stood}

-- the table and the number area: buffers are equal or apart and lie below the top, all views show their buffers whole, the counts
-- are right, and names hold no more than the places
pub record Keeps (m : Memory) (area : List ℕ) : Type 0 where
  pub neat : Neat m.names m.top
  pub counted : Counted m
  pub fills : AllFill m.names
  pub room : m.top + m.loose ≤ length area
  pub within : m.held ≤ length area

-- a let comes to state v from state u: the table stands for v's names; or the run stops as v says
pub data LetGoes (u v : State ℕ) (area bs : List ℕ) (table : List (Option View)) : Result ℕ Stop → Type 0 where
  let_on : {j : ℕ} → Stood area bs table v.names → v.shown ≡ u.shown → v.ended ≡ 0 → LetGoes u v area bs table (Ok j)
  let_not : {x : Stop} → v.shown ≡ u.shown → v.ended ≡ fault_number x.fault → LetGoes u v area bs table (Err x)

-- a show comes to state v from state u: one array more stands behind byte `at`; or the run stops as v says; or there is no room
-- for the array, and nothing of it was written
pub data ShowGoes (u v : State ℕ) (at : ℕ) (old new : List ℕ) : Result Shown Stop → Type 0 where
  show_on : {s : Shown} (h : Listed ℕ) → v.shown ≡ u.shown ++ h ∷ [] → v.names ≡ u.names → v.ended ≡ 0 → new ≡ written old at (array_bytes h.shape h.numbers) →
      s.end ≡ at + length (array_bytes h.shape h.numbers) → s.end ≤ length old → ShowGoes u v at old new (Ok s)
  show_not : {x : Stop} → v.shown ≡ u.shown → v.ended ≡ fault_number x.fault → new ≡ old → ShowGoes u v at old new (Err x)
  show_full : {x : Stop} (h : Listed ℕ) → v.shown ≡ u.shown ++ h ∷ [] → x.fault ≡ Room → length old < at + length (array_bytes h.shape h.numbers) → new ≡ old → ShowGoes u v at old new (Err x)

-- all views of the table are good
pub record GoodSlots (table : List (Option View)) : Type 0 where
  pub each : (k : ℕ) → GoodSlot (slice_index_or table k None)

-- the view that an expression is, where it is just a name or an input: one of the table's, or one of an input
pub record ViewOf (ws : List ℕ) (i : ℕ) (table : List (Option View)) (bs : List ℕ) (v : View) : Type 0 where
  pub good : Good v
  pub source : ((k : ℕ) × (slice_index_or table k None ≡ Some v)) ⊎ ((low_of (Some v) ≡ 0) × (high_of (Some v) ≡ 0))
  pub holds : (e : Expr ℕ) (r : List Step) → steps_from ws i ≡ spell e r → (area : List ℕ) (ns : List (Cell ℕ)) (p n : ℕ) (a : Array ℕ) (c : ℕ) → Tabled area bs table ns →
      value (sizes p) binary64 (inputs_of bs) ns n e ≡ val a c → Holds area bs v a

-- name k has the array of the tree at node i, wherever the table stood for names among which the tree is ready
pub record NewBound (ws : List ℕ) (i : ℕ) (bs w : List ℕ) (k : ℕ) (old-area new-area : List ℕ) (old new : List (Option View)) : Type 0 where
  pub on : (q : Ready ws i old old-area bs w) (a : Array ℕ) → length q.names ≡ 64 → a.shape ≡ w → ((n : ℕ) → n < size w → tree (inputs_of bs) q.names q.expr (unflat w n) ≡ a.at (unflat w n)) →
      Tabled new-area bs new (slice_set q.names k (some a))
