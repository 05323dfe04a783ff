-- What the run of a program's lines answers, against the meaning's states.
use Rattle.std.specs.Prelude.{◌≡◌, ℕ, ◌^◌, ◌<◌, ◌≤◌, List, length, IfOk, Ok, Err, vec_items, Result, Vec, slice_index_or, Option}
use Rattle.std.specs.declared.alloc.Global.{Global}
use Rattle.semantics.specs.Shapes.{size}
use Rattle.semantics.specs.Parts.{Part}
use Rattle.semantics.specs.Arrays.{Array, Alike}
use Rattle.semantics.specs.Values as values
use Rattle.semantics.specs.Values.{Expr, none}
use Rattle.semantics.specs.Programs as meaning
use Rattle.semantics.specs.Programs.{Shown, cell_size, value_in, stopped, with_name, is_put}
use Rattle.semantics.specs.ValueLaws.{LikeCells, LikeNames}
use Rattle.semantics.specs.RunLaws.{Begins}
use Rattle.numbers.specs.Operations.{binary64}
use Rattle.encoding.specs.Format.{inputs_of}
use Rattle.encoding.specs.ShapeOf.{shape_of}
use Rattle.encoding.specs.ReadBack.{shown_bytes}
use Rattle.program.specs.declared.step.Step.{Step}
use Rattle.program.specs.Spelling.{slices, spell}
use Rattle.program.specs.Standing.{steps_from, Skips}
use Rattle.reference.specs.declared.evaluate.Valued.{Valued}
use Rattle.reference.specs.declared.fault.Fault.{Fault}
use Rattle.reference.specs.declared.fault.Stop.{Stop}
use Rattle.reference.specs.declared.fault.Stop.TheVariants.{Fault as Faulty, Memory}
use Rattle.reference.specs.declared.state.State.{State}
use Rattle.reference.specs.declared.array.Array as owned
use Rattle.reference.specs.ArrayOf.{array_of}
use Rattle.reference.specs.CellsOf.{cell_of, cells_of, sizes}
use Rattle.reference.specs.Evaluation.{made_of}
use Rattle.reference.specs.Faults.{fault_number}
use Rattle.reference.specs.Right.{Right}

-- an expression of a statement: like evaluation, for every state whose names have arrays like these
pub record EvaluatesIn (ws bs : List ℕ) (names : Vec (Option owned.Array) Global) (i p : ℕ) (r : Result Valued Stop) : Type 0 where
  pub small : IfOk r (λ v. size (shape_of v.made.array.shape) ≤ 2 ^ 26)
  pub skips : IfOk r (λ v. Skips ws i v.next)
  pub right : (e : Expr ℕ) (s : List Step) (t : meaning.State ℕ) → steps_from ws i ≡ spell e s → LikeNames t.names (cells_of names) → Right (value_in (sizes p) binary64 (inputs_of bs) t e) (made_of r)

-- t is where the program is: 64 names with arrays like t's, the bytes of what t has shown, and no fault
pub record Stood (t : meaning.State ℕ) (st : State) : Type 0 where
  pub many : length t.names ≡ 64
  pub full : length (vec_items st.names) ≡ 64
  pub names : LikeNames t.names (cells_of st.names)
  pub shown : shown_bytes t.shown ≡ vec_items st.shown
  pub ended : t.ended ≡ 0

-- the meaning comes to u: the program is there; or it stopped at u's fault, with what u has shown; or memory was wanting, and what
-- was shown is a beginning of what u has shown
pub data Went (u : meaning.State ℕ) (st : State) : Result ℕ Stop → Type 0 where
  went : {x : ℕ} → Stood u st → Went u st (Ok x)
  faulted : {f : Fault} → u.ended ≡ fault_number f → shown_bytes u.shown ≡ vec_items st.shown → Went u st (Err (Faulty f))
  wanting : (hs : List (Shown ℕ)) → Begins hs u.shown → shown_bytes hs ≡ vec_items st.shown → Went u st (Err Memory)

-- no name holds more than 2^26 places
pub record SmallNames (names : Vec (Option owned.Array) Global) : Type 0 where
  pub on : (k : ℕ) → cell_size (slice_index_or (cells_of names) k none) ≤ 2 ^ 26

-- slices and an expression that stand at i are followed by what stands at j
pub record SkipsPut (ws : List ℕ) (i j : ℕ) : Type 0 where
  pub on : (ps : List Part) (e : Expr ℕ) (r : List Step) → steps_from ws i ≡ slices ps (spell e r) → steps_from ws j ≡ r

-- what a put makes of the array of a name, where u is what the meaning comes to
pub data Replaces (t u : meaning.State ℕ) (k : ℕ) : Result Valued Stop → Type 0 where
  replaces : {v : Valued} (x : Array ℕ) → u ≡ with_name t k x → Alike x (array_of v.made.array) → Replaces t u k (Ok v)
  replaces_not : {f : Fault} → u ≡ stopped t (fault_number f) → Replaces t u k (Err (Faulty f))
  replaces_wanting : Replaces t u k (Err Memory)

pub record ReplacesIn (ws bs : List ℕ) (names : Vec (Option owned.Array) Global) (i p : ℕ) (ps : List Part) (r : Result Valued Stop) (k : ℕ) (old : Option owned.Array) : Type 0 where
  pub small : IfOk r (λ v. size (shape_of v.made.array.shape) ≤ 2 ^ 26)
  pub skips : IfOk r (λ v. Skips ws i v.next)
  pub right : (e : Expr ℕ) (s : List Step) (t : meaning.State ℕ) (c : values.Cell ℕ) → steps_from ws i ≡ spell e s → LikeNames t.names (cells_of names) → LikeCells c (cell_of old) → Replaces t (is_put t k ps c (value_in (sizes p) binary64 (inputs_of bs) t e)) k r

-- the same for a name, which is there
pub record ReplacesAt (ws bs : List ℕ) (names : Vec (Option owned.Array) Global) (i p : ℕ) (ps : List Part) (k : ℕ) (r : Result Valued Stop) : Type 0 where
  pub there : IfOk r (λ v. k < length (vec_items names))
  pub small : IfOk r (λ v. size (shape_of v.made.array.shape) ≤ 2 ^ 26)
  pub skips : IfOk r (λ v. Skips ws i v.next)
  pub right : (e : Expr ℕ) (s : List Step) (t : meaning.State ℕ) → steps_from ws i ≡ spell e s → LikeNames t.names (cells_of names) → Replaces t (is_put t k ps (slice_index_or t.names k none) (value_in (sizes p) binary64 (inputs_of bs) t e)) k r
