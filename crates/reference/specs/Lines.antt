-- What the run of lines answers.
use Rattle.std.specs.Prelude.{◌≡◌, ℕ, ◌<◌, List, IfOk, Ok, Err, Result}
use Rattle.semantics.specs.Programs as meaning
use Rattle.semantics.specs.Programs.{Program, run}
use Rattle.numbers.specs.Operations.{binary64}
use Rattle.encoding.specs.Format.{inputs_of}
use Rattle.program.specs.declared.step.Step.{Step}
use Rattle.program.specs.declared.step.Step.TheVariants.{End, Let, Put, Show, Again, Name, Input, Constant, Count, Each, Both, Choose, Fold, Scan, Shape, Turn, Part as Cut, Join, Rows, Item, Slice}
use Rattle.program.specs.Spelling.{spell_program}
use Rattle.program.specs.Standing.{steps_from, Closed, Runs}
use Rattle.reference.specs.declared.fault.Stop.{Stop}
use Rattle.reference.specs.declared.state.State.{State}
use Rattle.reference.specs.CellsOf.{sizes}
use Rattle.reference.specs.Running.{Stood, Went}

-- no end and no `again`
abbrev pub plain : Step → Type 0
plain End = ⊥
plain (Let k) = Unit {0}
plain (Put k) = Unit {0}
plain Show = Unit {0}
plain (Again n) = ⊥
plain (Name k) = Unit {0}
plain (Input k) = Unit {0}
plain (Constant x) = Unit {0}
plain (Count m) = Unit {0}
plain (Each k) = Unit {0}
plain (Both k) = Unit {0}
plain Choose = Unit {0}
plain (Fold k x) = Unit {0}
plain (Scan k x) = Unit {0}
plain Shape = Unit {0}
plain Turn = Unit {0}
plain Cut = Unit {0}
plain (Join x) = Unit {0}
plain Rows = Unit {0}
plain (Item k) = Unit {0}
plain (Slice s) = Unit {0}

-- a program is at j: q is still to run from t, with r behind it, and comes to u
pub record Going (ws bs : List ℕ) (p j : ℕ) (st : State) (u : meaning.State ℕ) (r : List Step) : Type 0 where
  pub program : Program ℕ
  pub state : meaning.State ℕ
  pub enc : steps_from ws j ≡ spell_program program r
  pub stood : Stood state st
  pub same : run (sizes p) binary64 (inputs_of bs) program state ≡ u

-- one line: the program goes on behind it, or stopped as the meaning says
pub data LineGoes (ws bs : List ℕ) (p : ℕ) (st : State) (u : meaning.State ℕ) (r : List Step) : Result ℕ Stop → Type 0 where
  goes : {j : ℕ} → Going ws bs p j st u r → LineGoes ws bs p st u r (Ok j)
  stops : {x : Stop} → Went u st (Err x) → LineGoes ws bs p st u r (Err x)

pub record LineRuns (ws bs : List ℕ) (p i : ℕ) (old new : State) (out : Result ℕ Stop) : Type 0 where
  pub further : IfOk out (λ j. i < j)
  pub stands : IfOk out (λ j. Runs ws j)
  pub right : (q : Program ℕ) (r : List Step) (t : meaning.State ℕ) → Closed r → steps_from ws i ≡ spell_program q r → Stood t old → LineGoes ws bs p new (run (sizes p) binary64 (inputs_of bs) q t) r out

-- all lines: the program is behind them, where r stands, or stopped as the meaning says
pub data LinesEnd (ws : List ℕ) (st : State) (u : meaning.State ℕ) (r : List Step) : Result ℕ Stop → Type 0 where
  done : {j : ℕ} → Stood u st → steps_from ws j ≡ r → LinesEnd ws st u r (Ok j)
  halted : {x : Stop} → Went u st (Err x) → LinesEnd ws st u r (Err x)

pub record LinesRun (ws bs : List ℕ) (p i : ℕ) (old new : State) (out : Result ℕ Stop) : Type 0 where
  pub right : (q : Program ℕ) (r : List Step) (t : meaning.State ℕ) → Closed r → steps_from ws i ≡ spell_program q r → Stood t old → LinesEnd ws new (run (sizes p) binary64 (inputs_of bs) q t) r out
