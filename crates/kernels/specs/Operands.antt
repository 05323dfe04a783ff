-- Operands that are read where they lie, with no block of their own.
use Rattle.std.specs.Prelude.{◌≡◌, ℕ, ◌+◌, ◌*◌, ◌<◌, ◌≤◌, List, length, ◌≢◌, slice_index, Float, Option}
use Rattle.semantics.specs.declared.operation.Binary.{Binary}
use Rattle.semantics.specs.Shapes.{size, unflat}
use Rattle.semantics.specs.Arrays.{Array}
use Rattle.semantics.specs.Values.{some}
use Rattle.encoding.specs.ShapeOf.{shape_of}
use Rattle.encoding.specs.Words.{word8}
use Rattle.encoding.specs.Format.{number_at, inputs_of}
use Rattle.numbers.specs.Operations.{binary64}
use Rattle.numbers.specs.Plain.{NoNan}
use Rattle.numbers.specs.Standing.{StandsFor}
use Rattle.program.specs.Standing.{Skips}
use Rattle.views.specs.declared.view.View.{View}
use Rattle.views.specs.Views.{Good, Packed, Reaches, Holds}
use Rattle.kernels.specs.declared.operand.Operand.{Operand}
use Rattle.kernels.specs.declared.operand.Operand.TheVariants.{Own, Words, Bytes}
use Rattle.kernels.specs.Blocks.{at}
use Rattle.kernels.specs.Trees.{tree, cell_number}
use Rattle.kernels.specs.Filling.{Ready}

-- number k of an operand is there, and is no NaN
abbrev pub Readable : Operand → List ℕ → List ℕ → ℕ → Type 0
Readable Own area bs k = Unit {0}
Readable (Words p) area bs k = (p + k < length area) × NoNan (slice_index area (p + k))
Readable (Bytes p) area bs k = (p + 8 * k + 8 ≤ length bs) × NoNan (word8 bs (p + 8 * k))

-- number k of an operand has the pattern a; the block has the number x there
abbrev pub Gives : Operand → List ℕ → List ℕ → ℕ → Float → ℕ → Type 0
Gives Own area bs k x a = StandsFor x a
Gives (Words p) area bs k x a = slice_index area (p + k) ≡ a
Gives (Bytes p) area bs k x a = number_at bs (p + 8 * k) ≡ a

pub record Fed (o : Operand) (area bs : List ℕ) (k : ℕ) (x r : Float) : Type 0 where
  pub on : (a : ℕ) → Gives o area bs k x a → StandsFor r a

-- new is what an operation makes of two operands, number by number; old is what the block had
pub record Combined (op : Binary) (left right : Operand) (area bs : List ℕ) (old new : List Float) : Type 0 where
  pub each : (k : ℕ) → k < length old → (a b : ℕ) → Gives left area bs k (at old k) a → Gives right area bs k (at old k) b → StandsFor (at new k) (binary64.two op a b)

-- a view whose numbers lie one after another, with so many places from `first` on
pub record Lined (area bs : List ℕ) (v : View) (first many : ℕ) : Type 0 where
  pub good : Good v
  pub there : Reaches v.source area bs v.high
  pub packed : Packed v
  pub within : first + many ≤ size (shape_of v.shape)
  pub any : 0 < many

-- the numbers of a view in its own shape, from place `first` on
pub record ViewRun (area bs : List ℕ) (v : View) (w : List ℕ) (first many : ℕ) (o : Operand) : Type 0 where
  pub readable : (o ≢ Own) → (k : ℕ) → k < many → Readable o area bs k
  pub gives : (o ≢ Own) → (a : Array ℕ) → Holds area bs v a → (k : ℕ) → k < many → (x : Float) → Gives o area bs k x (cell_number (some a) (unflat w (first + k)))

-- the numbers of the tree at node i, from place `first` on, if the tree is one name
pub record FoundRun (ws : List ℕ) (i : ℕ) (table : List (Option View)) (area bs w : List ℕ) (first many : ℕ) (o : Operand) : Type 0 where
  pub skips : (o ≢ Own) → Skips ws i (i + 1)
  pub readable : (o ≢ Own) → (k : ℕ) → k < many → Readable o area bs k
  pub gives : (o ≢ Own) → (q : Ready ws i table area bs w) (k : ℕ) → k < many → (x : Float) → Gives o area bs k x (tree (inputs_of bs) q.names q.expr (unflat w (first + k)))

-- an operand has the numbers of the tree at node i; old is what the block has
pub record GivesTree (ws : List ℕ) (i : ℕ) (table : List (Option View)) (area bs w : List ℕ) (first : ℕ) (o : Operand) (old : List Float) : Type 0 where
  pub each : (q : Ready ws i table area bs w) (k : ℕ) → k < length old → Gives o area bs k (at old k) (tree (inputs_of bs) q.names q.expr (unflat w (first + k)))
