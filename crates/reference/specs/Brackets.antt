-- Behind the brackets of an operation.
use Rattle.std.specs.Prelude.{◌≡◌, ℕ, ◌≤◌, Bool, true, false, List}
use Rattle.semantics.specs.Parts.{Part}
use Rattle.semantics.specs.Values.{Expr}
use Rattle.program.specs.declared.step.Step.{Step}
use Rattle.program.specs.declared.step.Step.TheVariants.{End, Let, Put, Show, Again, Name, Input, Constant, Count, Each, Both, Choose, Fold, Scan, Shape, Turn, Part as Cut, Join, Rows, Item, Slice}
use Rattle.program.specs.Spelling.{items, slices, spell}
use Rattle.program.specs.Standing.{steps_from}

abbrev pub bracketed : Step → Bool
bracketed End = false
bracketed (Let k) = false
bracketed (Put k) = false
bracketed Show = false
bracketed (Again n) = false
bracketed (Name k) = false
bracketed (Input k) = false
bracketed (Constant x) = false
bracketed (Count m) = false
bracketed (Each k) = false
bracketed (Both k) = false
bracketed Choose = false
bracketed (Fold k x) = false
bracketed (Scan k x) = false
bracketed Shape = false
bracketed Turn = false
bracketed Cut = false
bracketed (Join x) = false
bracketed Rows = false
bracketed (Item k) = true
bracketed (Slice s) = true

-- the operand behind items, or slices, that stand at i stands at j
pub record SkipsBrackets (ws : List ℕ) (i j : ℕ) : Type 0 where
  pub further : i ≤ j
  pub past_items : (ks : List ℕ) (e : Expr ℕ) (r : List Step) → steps_from ws i ≡ items ks (spell e r) → steps_from ws j ≡ spell e r
  pub past_slices : (ps : List Part) (e : Expr ℕ) (r : List Step) → steps_from ws i ≡ slices ps (spell e r) → steps_from ws j ≡ spell e r

-- numbers that are the items at j, whatever items stand there; and slices
pub record ReadsItems (ws : List ℕ) (j : ℕ) (xs : List ℕ) : Type 0 where
  pub on : (ks : List ℕ) (e : Expr ℕ) (r : List Step) → steps_from ws j ≡ items ks (spell e r) → xs ≡ ks

pub record ReadsSlices (ws : List ℕ) (j : ℕ) (xs : List Part) : Type 0 where
  pub on : (ps : List Part) (e : Expr ℕ) (r : List Step) → steps_from ws j ≡ slices ps (spell e r) → xs ≡ ps
