-- An expression by its first step: no operands, or one, two or three, with what the operation makes of their arrays where n places
-- are left. The items and slices of its brackets stand at node j.
use Rattle.std.specs.Prelude.{◌≡◌, ℕ, List}
use Rattle.semantics.specs.declared.operation.Unary.{Unary}
use Rattle.semantics.specs.declared.operation.Binary.{Binary}
use Rattle.semantics.specs.Parts.{Part}
use Rattle.semantics.specs.Arrays.{Array}
use Rattle.semantics.specs.Values.{Expr, name, input, constant, count, each, both, fold, scan, shape_to, turn, part, join, rows, Value, on_each, on_both, on_fold, on_scan, on_shape, on_turn, on_part, on_join, on_rows}
use Rattle.numbers.specs.Operations.{binary64}
use Rattle.program.specs.declared.step.Step.{Step}
use Rattle.program.specs.declared.step.Step.TheVariants.{End, Let, Put, Show, Again, Name, Input, Constant, Count, Each, Both, Choose, Fold, Scan, Shape, Turn, Part as Cut, Join, Rows, Item, Slice}
use Rattle.program.specs.Spelling.{items, slices, spell}
use Rattle.program.specs.Standing.{steps_from}
use Rattle.reference.specs.declared.evaluate.Arity.{Arity}
use Rattle.reference.specs.declared.evaluate.Arity.TheVariants.{Zero, One as Single, Two as Double, Three as Triple}
use Rattle.reference.specs.CellsOf.{sizes}

-- how many operands a step has; none where it begins no expression
abbrev pub arity_of : Step → Arity
arity_of End = Zero
arity_of (Let k) = Zero
arity_of (Put k) = Zero
arity_of Show = Zero
arity_of (Again n) = Zero
arity_of (Name k) = Zero
arity_of (Input k) = Zero
arity_of (Constant x) = Zero
arity_of (Count m) = Zero
arity_of (Each k) = Single
arity_of (Both k) = Double
arity_of Choose = Triple
arity_of (Fold k x) = Single
arity_of (Scan k x) = Single
arity_of Shape = Single
arity_of Turn = Single
arity_of Cut = Single
arity_of (Join x) = Double
arity_of Rows = Double
arity_of (Item k) = Zero
arity_of (Slice s) = Zero

pub data Leaf : Step → Expr ℕ → Type 0 where
  leaf_name : {k : ℕ} → Leaf (Name k) (name k)
  leaf_input : {k : ℕ} → Leaf (Input k) (input k)
  leaf_constant : {x : ℕ} → Leaf (Constant x) (constant x)
  leaf_count : {m : ℕ} → Leaf (Count m) (count m)

pub data One (ws : List ℕ) (j n p : ℕ) : Step → Expr ℕ → Expr ℕ → (Array ℕ → ℕ → Value ℕ) → Type 0 where
  one_each : {k : Unary} {e : Expr ℕ} → One ws j n p (Each k) (each k e) e (λ a c. on_each binary64 k n a c)
  one_fold : {k : Binary} {x : ℕ} {e : Expr ℕ} → One ws j n p (Fold k x) (fold k x e) e (λ a c. on_fold binary64 k x n a c)
  one_scan : {k : Binary} {x : ℕ} {e : Expr ℕ} → One ws j n p (Scan k x) (scan k x e) e (λ a c. on_scan binary64 k x n a c)
  one_shape : {t : List ℕ} {e : Expr ℕ} (r : List Step) → steps_from ws j ≡ items t (spell e r) → One ws j n p Shape (shape_to t e) e (λ a c. on_shape (sizes p) t n a c)
  one_turn : {os : List ℕ} {e : Expr ℕ} (r : List Step) → steps_from ws j ≡ items os (spell e r) → One ws j n p Turn (turn os e) e (λ a c. on_turn os n a c)
  one_part : {ps : List Part} {e : Expr ℕ} (r : List Step) → steps_from ws j ≡ slices ps (spell e r) → One ws j n p Cut (part ps e) e (λ a c. on_part ps n a c)

pub data Two (n p : ℕ) : Step → Expr ℕ → Expr ℕ → Expr ℕ → (Array ℕ → Array ℕ → ℕ → Value ℕ) → Type 0 where
  two_both : {k : Binary} {e f : Expr ℕ} → Two n p (Both k) (both k e f) e f (λ a b c. on_both binary64 k n a b c)
  two_join : {x : ℕ} {e f : Expr ℕ} → Two n p (Join x) (join x e f) e f (λ a b c. on_join x n a b c)
  two_rows : {e f : Expr ℕ} → Two n p Rows (rows e f) e f (λ a b c. on_rows (sizes p) binary64 n a b c)
