-- What planning an expression answers: the shape and the count of the value that it comes to, or its fault.
use Rattle.std.specs.Prelude.{◌≡◌, ℕ, ◌≤◌, List, IfOk, Ok, Err, Result, slice_index_or, Option}
use Rattle.semantics.specs.Shapes.{size}
use Rattle.semantics.specs.Arrays.{Array}
use Rattle.semantics.specs.Values.{Expr, Cell, none, Value, fault, val, Sizes, made as counted, held, given, value}
use Rattle.numbers.specs.Operations.{binary64}
use Rattle.encoding.specs.Format.{inputs_of}
use Rattle.encoding.specs.ShapeOf.{shape_of}
use Rattle.program.specs.declared.step.Step.{Step}
use Rattle.program.specs.Spelling.{spell}
use Rattle.program.specs.Standing.{steps_from, Skips}
use Rattle.views.specs.declared.view.View.{View}
use Rattle.kernels.specs.Filling.{Tabled}
use Rattle.runtime.specs.declared.fault.Stop.{Stop}
use Rattle.runtime.specs.declared.plan.Planned.{Planned}
use Rattle.runtime.specs.Faults.{fault_number}

-- 64 names, 8 axes, and so many places
abbrev pub sizes : ℕ → Sizes
sizes p = record { names = 64; axes = 8; places = p }

pub data Plans (v : Value ℕ) : Result Planned Stop → Type 0 where
  plans : {p : Planned} (a : Array ℕ) → v ≡ val a p.count → a.shape ≡ shape_of p.shape → Plans v (Ok p)
  stops : {s : Stop} → v ≡ fault (fault_number s.fault) → Plans v (Err s)

-- right for every expression that stands at i, whatever the table stands for
pub record PlannedAt (ws bs : List ℕ) (table : List (Option View)) (i n : ℕ) (r : Result Planned Stop) : Type 0 where
  pub within : IfOk r (λ p. (p.count ≤ n) × (size (shape_of p.shape) ≤ p.count))
  pub skips : IfOk r (λ p. Skips ws i p.next)
  pub right : (e : Expr ℕ) (t : List Step) → steps_from ws i ≡ spell e t → (area : List ℕ) (ns : List (Cell ℕ)) (p : ℕ) → Tabled area bs table ns → Plans (value (sizes p) binary64 (inputs_of bs) ns n e) r

-- an array of this shape after c places of n
pub record Counts (s : List ℕ) (n c j : ℕ) (r : Result Planned Stop) : Type 0 where
  pub within : IfOk r (λ p. (p.count ≤ n) × (size (shape_of p.shape) ≤ p.count))
  pub next : IfOk r (λ p. p.next ≡ j)
  pub right : (a : Array ℕ) → a.shape ≡ s → Plans (counted n c a) r

-- the array of name k, or of input k, in n places
pub record NamePlan (table : List (Option View)) (k n j : ℕ) (r : Result Planned Stop) : Type 0 where
  pub within : IfOk r (λ p. (p.count ≤ n) × (size (shape_of p.shape) ≤ p.count))
  pub next : IfOk r (λ p. p.next ≡ j)
  pub right : (area bs : List ℕ) (ns : List (Cell ℕ)) → Tabled area bs table ns → Plans (held n (slice_index_or ns k none)) r

pub record InputPlan (bs : List ℕ) (k n j : ℕ) (r : Result Planned Stop) : Type 0 where
  pub within : IfOk r (λ p. (p.count ≤ n) × (size (shape_of p.shape) ≤ p.count))
  pub next : IfOk r (λ p. p.next ≡ j)
  pub right : Plans (held n (given (inputs_of bs) k)) r
