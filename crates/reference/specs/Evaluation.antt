-- What evaluation answers.
use Rattle.std.specs.Prelude.{◌≡◌, ℕ, ◌≤◌, List, IfOk, Ok, Err, Result, Vec, Option}
use Rattle.std.specs.declared.alloc.Global.{Global}
use Rattle.semantics.specs.Shapes.{size}
use Rattle.semantics.specs.Values.{Expr, value}
use Rattle.numbers.specs.Operations.{binary64}
use Rattle.encoding.specs.Format.{inputs_of}
use Rattle.encoding.specs.ShapeOf.{shape_of}
use Rattle.program.specs.declared.step.Step.{Step}
use Rattle.program.specs.Spelling.{spell}
use Rattle.program.specs.Standing.{steps_from, Skips}
use Rattle.reference.specs.declared.evaluate.Valued.{Valued}
use Rattle.reference.specs.declared.fault.Stop.{Stop}
use Rattle.reference.specs.declared.made.Made.{Made}
use Rattle.reference.specs.declared.array.Array as owned
use Rattle.reference.specs.CellsOf.{cells_of, sizes}
use Rattle.reference.specs.Right.{Right}

-- what was made, without the node behind
abbrev pub made_of : Result Valued Stop → Result Made Stop
made_of (Ok v) = Ok v.made
made_of (Err s) = Err s

-- places are counted within those left, the next node is behind every expression that stands here, and the answer is right for it
pub record Evaluates (ws bs : List ℕ) (names : Vec (Option owned.Array) Global) (i n : ℕ) (r : Result Valued Stop) : Type 0 where
  pub within : IfOk r (λ v. (v.made.count ≤ n) × (size (shape_of v.made.array.shape) ≤ v.made.count))
  pub skips : IfOk r (λ v. Skips ws i v.next)
  pub right : (p : ℕ) (e : Expr ℕ) (t : List Step) → steps_from ws i ≡ spell e t → Right (value (sizes p) binary64 (inputs_of bs) (cells_of names) n e) (made_of r)
