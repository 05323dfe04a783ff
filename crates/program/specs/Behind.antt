-- What is behind an expression: each step takes one that is awaited, and awaits its operands.
use Rattle.std.specs.Prelude.{◌≡◌, ℕ, zero, suc, ◌+◌, ◌<◌, ◌≤◌, List, [], ◌∷◌, length, Some, None, Option}
use Rattle.program.specs.declared.step.Step.{Step}
use Rattle.program.specs.declared.step.Step.TheVariants.{End, Let, Put, Show, Again, Name, Input, Constant, Count, Each, Both, Choose, Fold, Scan, Shape, Turn, Part, Join, Rows, Item, Slice}
use Rattle.program.specs.Words.{steps_in}
use Rattle.program.specs.Standing.{steps_from}

-- how many expressions a step awaits; behind an item or a slice the operand is still to come
abbrev pub awaits : Step → ℕ
awaits End = 0
awaits (Let k) = 0
awaits (Put k) = 0
awaits Show = 0
awaits (Again n) = 0
awaits (Name k) = 0
awaits (Input k) = 0
awaits (Constant x) = 0
awaits (Count m) = 0
awaits (Each k) = 1
awaits (Both k) = 2
awaits Choose = 3
awaits (Fold k x) = 1
awaits (Scan k x) = 1
awaits Shape = 1
awaits Turn = 1
awaits Part = 1
awaits (Join x) = 2
awaits Rows = 2
awaits (Item k) = 1
awaits (Slice s) = 1

-- behind n expressions
unfoldable pub behind : ℕ → List Step → Option (List Step)
behind zero l = Some l
behind (suc n) [] = None
behind (suc n) (s ∷ t) = behind (n + awaits s) t

-- the expression at i ends before j
pub record BehindAt (ws : List ℕ) (i j : ℕ) : Type 0 where
  pub further : i < j
  pub within : j ≤ length (steps_in ws)
  pub is : behind 1 (steps_from ws i) ≡ Some (steps_from ws j)
