-- Where the lines of an `again` end: behind the `End` that closes them, past those of any `again` inside.
use Rattle.std.specs.Prelude.{◌≡◌, ℕ, zero, suc, ◌<◌, ◌≤◌, List, [], ◌∷◌, length, Some, None, Option}
use Rattle.program.specs.declared.step.Step.{Step}
use Rattle.program.specs.declared.step.Step.TheVariants.{End, Let, Put, Show, Again, Name, Input, Constant, Count, Each, Both, Choose, Fold, Scan, Shape, Turn, Part, Join, Rows, Item, Slice}
use Rattle.program.specs.Words.{steps_in}
use Rattle.program.specs.Standing.{steps_from}

-- a step opens lines, shuts them, or does neither
pub data Bracket : Type 0 where
  opening : Bracket
  shutting : Bracket
  neither : Bracket

unfoldable pub bracket : Step → Bracket
bracket End = shutting
bracket (Let k) = neither
bracket (Put k) = neither
bracket Show = neither
bracket (Again n) = opening
bracket (Name k) = neither
bracket (Input k) = neither
bracket (Constant x) = neither
bracket (Count m) = neither
bracket (Each k) = neither
bracket (Both k) = neither
bracket Choose = neither
bracket (Fold k x) = neither
bracket (Scan k x) = neither
bracket Shape = neither
bracket Turn = neither
bracket Part = neither
bracket (Join x) = neither
bracket Rows = neither
bracket (Item k) = neither
bracket (Slice s) = neither

-- on behind a step, with d lines inside still open: t is behind it
unfoldable pub past : Bracket → ℕ → List Step → (ℕ → Option (List Step)) → Option (List Step)
past opening d t on = on (suc d)
past shutting zero t on = Some t
past shutting (suc d) t on = on d
past neither d t on = on d

unfoldable pub closing : ℕ → List Step → Option (List Step)
unfolding bracket past
closing d [] = None
closing d (s ∷ t) = past (bracket s) d t (λ n. closing n t)

-- the lines at i are closed by the step before j
pub record EndsAt (ws : List ℕ) (i j : ℕ) : Type 0 where
  pub further : i < j
  pub within : j ≤ length (steps_in ws)
  pub is : closing 0 (steps_from ws i) ≡ Some (steps_from ws j)
