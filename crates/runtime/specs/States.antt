-- Steps that can be run, and what the table of names stands for while they run.
use Rattle.std.specs.Prelude.{◌≡◌, ℕ, ◌≤◌, List, [], ◌∷◌, length, Option}
use Rattle.semantics.specs.Values.{Cell}
use Rattle.numbers.specs.Patterns.{Pattern}
use Rattle.encoding.specs.Format.{inputs_of}
use Rattle.program.specs.declared.step.Step.{Step}
use Rattle.program.specs.declared.step.Step.TheVariants.{End, Let, Put, Show, Again, Name, Input, Constant, Count, Each, Both, Choose, Fold, Scan, Shape, Turn, Part, Join, Rows, Item, Slice}
use Rattle.program.specs.Words.{steps_in}
use Rattle.views.specs.declared.view.View.{View}
use Rattle.kernels.specs.Trees.{Plain}
use Rattle.kernels.specs.Filling.{Tabled}
use Rattle.runtime.specs.Built.{AllBuilt}

-- a constant is a pattern
abbrev pub PlainStep : Step → Type 0
PlainStep End = Unit {0}
PlainStep (Let k) = Unit {0}
PlainStep (Put k) = Unit {0}
PlainStep Show = Unit {0}
PlainStep (Again n) = Unit {0}
PlainStep (Name k) = Unit {0}
PlainStep (Input k) = Unit {0}
PlainStep (Constant x) = Pattern x
PlainStep (Count m) = Unit {0}
PlainStep (Each k) = Unit {0}
PlainStep (Both k) = Unit {0}
PlainStep Choose = Unit {0}
PlainStep (Fold k x) = Unit {0}
PlainStep (Scan k x) = Unit {0}
PlainStep Shape = Unit {0}
PlainStep Turn = Unit {0}
PlainStep Part = Unit {0}
PlainStep (Join x) = Unit {0}
PlainStep Rows = Unit {0}
PlainStep (Item k) = Unit {0}
PlainStep (Slice s) = Unit {0}

pub data AllPlain : List Step → Type 0 where
  plain_none : AllPlain []
  plain_more : {s : Step} {r : List Step} → PlainStep s → AllPlain r → AllPlain (s ∷ r)

pub record Runnable (ws : List ℕ) : Type 0 where
  pub built : AllBuilt (steps_in ws)
  pub plain : AllPlain (steps_in ws)
  pub few : length (steps_in ws) ≤ 2048

-- the table stands for these names, whose numbers, as those of the inputs, are patterns
pub record Stood (area bs : List ℕ) (table : List (Option View)) (ns : List (Cell ℕ)) : Type 0 where
  pub many : length ns ≡ 64
  pub tabled : Tabled area bs table ns
  pub plain : Plain (inputs_of bs) ns

-- it stands for some names
pub record Standing (area bs : List ℕ) (table : List (Option View)) : Type 0 where
  pub names : List (Cell ℕ)
  pub stood : Stood area bs table names
