-- The steps that the engine runs so far. This is the one place that grows as more of the language is built.
use Rattle.std.specs.Prelude.{◌≡◌, ℕ, ◌<◌, Bool, true, false, List, [], ◌∷◌, length, take, slice_index_or}
use Rattle.program.specs.declared.step.Step.{Step}
use Rattle.program.specs.declared.step.Step.TheVariants.{End, Let, Put, Show, Again, Name, Input, Constant, Count, Each, Both, Choose, Fold, Scan, Shape, Turn, Part, Join, Rows, Item, Slice}

abbrev pub built : Step → Bool
built End = false
built (Let k) = true
built (Put k) = false
built Show = true
built (Again n) = false
built (Name k) = true
built (Input k) = true
built (Constant x) = true
built (Count m) = true
built (Each k) = true
built (Both k) = true
built Choose = false
built (Fold k x) = false
built (Scan k x) = false
built Shape = false
built Turn = false
built Part = false
built (Join x) = false
built Rows = false
built (Item k) = false
built (Slice s) = false

pub data AllBuilt : List Step → Type 0 where
  none : AllBuilt []
  more : {s : Step} {r : List Step} → built s ≡ true → AllBuilt r → AllBuilt (s ∷ r)

-- step k is the first that is not built
pub record UnbuiltAt (steps : List Step) (k : ℕ) : Type 0 where
  pub there : k < length steps
  pub not : built (slice_index_or steps k End) ≡ false
  pub before : AllBuilt (take k steps)
