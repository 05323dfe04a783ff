-- The items, and the slices, that steps begin with.
use Rattle.std.specs.Prelude.{ℕ, List, [], ◌∷◌, Some, None, Option}
use Rattle.semantics.specs.Parts.{Part}
use Rattle.program.specs.declared.step.Step.{Step}
use Rattle.program.specs.declared.step.Step.TheVariants.{End, Let, Put, Show, Again, Name, Input, Constant, Count, Each, Both, Choose, Fold, Scan, Shape, Turn, Part as Cut, Join, Rows, Item, Slice as Sliced}
use Rattle.semantics.specs.Slices.{part_of}
use Rattle.program.specs.Standing.{steps_from}

unfoldable pub item_in : Step → Option ℕ
item_in End = None
item_in (Let k) = None
item_in (Put k) = None
item_in Show = None
item_in (Again n) = None
item_in (Name k) = None
item_in (Input k) = None
item_in (Constant x) = None
item_in (Count m) = None
item_in (Each k) = None
item_in (Both k) = None
item_in Choose = None
item_in (Fold k x) = None
item_in (Scan k x) = None
item_in Shape = None
item_in Turn = None
item_in Cut = None
item_in (Join x) = None
item_in Rows = None
item_in (Item k) = Some k
item_in (Sliced s) = None

unfoldable pub slice_in : Step → Option Part
slice_in End = None
slice_in (Let k) = None
slice_in (Put k) = None
slice_in Show = None
slice_in (Again n) = None
slice_in (Name k) = None
slice_in (Input k) = None
slice_in (Constant x) = None
slice_in (Count m) = None
slice_in (Each k) = None
slice_in (Both k) = None
slice_in Choose = None
slice_in (Fold k x) = None
slice_in (Scan k x) = None
slice_in Shape = None
slice_in Turn = None
slice_in Cut = None
slice_in (Join x) = None
slice_in Rows = None
slice_in (Item k) = None
slice_in (Sliced s) = Some (part_of s)

unfoldable pub one_more : {A : Type 0} → Option A → List A → List A
one_more None l = []
one_more (Some a) l = a ∷ l

-- what the first steps give, up to one that gives nothing
unfoldable pub leading : {A : Type 0} → (Step → Option A) → List Step → List A
unfolding one_more
leading f [] = []
leading f (s ∷ t) = one_more (f s) (leading f t)

unfoldable pub items_at : List ℕ → ℕ → List ℕ
unfolding leading item_in steps_from
items_at ws i = leading item_in (steps_from ws i)

unfoldable pub slices_at : List ℕ → ℕ → List Part
unfolding leading slice_in steps_from
slices_at ws i = leading slice_in (steps_from ws i)
