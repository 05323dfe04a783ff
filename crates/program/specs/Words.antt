-- A step in five words: its tag, where its text begins, and three numbers. Steps stand one after another from word 0.
use Rattle.std.specs.Prelude.{◌≡◌, ℕ, ◌+◌, ◌*◌, ◌/◌, ◌%◌, ◌<◌, ◌≤◌, Bool, true, false, List, [], ◌∷◌, map, length, get_or, take, drop, Some, None, Option, slice_index, slice_index_or, slice_set}
use Rattle.std.specs.List.{range_with_len}
use Rattle.semantics.specs.declared.operation.Unary.{Unary}
use Rattle.semantics.specs.declared.operation.Unary.TheVariants.{Neg, Abs, Sqrt, Floor, Not}
use Rattle.semantics.specs.declared.operation.Binary.{Binary}
use Rattle.semantics.specs.declared.operation.Binary.TheVariants.{Add, Sub, Mul, Div, Less, Same, Least, Most}
use Rattle.program.specs.declared.step.Step.{Step}
use Rattle.program.specs.declared.step.Step.TheVariants.{End, Let, Put, Show, Again, Name, Input, Constant, Count, Each, Both, Choose, Fold, Scan, Shape, Turn, Part, Join, Rows, Item, Slice}

-- the codes of operations
abbrev pub unary_code : Unary → ℕ
unary_code Neg = 0
unary_code Abs = 1
unary_code Sqrt = 2
unary_code Floor = 3
unary_code Not = 4

abbrev pub binary_code : Binary → ℕ
binary_code Add = 0
binary_code Sub = 1
binary_code Mul = 2
binary_code Div = 3
binary_code Less = 4
binary_code Same = 5
binary_code Least = 6
binary_code Most = 7

-- a slice that goes backward has a tag of its own
abbrev pub slice_tag : Bool → ℕ
slice_tag false = 20
slice_tag true = 21

-- the words of a step whose text begins at p; a constant has its low half first
abbrev pub words_of : Step → ℕ → List ℕ
words_of End p = 0 ∷ p ∷ 0 ∷ 0 ∷ 0 ∷ []
words_of (Let k) p = 1 ∷ p ∷ k ∷ 0 ∷ 0 ∷ []
words_of (Put k) p = 2 ∷ p ∷ k ∷ 0 ∷ 0 ∷ []
words_of Show p = 3 ∷ p ∷ 0 ∷ 0 ∷ 0 ∷ []
words_of (Again n) p = 4 ∷ p ∷ n ∷ 0 ∷ 0 ∷ []
words_of (Name k) p = 5 ∷ p ∷ k ∷ 0 ∷ 0 ∷ []
words_of (Input k) p = 6 ∷ p ∷ k ∷ 0 ∷ 0 ∷ []
words_of (Constant x) p = 7 ∷ p ∷ x % 4294967296 ∷ x / 4294967296 ∷ 0 ∷ []
words_of (Count n) p = 8 ∷ p ∷ n ∷ 0 ∷ 0 ∷ []
words_of (Each k) p = 9 ∷ p ∷ unary_code k ∷ 0 ∷ 0 ∷ []
words_of (Both k) p = 10 ∷ p ∷ binary_code k ∷ 0 ∷ 0 ∷ []
words_of Choose p = 11 ∷ p ∷ 0 ∷ 0 ∷ 0 ∷ []
words_of (Fold k x) p = 12 ∷ p ∷ binary_code k ∷ x ∷ 0 ∷ []
words_of (Scan k x) p = 13 ∷ p ∷ binary_code k ∷ x ∷ 0 ∷ []
words_of Shape p = 14 ∷ p ∷ 0 ∷ 0 ∷ 0 ∷ []
words_of Turn p = 15 ∷ p ∷ 0 ∷ 0 ∷ 0 ∷ []
words_of Part p = 16 ∷ p ∷ 0 ∷ 0 ∷ 0 ∷ []
words_of (Join x) p = 17 ∷ p ∷ x ∷ 0 ∷ 0 ∷ []
words_of Rows p = 18 ∷ p ∷ 0 ∷ 0 ∷ 0 ∷ []
words_of (Item k) p = 19 ∷ p ∷ k ∷ 0 ∷ 0 ∷ []
words_of (Slice s) p = slice_tag s.backward ∷ p ∷ s.from ∷ s.step ∷ s.many ∷ []

abbrev pub sliced : ℕ → Bool → ℕ → ℕ → Step
sliced from backward step many = Slice (record { from = from; backward = backward; step = step; many = many })

-- back: an operation of a code, or none
abbrev pub unary_of : ℕ → Option Unary
unary_of a = slice_index_or (Some Neg ∷ Some Abs ∷ Some Sqrt ∷ Some Floor ∷ Some Not ∷ []) a None

abbrev pub binary_of : ℕ → Option Binary
binary_of a = slice_index_or (Some Add ∷ Some Sub ∷ Some Mul ∷ Some Div ∷ Some Less ∷ Some Same ∷ Some Least ∷ Some Most ∷ []) a None

abbrev pub or_end : {A : Type 0} → Option A → (A → Step) → Step
or_end None f = End
or_end (Some k) f = f k

-- the step of a tag and three numbers, in the order of the tags; End where there is none
abbrev pub step_of : ℕ → ℕ → ℕ → ℕ → Step
step_of tag a b c =
    get_or
    (End
    ∷ Let a
    ∷ Put a
    ∷ Show
    ∷ Again a
    ∷ Name a
    ∷ Input a
    ∷ Constant (a + b * 4294967296)
    ∷ Count a
    ∷ or_end (unary_of a) (λ k. Each k)
    ∷ or_end (binary_of a) (λ k. Both k)
    ∷ Choose
    ∷ or_end (binary_of a) (λ k. Fold k b)
    ∷ or_end (binary_of a) (λ k. Scan k b)
    ∷ Shape
    ∷ Turn
    ∷ Part
    ∷ Join a
    ∷ Rows
    ∷ Item a
    ∷ sliced a false b c
    ∷ sliced a true b c
    ∷ [])
    tag
    End

-- step k, and where its text begins
unfoldable pub step_in : List ℕ → ℕ → Step
step_in ws k = step_of (slice_index ws (5 * k)) (slice_index ws (5 * k + 2)) (slice_index ws (5 * k + 3)) (slice_index ws (5 * k + 4))

unfoldable pub place_in : List ℕ → ℕ → ℕ
place_in ws k = slice_index ws (5 * k + 1)

-- the steps that words are, and their places; words left over are none
unfoldable pub steps_in : List ℕ → List Step
unfolding step_in
steps_in ws = map (step_in ws) (range_with_len 0 (length ws / 5))

unfoldable pub places_in : List ℕ → List ℕ
unfolding place_in
places_in ws = map (place_in ws) (range_with_len 0 (length ws / 5))

-- step k is s; its words are there
pub record At (ws : List ℕ) (k : ℕ) (s : Step) : Type 0 where
  pub there : k < length (steps_in ws)
  pub is : s ≡ slice_index_or (steps_in ws) k End
  pub words : 5 * k + 5 ≤ length ws

-- old with a step and its place at a node: all other words are as they were
pub record Stored (old new : List ℕ) (node : ℕ) (step : Step) (place : ℕ) : Type 0 where
  pub there : node < length (steps_in old)
  pub steps : steps_in new ≡ slice_set (steps_in old) node step
  pub places : places_in new ≡ slice_set (places_in old) node place
  pub before : take (5 * node) new ≡ take (5 * node) old
  pub behind : drop (5 * node + 5) new ≡ drop (5 * node + 5) old

-- what storing answers: whether the node is there; where it is not, nothing has changed
abbrev pub Stores : List ℕ → List ℕ → ℕ → Step → ℕ → Bool → Type 0
Stores old new node step place false = (length (steps_in old) ≤ node) × (new ≡ old)
Stores old new node step place true = Stored old new node step place
