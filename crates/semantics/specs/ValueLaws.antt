-- What values and runs read: only what arrays have at their places. Where names and inputs have alike arrays, an expression comes
-- to alike arrays with the same count, or to the same fault, and a program shows the same and ends the same.
use Rattle.std.specs.Prelude.{◌≡◌, ℕ, List, length, slice_index_or}
use Rattle.semantics.specs.Arrays.{Array, Numbers, Alike}
use Rattle.semantics.specs.Values.{Expr, Cell, none, some, Value, fault, val, Sizes, given, value}
use Rattle.semantics.specs.Programs.{Program, State, run, shows, ends}

-- both have nothing, or alike arrays
pub data LikeCells {Num : Type 0} : Cell Num → Cell Num → Type 0 where
  like_none : LikeCells none none
  like_some : (a b : Array Num) → Alike a b → LikeCells (some a) (some b)

-- the same fault, or alike arrays and the same count
pub data LikeValues {Num : Type 0} : Value Num → Value Num → Type 0 where
  like_fault : (e : ℕ) → LikeValues (fault e) (fault e)
  like_val : (a b : Array Num) (c : ℕ) → Alike a b → LikeValues (val a c) (val b c)

abbrev pub LikeNames : {Num : Type 0} → List (Cell Num) → List (Cell Num) → Type 0
LikeNames ns ms = (k : ℕ) → LikeCells (slice_index_or ns k none) (slice_index_or ms k none)

abbrev pub LikeInputs : {Num : Type 0} → List (Array Num) → List (Array Num) → Type 0
LikeInputs xs ys = (k : ℕ) → LikeCells (given xs k) (given ys k)

-- a value depends only on what the arrays of names and inputs have at their places
abbrev pub ValueReadsPlaces : Type 0 → Type 0
ValueReadsPlaces Num =
    (s : Sizes) (z : Numbers Num) (xs ys : List (Array Num)) (ns ms : List (Cell Num)) (n : ℕ) (e : Expr Num) → LikeInputs xs ys → LikeNames ns ms → LikeValues (value s z xs ns n e) (value s z ys ms n e)

-- as many names, with alike arrays, and the same shown and ended
pub record LikeStates {Num : Type 0} (t u : State Num) : Type 0 where
  pub many : length t.names ≡ length u.names
  pub names : LikeNames t.names u.names
  pub shown : t.shown ≡ u.shown
  pub ended : t.ended ≡ u.ended

-- a run depends only on what the arrays of names and inputs have at their places
abbrev pub RunReadsPlaces : Type 0 → Type 0
RunReadsPlaces Num =
    (s : Sizes) (z : Numbers Num) (xs ys : List (Array Num)) (p : Program Num) (t u : State Num) → LikeInputs xs ys → LikeStates t u → LikeStates (run s z xs p t) (run s z ys p u)

-- so what a program shows and how it ends depend only on what the inputs have at their places
abbrev pub ShowsReadPlaces : Type 0 → Type 0
ShowsReadPlaces Num =
    (s : Sizes) (z : Numbers Num) (xs ys : List (Array Num)) (p : Program Num) → LikeInputs xs ys → (shows s z xs p ≡ shows s z ys p) × (ends s z xs p ≡ ends s z ys p)
