-- What a program does: statements one after the other, none after a fault; what is shown, and how it ends.
use Rattle.std.specs.Prelude.{ℕ, zero, suc, ◌+◌, ◌-◌, List, [], ◌∷◌, ◌++◌, ◌==◌, nat_lt, slice_index_or, slice_set}
use Rattle.semantics.specs.Shapes.{pick, size, unflat, up_to}
use Rattle.semantics.specs.Parts.{Part, parts_fit}
use Rattle.semantics.specs.Arrays.{Array, Numbers, can_put, put_array}
use Rattle.semantics.specs.Values.{Expr, Cell, none, some, Value, fault, val, Sizes, value}

pub data Program (Num : Type 0) : Type 0 where
  end : Program Num
  be : ℕ → Expr Num → Program Num → Program Num
  put : ℕ → List Part → Expr Num → Program Num → Program Num
  show : Expr Num → Program Num → Program Num
  again : ℕ → Program Num → Program Num → Program Num

-- how many places the arrays of names have
unfoldable pub cell_size : {Num : Type 0} → Cell Num → ℕ
unfolding size
cell_size none = 0
cell_size (some a) = size a.shape

unfoldable pub in_names : {Num : Type 0} → List (Cell Num) → ℕ
unfolding cell_size
in_names [] = 0
in_names (c ∷ cs) = cell_size c + in_names cs

-- what is shown: a shape, and the numbers in the order of places
pub record Shown (Num : Type 0) : Type 0 where
  pub shape : List ℕ
  pub numbers : List Num

unfoldable pub numbers_at : {Num : Type 0} → Array Num → List ℕ → List Num
unfolding unflat
numbers_at a [] = []
numbers_at a (n ∷ ns) = a.at (unflat a.shape n) ∷ numbers_at a ns

unfoldable pub listed : {Num : Type 0} → Array Num → Shown Num
unfolding numbers_at up_to size
listed a = record { shape = a.shape; numbers = numbers_at a (up_to 0 (size a.shape)) }

-- names, what was shown, and 0 or the fault that ended the program
pub record State (Num : Type 0) : Type 0 where
  pub names : List (Cell Num)
  pub shown : List (Shown Num)
  pub ended : ℕ

unfoldable pub stopped : {Num : Type 0} → State Num → ℕ → State Num
stopped t e = record { names = t.names; shown = t.shown; ended = e }

unfoldable pub with_name : {Num : Type 0} → State Num → ℕ → Array Num → State Num
with_name t k a = record { names = slice_set t.names k (some a); shown = t.shown; ended = 0 }

unfoldable pub becomes : {Num : Type 0} → Sizes → State Num → ℕ → Value Num → State Num
unfolding stopped with_name
becomes s t k (fault e) = stopped t e
becomes s t k (val a c) = pick (nat_lt k s.names) (with_name t k a) (stopped t 6)

-- the old array's 6, the expression's fault, 4, 1
unfoldable pub is_put : {Num : Type 0} → State Num → ℕ → List Part → Cell Num → Value Num → State Num
unfolding stopped with_name parts_fit can_put put_array
is_put t k ps none v = stopped t 6
is_put t k ps (some a) (fault e) = stopped t e
is_put t k ps (some a) (val b c) =
    pick (parts_fit ps a.shape) (pick (can_put ps b) (with_name t k (put_array ps a b)) (stopped t 1)) (stopped t 4)

unfoldable pub is_shown : {Num : Type 0} → State Num → Value Num → State Num
unfolding stopped listed
is_shown t (fault e) = stopped t e
is_shown t (val a c) = record { names = t.names; shown = t.shown ++ listed a ∷ []; ended = 0 }

unfoldable pub times : {A : Type 0} → ℕ → (A → A) → A → A
times zero f t = t
times (suc n) f t = times n f (f t)

-- an expression of a statement has the places that names leave
unfoldable pub value_in : {Num : Type 0} → Sizes → Numbers Num → List (Array Num) → State Num → Expr Num → Value Num
unfolding value in_names
value_in s z ins t e = value s z ins t.names (s.places - in_names t.names) e

unfoldable pub run : {Num : Type 0} → Sizes → Numbers Num → List (Array Num) → Program Num → State Num → State Num
unfolding value_in becomes is_put is_shown times
run s z ins end t = t
run s z ins (be k e p) t = pick (t.ended == 0) (run s z ins p (becomes s t k (value_in s z ins t e))) t
run s z ins (put k ps e p) t = pick (t.ended == 0) (run s z ins p (is_put t k ps (slice_index_or t.names k none) (value_in s z ins t e))) t
run s z ins (show e p) t = pick (t.ended == 0) (run s z ins p (is_shown t (value_in s z ins t e))) t
run s z ins (again n b p) t = pick (t.ended == 0) (run s z ins p (times n (run s z ins b) t)) t

unfoldable pub nothing : {Num : Type 0} → ℕ → List (Cell Num)
nothing zero = []
nothing (suc n) = none ∷ nothing n

unfoldable pub begin : {Num : Type 0} → Sizes → State Num
unfolding nothing
begin s = record { names = nothing s.names; shown = []; ended = 0 }

unfoldable pub shows : {Num : Type 0} → Sizes → Numbers Num → List (Array Num) → Program Num → List (Shown Num)
unfolding run begin
shows s z ins p = (run s z ins p (begin s)).shown

unfoldable pub ends : {Num : Type 0} → Sizes → Numbers Num → List (Array Num) → Program Num → ℕ
unfolding run begin
ends s z ins p = (run s z ins p (begin s)).ended
