-- Worked examples with whole numbers: each row has a program, the places there are, what is shown, and how it ends.
use Rattle.std.specs.Prelude.{◌≡◌, ℕ, zero, suc, ◌*◌, Bool, true, false, not, ◌&&◌, List, [], ◌∷◌, ℤ, pos, negsuc, ◌+ℤ◌, ◌-ℤ◌, ◌*ℤ◌, neg_ℤ, int_div, int_le, int_lt, nat_le, unsigned_abs}
use Rattle.semantics.specs.declared.operation.Unary.{Unary}
use Rattle.semantics.specs.declared.operation.Unary.TheVariants.{Neg, Abs, Sqrt, Floor, Not}
use Rattle.semantics.specs.declared.operation.Binary.{Binary}
use Rattle.semantics.specs.declared.operation.Binary.TheVariants.{Add, Sub, Mul, Div, Less, Same, Least, Most}
use Rattle.semantics.specs.Shapes.{pick}
use Rattle.semantics.specs.Arrays.{Numbers}
use Rattle.semantics.specs.Values.{name, constant, count, both, fold, shape_to, rows, Sizes}
use Rattle.semantics.specs.Programs.{Program, end, be, put, show, Shown, shows, ends}

-- the whole numbers: 1 for true and 0 for false, the whole root, the quotient toward 0
unfoldable pub whole_truth : ℤ → Bool
whole_truth x = not (int_le x (pos 0) && int_le (pos 0) x)

unfoldable pub whole_bit : Bool → ℤ
whole_bit b = pick b (pos 1) (pos 0)

-- the largest of 0 .. r whose square is at most n
unfoldable pub root_below : ℕ → ℕ → ℕ
root_below zero n = 0
root_below (suc r) n = pick (nat_le (suc r * suc r) n) (suc r) (root_below r n)

unfoldable pub whole_root : ℤ → ℤ
unfolding root_below
whole_root (pos n) = pos (root_below n n)
whole_root (negsuc n) = pos 0

unfoldable pub whole_one : Unary → ℤ → ℤ
unfolding whole_root whole_bit whole_truth
whole_one Neg x = neg_ℤ x
whole_one Abs x = pos (unsigned_abs x)
whole_one Sqrt x = whole_root x
whole_one Floor x = x
whole_one Not x = whole_bit (not (whole_truth x))

unfoldable pub whole_two : Binary → ℤ → ℤ → ℤ
unfolding whole_bit
whole_two Add x y = x +ℤ y
whole_two Sub x y = x -ℤ y
whole_two Mul x y = x *ℤ y
whole_two Div x y = int_div x y
whole_two Less x y = whole_bit (int_lt x y)
whole_two Same x y = whole_bit (int_le x y && int_le y x)
whole_two Least x y = pick (int_lt y x) y x
whole_two Most x y = pick (int_lt x y) y x

-- a negative number is no index: 2^32 is out of every range
unfoldable pub whole_index : ℤ → ℕ
whole_index (pos n) = n
whole_index (negsuc n) = 4294967296

unfoldable pub whole_empty : Binary → ℤ
whole_empty Add = pos 0
whole_empty Sub = pos 0
whole_empty Mul = pos 1
whole_empty Div = pos 1
whole_empty Less = pos 0
whole_empty Same = pos 1
whole_empty Least = pos 0
whole_empty Most = pos 0

unfoldable pub whole : Numbers ℤ
unfolding whole_one whole_two whole_truth whole_index whole_empty
whole =
    record { one = whole_one; two = whole_two; truth = whole_truth; index = whole_index; of = pos; empty = whole_empty }

-- 64 names, 8 axes
unfoldable pub with_places : ℕ → Sizes
with_places n = record { names = 64; axes = 8; places = n }

pub record Example : Type 0 where
  pub places : ℕ
  pub program : Program ℤ
  pub shown : List (Shown ℤ)
  pub ended : ℕ

-- the sums over each axis of a table of 2 rows and 3 columns
unfoldable pub sums : Program ℤ
sums =
    be 0 (shape_to (2 ∷ 3 ∷ []) (count 6)) (show (fold Add 0 (name 0)) (show (fold Add 1 (name 0)) end))

-- a column and a row make a table: 2 + 2 + 3 + 6 places
unfoldable pub table : Program ℤ
table = show (both Add (shape_to (2 ∷ 1 ∷ []) (count 2)) (count 3)) end

-- places 5, 3 and 1 become 0, 1 and 2
unfoldable pub backward : Program ℤ
backward =
    be 0 (count 6) (put 0 (record { from = 5; backward = true; step = 2; many = 3 } ∷ []) (count 3) (show (name 0) end))

-- a second name keeps what the first had
unfoldable pub kept : Program ℤ
kept =
    be 0 (count 4) (be 1 (name 0) (put 0 (record { from = 0; backward = false; step = 1; many = 2 } ∷ []) (constant (pos 9)) (show (name 1) (show (name 0) end))))

-- 2 and 3 numbers do not go together
unfoldable pub unlike : Program ℤ
unlike = show (both Add (count 2) (count 3)) end

-- the rows of a table, last first: 6 + 6, 1 + 3 + 3 and 6 places
unfoldable pub last_first : Program ℤ
last_first =
    show (rows (shape_to (3 ∷ 2 ∷ []) (count 6)) (both Sub (constant (pos 2)) (count 3))) end

unfoldable pub examples : List Example
unfolding sums table backward kept unlike last_first
examples =
    record {
      places = 1000;
      program = sums;
      shown = record { shape = 3 ∷ []; numbers = pos 3 ∷ pos 5 ∷ pos 7 ∷ [] } ∷ record { shape = 2 ∷ []; numbers = pos 3 ∷ pos 12 ∷ [] } ∷ [];
      ended = 0;
    }
    ∷ record {
      places = 13;
      program = table;
      shown = record { shape = 2 ∷ 3 ∷ []; numbers = pos 0 ∷ pos 1 ∷ pos 2 ∷ pos 1 ∷ pos 2 ∷ pos 3 ∷ [] } ∷ [];
      ended = 0;
    }
    ∷ record { places = 12; program = table; shown = []; ended = 5 }
    ∷ record {
      places = 1000;
      program = backward;
      shown = record { shape = 6 ∷ []; numbers = pos 0 ∷ pos 2 ∷ pos 2 ∷ pos 1 ∷ pos 4 ∷ pos 0 ∷ [] } ∷ [];
      ended = 0;
    }
    ∷ record {
      places = 1000;
      program = kept;
      shown = record { shape = 4 ∷ []; numbers = pos 0 ∷ pos 1 ∷ pos 2 ∷ pos 3 ∷ [] } ∷ record { shape = 4 ∷ []; numbers = pos 9 ∷ pos 9 ∷ pos 2 ∷ pos 3 ∷ [] } ∷ [];
      ended = 0;
    }
    ∷ record { places = 1000; program = unlike; shown = []; ended = 1 }
    ∷ record {
      places = 25;
      program = last_first;
      shown = record { shape = 3 ∷ 2 ∷ []; numbers = pos 4 ∷ pos 5 ∷ pos 2 ∷ pos 3 ∷ pos 0 ∷ pos 1 ∷ [] } ∷ [];
      ended = 0;
    }
    ∷ record { places = 24; program = last_first; shown = []; ended = 5 }
    ∷ []

-- the program of the row shows and ends as the row says, without inputs
unfoldable pub ComesOut : Example → Type 0
unfolding shows ends whole with_places
ComesOut r =
    (shows (with_places r.places) whole [] r.program ≡ r.shown) × (ends (with_places r.places) whole [] r.program ≡ r.ended)

unfoldable pub AllComeOut : List Example → Type 0
unfolding ComesOut
AllComeOut [] = Unit {0}
AllComeOut (r ∷ rs) = ComesOut r × AllComeOut rs

-- the theorem: every row is as it says
abbrev pub ExamplesComeOut : Type 0
ExamplesComeOut = AllComeOut examples
