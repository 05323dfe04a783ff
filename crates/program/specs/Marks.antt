-- How many steps an expression and a program have: one for each mark of their text.
use Rattle.std.specs.Prelude.{ℕ, ◌+◌, length}
use Rattle.semantics.specs.Values.{Expr, name, input, constant, count, each, both, choose, fold, scan, shape_to, turn, part, join, rows}
use Rattle.semantics.specs.Programs.{Program, end, be, put, show, again}

unfoldable pub marks : {Num : Type 0} → Expr Num → ℕ
marks (name k) = 1
marks (input k) = 1
marks (constant x) = 1
marks (count m) = 1
marks (each k e) = 1 + marks e
marks (both k e f) = 1 + marks e + marks f
marks (choose e f g) = 1 + marks e + marks f + marks g
marks (fold k x e) = 1 + marks e
marks (scan k x e) = 1 + marks e
marks (shape_to t e) = 1 + length t + marks e
marks (turn os e) = 1 + length os + marks e
marks (part ps e) = 1 + length ps + marks e
marks (join x e f) = 1 + marks e + marks f
marks (rows e f) = 1 + marks e + marks f

-- an `again` and its `End` are two
unfoldable pub long : {Num : Type 0} → Program Num → ℕ
unfolding marks
long end = 0
long (be k e p) = 1 + marks e + long p
long (put k ps e p) = 1 + length ps + marks e + long p
long (show e p) = 1 + marks e + long p
long (again n b p) = 2 + long b + long p
