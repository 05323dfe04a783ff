-- How much a program is: its marks, and how deep its agains stand in one another.
use Rattle.std.specs.Prelude.{ℕ, suc, ◌+◌, max, length}
use Rattle.semantics.specs.Values.{Expr, name, input, constant, count, each, both, choose, fold, scan, shape_to, turn, part, join, rows}
use Rattle.semantics.specs.Programs.{Program, end, be, put, show, again}

unfoldable pub marks_in : {Num : Type 0} → Expr Num → ℕ
marks_in (name k) = 1
marks_in (input k) = 1
marks_in (constant x) = 1
marks_in (count m) = 1
marks_in (each k e) = 1 + marks_in e
marks_in (both k e f) = 1 + marks_in e + marks_in f
marks_in (choose e f g) = 1 + marks_in e + marks_in f + marks_in g
marks_in (fold k x e) = 1 + marks_in e
marks_in (scan k x e) = 1 + marks_in e
marks_in (shape_to t e) = 1 + length t + marks_in e
marks_in (turn os e) = 1 + length os + marks_in e
marks_in (part ps e) = 1 + length ps + marks_in e
marks_in (join x e f) = 1 + marks_in e + marks_in f
marks_in (rows e f) = 1 + marks_in e + marks_in f

unfoldable pub marks_of : {Num : Type 0} → Program Num → ℕ
unfolding marks_in
marks_of end = 0
marks_of (be k e p) = 1 + marks_in e + marks_of p
marks_of (put k ps e p) = 1 + length ps + marks_in e + marks_of p
marks_of (show e p) = 1 + marks_in e + marks_of p
marks_of (again k b p) = 2 + marks_of b + marks_of p

unfoldable pub depth_of : {Num : Type 0} → Program Num → ℕ
depth_of end = 0
depth_of (be k e p) = depth_of p
depth_of (put k ps e p) = depth_of p
depth_of (show e p) = depth_of p
depth_of (again k b p) = max (suc (depth_of b)) (depth_of p)
