-- A program as it is written: each constant as its 16 hexadecimal digits, the highest first.
use Rattle.std.specs.Prelude.{ℕ, zero, suc, ◌/◌, ◌%◌, ◌^◌, ◌≤◌, List, [], ◌∷◌}
use Rattle.semantics.specs.Values.{Expr, name, input, constant, count, each, both, choose, fold, scan, shape_to, turn, part, join, rows}
use Rattle.semantics.specs.Programs.{Program, end, be, put, show, again}
use Rattle.grammar.specs.Letters.{bytes}
use Rattle.grammar.specs.Sayable.{FitLines, Canonical}
use Rattle.grammar.specs.Written.{write_lines}
use Rattle.grammar.specs.Texts.{Reads}
use Rattle.writer.specs.Spellings.{spellings}

-- the last n digits of x
unfoldable pub digits_last : ℕ → ℕ → List ℕ
digits_last zero x = []
digits_last (suc n) x = x / 16 ^ n % 16 ∷ digits_last n x

unfoldable pub written_expr : Expr ℕ → Expr (List ℕ)
unfolding digits_last
written_expr (name k) = name k
written_expr (input k) = input k
written_expr (constant x) = constant (digits_last 16 x)
written_expr (count m) = count m
written_expr (each k e) = each k (written_expr e)
written_expr (both k e f) = both k (written_expr e) (written_expr f)
written_expr (choose e f g) = choose (written_expr e) (written_expr f) (written_expr g)
written_expr (fold k x e) = fold k x (written_expr e)
written_expr (scan k x e) = scan k x (written_expr e)
written_expr (shape_to t e) = shape_to t (written_expr e)
written_expr (turn os e) = turn os (written_expr e)
written_expr (part ps e) = part ps (written_expr e)
written_expr (join x e f) = join x (written_expr e) (written_expr f)
written_expr (rows e f) = rows (written_expr e) (written_expr f)

unfoldable pub as_written : Program ℕ → Program (List ℕ)
unfolding written_expr
as_written end = end
as_written (be k e p) = be k (written_expr e) (as_written p)
as_written (put k ps e p) = put k ps (written_expr e) (as_written p)
as_written (show e p) = show (written_expr e) (as_written p)
as_written (again k b p) = again k (as_written b) (as_written p)

-- the text of a program
unfoldable pub text_of : Program ℕ → List ℕ
unfolding bytes write_lines spellings as_written
text_of p = bytes (write_lines spellings (as_written p) [])

-- what is written is a text of the program, of each that can be written with 64 names at most
abbrev pub TextReads : Type 0
TextReads = (p : Program ℕ) (used : ℕ) → FitLines Canonical p 0 used → used ≤ 64 → Reads (text_of p) p
