-- Constants: 16 hexadecimal digits are a bit pattern of binary64, and every pattern of no number is read as one and the same. So
-- a program as it is written is read as a program.
use Rattle.std.specs.Prelude.{ℕ, ◌+◌, ◌*◌, ◌%◌, List, [], ◌∷◌, nat_lt}
use Rattle.semantics.specs.Shapes.{pick}
use Rattle.semantics.specs.Values.{Expr, name, input, constant, count, each, both, choose, fold, scan, shape_to, turn, part, join, rows}
use Rattle.semantics.specs.Programs.{Program, end, be, put, show, again}

-- a pattern of no number: all bits of the exponent, and some of the fraction
unfoldable pub canonical : ℕ → ℕ
canonical x = pick (nat_lt 0x7FF0000000000000 (x % 0x8000000000000000)) 0x7FF8000000000000 x

unfoldable pub hex_value : ℕ → List ℕ → ℕ
hex_value v [] = v
hex_value v (d ∷ ds) = hex_value (v * 16 + d) ds

unfoldable pub read_constant : List ℕ → ℕ
unfolding canonical hex_value
read_constant ds = canonical (hex_value 0 ds)

unfoldable pub read_expr : Expr (List ℕ) → Expr ℕ
unfolding read_constant
read_expr (name k) = name k
read_expr (input k) = input k
read_expr (constant ds) = constant (read_constant ds)
read_expr (count m) = count m
read_expr (each k e) = each k (read_expr e)
read_expr (both k e f) = both k (read_expr e) (read_expr f)
read_expr (choose e f g) = choose (read_expr e) (read_expr f) (read_expr g)
read_expr (fold k x e) = fold k x (read_expr e)
read_expr (scan k x e) = scan k x (read_expr e)
read_expr (shape_to t e) = shape_to t (read_expr e)
read_expr (turn os e) = turn os (read_expr e)
read_expr (part ps e) = part ps (read_expr e)
read_expr (join x e f) = join x (read_expr e) (read_expr f)
read_expr (rows e f) = rows (read_expr e) (read_expr f)

unfoldable pub read_program : Program (List ℕ) → Program ℕ
unfolding read_expr
read_program end = end
read_program (be k e p) = be k (read_expr e) (read_program p)
read_program (put k ps e p) = put k ps (read_expr e) (read_program p)
read_program (show e p) = show (read_expr e) (read_program p)
read_program (again k b p) = again k (read_program b) (read_program p)
