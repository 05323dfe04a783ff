-- Every program that can be said has a text: its constants as 16 digits, its names spelled by a letter and a digit.
use Rattle.std.proofs.Common.{◌≡◌, ℕ, zero, suc, ◌+◌, ◌*◌, ◌/◌, ◌%◌, ◌^◌, ◌<◌, ◌≤◌, true, List, [], ◌∷◌, ◌++◌, length, refl, ap, ◌∙◌, ap₂, inl, add-one, arith, length-append}
use Rattle.semantics.specs.Values.{Expr, name, input, constant, count, each, both, choose, fold, scan, shape_to, turn, part, join, rows}
use Rattle.semantics.specs.Programs.{Program, end, be, put, show, again}
use Rattle.grammar.specs.Letters.{bytes}
use Rattle.grammar.specs.Words.{Word, are_names}
use Rattle.grammar.specs.Constants.{canonical, hex_value, read_constant, read_expr, read_program}
use Rattle.grammar.specs.Sayable.{Fits, fit_name, fit_input, fit_constant, fit_count, fit_each, fit_both, fit_choose, fit_fold, fit_scan, fit_shape, fit_turn, fit_part, fit_join, fit_rows, FitLines, fit_end, fit_be, fit_put, fit_show, fit_again, Digits, none, more, Sixteen, Canonical}
use Rattle.grammar.specs.Texts.{Writing, letters, Reads}

-- the last k hexadecimal digits of x
digits_of : ℕ → ℕ → List ℕ
digits_of zero x = []
digits_of (suc k) x = digits_of k (x / 16) ++ x % 16 ∷ []

digits_snoc : {ds : List ℕ} (d : ℕ) → Digits ds → d < 16 → Digits (ds ++ d ∷ [])
digits_snoc d none h = more h none
digits_snoc d (more i r) h = more i (digits_snoc d r h)

digits_are : (k x : ℕ) → Digits (digits_of k x)
unfolding digits_of
digits_are zero x = none
digits_are (suc k) x = digits_snoc (x % 16) (digits_are k (x / 16)) (omega arith)

digits_length : (k x : ℕ) → length (digits_of k x) ≡ k
unfolding digits_of
digits_length zero x = refl
digits_length (suc k) x = length-append (digits_of k (x / 16)) (x % 16 ∷ []) ∙ add-one _ ∙ ap suc (digits_length k (x / 16))

value_snoc : (v : ℕ) (ds : List ℕ) (d : ℕ) → hex_value v (ds ++ d ∷ []) ≡ hex_value v ds * 16 + d
unfolding hex_value
value_snoc v [] d = refl
value_snoc v (c ∷ ds) d = value_snoc (v * 16 + c) ds d

digits_value : (k x : ℕ) → x < 16 ^ k → hex_value 0 (digits_of k x) ≡ x
unfolding digits_of hex_value
digits_value zero x h = omega arith
digits_value (suc k) x h =
    let l : x / 16 < 16 ^ k = omega arith in
    value_snoc 0 (digits_of k (x / 16)) (x % 16) ∙ ap (λ y. y * 16 + x % 16) (digits_value k (x / 16) l) ∙ omega arith

write_constant : ℕ → List ℕ
write_constant x = digits_of 16 x

constant_sixteen : (x : ℕ) → Sixteen (write_constant x)
unfolding write_constant
constant_sixteen x = record { digits = digits_are 16 x; sixteen = digits_length 16 x }

constant_read : (x : ℕ) → Canonical x → read_constant (write_constant x) ≡ x
unfolding write_constant read_constant
constant_read x c = ap canonical (digits_value 16 x c.below) ∙ c.itself

-- a program with its constants written
as_expr : Expr ℕ → Expr (List ℕ)
as_expr (name k) = name k
as_expr (input k) = input k
as_expr (constant x) = constant (write_constant x)
as_expr (count m) = count m
as_expr (each k e) = each k (as_expr e)
as_expr (both k e f) = both k (as_expr e) (as_expr f)
as_expr (choose e f g) = choose (as_expr e) (as_expr f) (as_expr g)
as_expr (fold k x e) = fold k x (as_expr e)
as_expr (scan k x e) = scan k x (as_expr e)
as_expr (shape_to t e) = shape_to t (as_expr e)
as_expr (turn os e) = turn os (as_expr e)
as_expr (part ps e) = part ps (as_expr e)
as_expr (join x e f) = join x (as_expr e) (as_expr f)
as_expr (rows e f) = rows (as_expr e) (as_expr f)

as_program : Program ℕ → Program (List ℕ)
as_program end = end
as_program (be k e p) = be k (as_expr e) (as_program p)
as_program (put k ps e p) = put k ps (as_expr e) (as_program p)
as_program (show e p) = show (as_expr e) (as_program p)
as_program (again k b p) = again k (as_program b) (as_program p)

expr_fits : {e : Expr ℕ} {n m : ℕ} → Fits Canonical e n m → Fits Sixteen (as_expr e) n m
unfolding as_expr
expr_fits (fit_name c) = fit_name c
expr_fits (fit_input h) = fit_input h
expr_fits (fit_constant {x = x} h) = fit_constant (constant_sixteen x)
expr_fits (fit_count h) = fit_count h
expr_fits (fit_each e) = fit_each (expr_fits e)
expr_fits (fit_both e f) = fit_both (expr_fits e) (expr_fits f)
expr_fits (fit_choose e f g) = fit_choose (expr_fits e) (expr_fits f) (expr_fits g)
expr_fits (fit_fold h e) = fit_fold h (expr_fits e)
expr_fits (fit_scan h e) = fit_scan h (expr_fits e)
expr_fits (fit_shape h e) = fit_shape h (expr_fits e)
expr_fits (fit_turn h e) = fit_turn h (expr_fits e)
expr_fits (fit_part h e) = fit_part h (expr_fits e)
expr_fits (fit_join h e f) = fit_join h (expr_fits e) (expr_fits f)
expr_fits (fit_rows e f) = fit_rows (expr_fits e) (expr_fits f)

program_fits : {p : Program ℕ} {n m : ℕ} → FitLines Canonical p n m → FitLines Sixteen (as_program p) n m
unfolding as_program
program_fits fit_end = fit_end
program_fits (fit_be c e p) = fit_be c (expr_fits e) (program_fits p)
program_fits (fit_put c h e p) = fit_put c h (expr_fits e) (program_fits p)
program_fits (fit_show e p) = fit_show (expr_fits e) (program_fits p)
program_fits (fit_again h b p) = fit_again h (program_fits b) (program_fits p)

expr_read : {e : Expr ℕ} {n m : ℕ} → Fits Canonical e n m → read_expr (as_expr e) ≡ e
unfolding as_expr read_expr
expr_read (fit_name c) = refl
expr_read (fit_input h) = refl
expr_read (fit_constant {x = x} h) = ap constant (constant_read x h)
expr_read (fit_count h) = refl
expr_read (fit_each {k = k} e) = ap (each k) (expr_read e)
expr_read (fit_both {k = k} e f) = ap₂ (both k) (expr_read e) (expr_read f)
expr_read (fit_choose {e = e} {f = f} {g = g} x y z) =
    ap (λ a. choose a (read_expr (as_expr f)) (read_expr (as_expr g))) (expr_read x) ∙ ap₂ (choose e) (expr_read y) (expr_read z)
expr_read (fit_fold {k = k} {x = x} h e) = ap (fold k x) (expr_read e)
expr_read (fit_scan {k = k} {x = x} h e) = ap (scan k x) (expr_read e)
expr_read (fit_shape {t = t} h e) = ap (shape_to t) (expr_read e)
expr_read (fit_turn {os = os} h e) = ap (turn os) (expr_read e)
expr_read (fit_part {ps = ps} h e) = ap (part ps) (expr_read e)
expr_read (fit_join {x = x} h e f) = ap₂ (join x) (expr_read e) (expr_read f)
expr_read (fit_rows e f) = ap₂ rows (expr_read e) (expr_read f)

program_read : {p : Program ℕ} {n m : ℕ} → FitLines Canonical p n m → read_program (as_program p) ≡ p
unfolding as_program read_program
program_read fit_end = refl
program_read (fit_be {k = k} c e p) = ap₂ (be k) (expr_read e) (program_read p)
program_read (fit_put {k = k} {ps = ps} c h e p) = ap₂ (put k ps) (expr_read e) (program_read p)
program_read (fit_show e p) = ap₂ show (expr_read e) (program_read p)
program_read (fit_again {k = k} h b p) = ap₂ (again k) (program_read b) (program_read p)

-- 64 spellings: a0, a1, .. h7
spelling : ℕ → Word
spelling k = (97 + k / 8) ∷ (48 + k % 8) ∷ []

spellings_from : ℕ → ℕ → List Word
spellings_from k zero = []
spellings_from k (suc n) = spelling k ∷ spellings_from (suc k) n

sixty_four : List Word
sixty_four = spellings_from 0 64

sixty_four_are : are_names sixty_four ≡ true
unfolding sixty_four spellings_from spelling are_names
sixty_four_are = refl

sixty_four_long : length sixty_four ≡ 64
unfolding sixty_four spellings_from
sixty_four_long = refl

pub has_text : (p : Program ℕ) (m : ℕ) → FitLines Canonical p 0 m → m ≤ 64 → (t : List ℕ) × Reads t p
has_text p m h l =
    let w : Writing = record { names = sixty_four; are = sixty_four_are; few = omega (arith, sixty_four_long); written = as_program p; used = m; fits = program_fits h; enough = omega (arith, sixty_four_long) } in
    (bytes (letters w), record { writing = w; is = program_read h; lines = inl refl })
