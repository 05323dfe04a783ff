-- The text of a program is a text of it: the digits of a constant are read as the constant.
use Rattle.std.proofs.Common.{◌≡◌, ℕ, zero, suc, ◌+◌, ◌*◌, ◌/◌, ◌%◌, ◌^◌, length, sym, refl, ap, ◌∙◌, inl, pow-suc, div-one, arith}
use native.Mathlib.Nat.{div-div-eq-div-mul}
use Rattle.semantics.specs.Values.{Expr, constant, each, fold, scan, shape_to, turn, part}
use Rattle.semantics.specs.Programs.{Program}
use Rattle.grammar.specs.Constants.{canonical, hex_value, read_constant, read_expr, read_program}
use Rattle.grammar.specs.Sayable.{Fits, fit_name, fit_input, fit_constant, fit_count, fit_each, fit_both, fit_choose, fit_fold, fit_scan, fit_shape, fit_turn, fit_part, fit_join, fit_rows, FitLines, fit_end, fit_be, fit_put, fit_show, fit_again, Digits, none, more, Sixteen, Canonical}
use Rattle.grammar.specs.Texts.{letters}
use Rattle.writer.specs.Spellings.{spellings}
use Rattle.writer.specs.WrittenAs.{digits_last, written_expr, as_written, text_of, TextReads}
use Rattle.writer.proofs.Names.{all_are_names, spellings_many}

-- digits
are_digits : (n x : ℕ) → Digits (digits_last n x)
unfolding digits_last
are_digits zero x = none
are_digits (suc n) x = more (omega arith) (are_digits n x)

length_digits : (n x : ℕ) → length (digits_last n x) ≡ n
unfolding digits_last
length_digits zero x = refl
length_digits (suc n) x = ap suc (length_digits n x)

-- what is before the last n digits, and then these
hex_back : (n x : ℕ) → hex_value (x / 16 ^ n) (digits_last n x) ≡ x
unfolding hex_value digits_last
hex_back zero x = div-one x
hex_back (suc n) x =
    let y = x / 16 ^ n in
    let front : x / 16 ^ suc n ≡ y / 16 = ap (λ d. x / d) (pow-suc 16 n) ∙ sym (div-div-eq-div-mul x (16 ^ n) 16) in
    let whole : y / 16 * 16 + y % 16 ≡ y = omega arith in
    ap (λ v. hex_value (v * 16 + y % 16) (digits_last n x)) front ∙ (ap (λ v. hex_value v (digits_last n x)) whole ∙ hex_back n x)

constant_back : (x : ℕ) → Canonical x → read_constant (digits_last 16 x) ≡ x
unfolding read_constant
constant_back x h =
    let nothing : 0 ≡ x / 16 ^ 16 = omega (arith, h.below) in
    ap (λ v. canonical (hex_value v (digits_last 16 x))) nothing ∙ (ap canonical (hex_back 16 x) ∙ h.itself)

sixteen : (x : ℕ) → Sixteen (digits_last 16 x)
sixteen x = record { digits = are_digits 16 x; sixteen = length_digits 16 x }

-- expressions
fits_written : {e : Expr ℕ} {n m : ℕ} → Fits Canonical e n m → Fits Sixteen (written_expr e) n m
unfolding written_expr
fits_written (fit_name c) = fit_name c
fits_written (fit_input s) = fit_input s
fits_written (fit_constant {x} o) = fit_constant (sixteen x)
fits_written (fit_count s) = fit_count s
fits_written (fit_each f) = fit_each (fits_written f)
fits_written (fit_both f g) = fit_both (fits_written f) (fits_written g)
fits_written (fit_choose f g h) = fit_choose (fits_written f) (fits_written g) (fits_written h)
fits_written (fit_fold s f) = fit_fold s (fits_written f)
fits_written (fit_scan s f) = fit_scan s (fits_written f)
fits_written (fit_shape s f) = fit_shape s (fits_written f)
fits_written (fit_turn s f) = fit_turn s (fits_written f)
fits_written (fit_part s f) = fit_part s (fits_written f)
fits_written (fit_join s f g) = fit_join s (fits_written f) (fits_written g)
fits_written (fit_rows f g) = fit_rows (fits_written f) (fits_written g)

expr_back : {e : Expr ℕ} {n m : ℕ} → Fits Canonical e n m → read_expr (written_expr e) ≡ e
unfolding written_expr read_expr
expr_back (fit_name c) = refl
expr_back (fit_input s) = refl
expr_back (fit_constant {x} o) = ap (λ a. constant a) (constant_back x o)
expr_back (fit_count s) = refl
expr_back (fit_each {k} f) = ap (λ a. each k a) (expr_back f)
expr_back (fit_both f g) = let a = expr_back f in let b = expr_back g in cc
expr_back (fit_choose f g h) = let a = expr_back f in let b = expr_back g in let d = expr_back h in cc
expr_back (fit_fold {k} {x} s f) = ap (λ a. fold k x a) (expr_back f)
expr_back (fit_scan {k} {x} s f) = ap (λ a. scan k x a) (expr_back f)
expr_back (fit_shape {t} s f) = ap (λ a. shape_to t a) (expr_back f)
expr_back (fit_turn {os} s f) = ap (λ a. turn os a) (expr_back f)
expr_back (fit_part {ps} s f) = ap (λ a. part ps a) (expr_back f)
expr_back (fit_join s f g) = let a = expr_back f in let b = expr_back g in cc
expr_back (fit_rows f g) = let a = expr_back f in let b = expr_back g in cc

-- lines
lines_written : {p : Program ℕ} {n m : ℕ} → FitLines Canonical p n m → FitLines Sixteen (as_written p) n m
unfolding as_written
lines_written fit_end = fit_end
lines_written (fit_be c f l) = fit_be c (fits_written f) (lines_written l)
lines_written (fit_put c s f l) = fit_put c s (fits_written f) (lines_written l)
lines_written (fit_show f l) = fit_show (fits_written f) (lines_written l)
lines_written (fit_again s b l) = fit_again s (lines_written b) (lines_written l)

lines_back : {p : Program ℕ} {n m : ℕ} → FitLines Canonical p n m → read_program (as_written p) ≡ p
unfolding as_written read_program
lines_back fit_end = refl
lines_back (fit_be c f l) = let a = expr_back f in let b = lines_back l in cc
lines_back (fit_put c s f l) = let a = expr_back f in let b = lines_back l in cc
lines_back (fit_show f l) = let a = expr_back f in let b = lines_back l in cc
lines_back (fit_again s b l) = let a = lines_back b in let d = lines_back l in cc

pub text_reads : TextReads
unfolding text_of letters
text_reads p used fits few = record {
  writing = record {
    names = spellings;
    are = all_are_names;
    few = omega (arith, spellings_many);
    written = as_written p;
    used = used;
    fits = lines_written fits;
    enough = omega (arith, spellings_many);
  };
  is = lines_back fits;
  lines = inl refl;
}
