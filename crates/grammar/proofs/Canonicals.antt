-- What a text says can be written: a program that was read has constants that are patterns.
use Rattle.std.proofs.Common.{◌≡◌, ℕ, suc, ◌+◌, ◌*◌, ◌%◌, ◌^◌, ◌<◌, ◌≤◌, Bool, true, false, ltb, List, length, sym, refl, ap, ◌∙◌, subst, mul-le-mul_right, mul_assoc, mul_comm, one-mul, pow-suc, arith, lit<}
use Rattle.semantics.specs.Shapes.{pick}
use Rattle.semantics.specs.Values.{Expr}
use Rattle.semantics.specs.Programs.{Program}
use Rattle.grammar.specs.Constants.{canonical, hex_value, read_constant, read_expr, read_program}
use Rattle.grammar.specs.Sayable.{Fits, fit_name, fit_input, fit_constant, fit_count, fit_each, fit_both, fit_choose, fit_fold, fit_scan, fit_shape, fit_turn, fit_part, fit_join, fit_rows, FitLines, fit_end, fit_be, fit_put, fit_show, fit_again, Digits, none, more, Sixteen, Canonical}

hex_below : (v : ℕ) {ds : List ℕ} → Digits ds → hex_value v ds < (v + 1) * 16 ^ length ds
unfolding hex_value
hex_below v none = omega arith
hex_below v (more {d} {ds} l h) =
    let rest = hex_below (v * 16 + d) h in
    let room : (v * 16 + d + 1) * 16 ^ length ds ≤ ((v + 1) * 16) * 16 ^ length ds = mul-le-mul_right (16 ^ length ds) (omega arith) in
    let along : ((v + 1) * 16) * 16 ^ length ds ≡ (v + 1) * (16 * 16 ^ length ds) = mul_assoc (v + 1) 16 (16 ^ length ds) in
    let power : 16 * 16 ^ length ds ≡ 16 ^ suc (length ds) = mul_comm 16 (16 ^ length ds) ∙ sym (pow-suc 16 (length ds)) in
    omega (arith, ap (λ n. (v + 1) * n) power)

canonical_twice : (x : ℕ) (b : Bool) → ltb 0x7FF0000000000000 (x % 0x8000000000000000) ≡ b → x < 0x10000000000000000 → Canonical (canonical x)
unfolding canonical
canonical_twice x true e small = subst (λ b. Canonical (pick b 0x7FF8000000000000 x)) (sym e) (record { below = lit< tt; itself = refl })
canonical_twice x false e small = subst (λ b. Canonical (pick b 0x7FF8000000000000 x)) (sym e) (record { below = small; itself = ap (λ b. pick b 0x7FF8000000000000 x) e })

canonical_read : {ds : List ℕ} → Sixteen ds → Canonical (read_constant ds)
unfolding read_constant
canonical_read {ds} s =
    let bound = hex_below 0 s.digits in
    let all : 16 ^ length ds ≡ 0x10000000000000000 = ap (λ n. 16 ^ n) s.sixteen in
    canonical_twice (hex_value 0 ds) _ refl (omega (arith, one-mul (16 ^ length ds)))

expr_canonical : {e : Expr (List ℕ)} {n m : ℕ} → Fits Sixteen e n m → Fits Canonical (read_expr e) n m
unfolding read_expr
expr_canonical (fit_name c) = fit_name c
expr_canonical (fit_input s) = fit_input s
expr_canonical (fit_constant s) = fit_constant (canonical_read s)
expr_canonical (fit_count s) = fit_count s
expr_canonical (fit_each f) = fit_each (expr_canonical f)
expr_canonical (fit_both f g) = fit_both (expr_canonical f) (expr_canonical g)
expr_canonical (fit_choose f g h) = fit_choose (expr_canonical f) (expr_canonical g) (expr_canonical h)
expr_canonical (fit_fold s f) = fit_fold s (expr_canonical f)
expr_canonical (fit_scan s f) = fit_scan s (expr_canonical f)
expr_canonical (fit_shape s f) = fit_shape s (expr_canonical f)
expr_canonical (fit_turn s f) = fit_turn s (expr_canonical f)
expr_canonical (fit_part s f) = fit_part s (expr_canonical f)
expr_canonical (fit_join s f g) = fit_join s (expr_canonical f) (expr_canonical g)
expr_canonical (fit_rows f g) = fit_rows (expr_canonical f) (expr_canonical g)

pub lines_canonical : {p : Program (List ℕ)} {n m : ℕ} → FitLines Sixteen p n m → FitLines Canonical (read_program p) n m
unfolding read_program
lines_canonical fit_end = fit_end
lines_canonical (fit_be c f g) = fit_be c (expr_canonical f) (lines_canonical g)
lines_canonical (fit_put c s f g) = fit_put c s (expr_canonical f) (lines_canonical g)
lines_canonical (fit_show f g) = fit_show (expr_canonical f) (lines_canonical g)
lines_canonical (fit_again s f g) = fit_again s (lines_canonical f) (lines_canonical g)
