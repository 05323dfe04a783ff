-- The automaton along lines: afterwards their steps are there, and it stands before a line again.
use Rattle.std.proofs.Common.{◌≡◌, ℕ, ◌≤◌, List, [], ◌∷◌, length, get_or, take, codes, refl, ◌∙◌, arith}
use Rattle.semantics.specs.Programs.{Program}
use Rattle.program.specs.declared.step.Step.{Step}
use Rattle.grammar.specs.Letters.{Letter, inside, begins, opens, closes, plain, plains, flagged}
use Rattle.grammar.specs.Words.{Word, in_word, is_letter, is_digit}
use Rattle.grammar.specs.Constants.{read_expr, read_program}
use Rattle.grammar.specs.Sayable.{FitLines, fit_end, fit_be, fit_put, fit_show, fit_again, Sixteen}
use Rattle.grammar.specs.Written.{write_expr, write_lines, write_number, write_parts}
use Rattle.grammar.specs.Moves.{belongs, target_rest, target_step}
use Rattle.grammar.specs.Automaton.{at}
use Rattle.grammar.specs.declared.symbol.Target.{Target}
use Rattle.grammar.specs.declared.symbol.Bracket.{Bracket}
use Rattle.grammar.specs.declared.symbol.Number.{Number}
use Rattle.grammar.specs.declared.symbol.Symbol.{Symbol}
use Rattle.grammar.proofs.Along.{along}
use Rattle.grammar.proofs.ListAlong.{number_all, parts_along}
use Rattle.grammar.proofs.ExprAlong.{Spellings, named, Stop, target_along, fits_more, expr_along, ReadExpr}
use Rattle.grammar.proofs.Emits.{emit, emit_parts, emit_program}
use Rattle.grammar.proofs.Pieces.{newline_along}

-- before a line: outside of every again, or inside of one
pub data Here : Symbol → Type 0 where
  outside : Here Symbol.Lines
  within : Here Symbol.Body

module _ (ns : List Word) (o : List Step) (s : List Symbol) (r : List Letter) where
  let_head : {h : Symbol} → Here h → along (at ns o (h ∷ s) [] 0) (flagged begins (codes "let ") r) ≡ along (at ns o (Symbol.Target Target.Let ∷ Symbol.Byte 10 ∷ h ∷ s) [] 0) r
  unfolding along flagged
  let_head outside = refl
  let_head within = refl

  put_head : {h : Symbol} → Here h → along (at ns o (h ∷ s) [] 0) (flagged begins (codes "put ") r) ≡ along (at ns o (Symbol.Target Target.Put ∷ Symbol.Byte 10 ∷ h ∷ s) [] 0) r
  unfolding along flagged
  put_head outside = refl
  put_head within = refl

  show_head : {h : Symbol} → Here h → along (at ns o (h ∷ s) [] 0) (flagged begins (codes "show ") r) ≡ along (at ns (Step.Show ∷ o) (Symbol.Expr ∷ Symbol.Byte 10 ∷ h ∷ s) [] 0) r
  unfolding along flagged
  show_head outside = refl
  show_head within = refl

  again_head : {h : Symbol} → Here h → along (at ns o (h ∷ s) [] 0) (flagged opens (codes "again ") r) ≡ along (at ns o (Symbol.Number Number.Again ∷ Symbol.Byte 10 ∷ h ∷ s) [] 0) r
  unfolding along flagged
  again_head outside = refl
  again_head within = refl

  again_end : (k : ℕ) → along (at ns o (Symbol.Digits Number.Again ∷ s) [] k) (plain 10 ∷ r) ≡ along (at ns (Step.Again k ∷ o) (Symbol.Body ∷ s) [] 0) r
  unfolding along
  again_end k = refl

  end_along : along (at ns o (Symbol.Body ∷ s) [] 0) (flagged closes (codes "end") r) ≡ along (at ns (Step.End ∷ o) s [] 0) r
  unfolding along flagged
  end_along = refl

  equals_along : along (at ns o (Symbol.Byte 32 ∷ Symbol.Byte 61 ∷ Symbol.Byte 32 ∷ s) [] 0) (plains (codes " = ") r) ≡ along (at ns o s [] 0) r
  unfolding along plains
  equals_along = refl

  bracket_along : along (at ns o (Symbol.Byte 32 ∷ Symbol.Byte 91 ∷ s) [] 0) (plains (codes " [") r) ≡ along (at ns o s [] 0) r
  unfolding along plains
  bracket_along = refl

line_end : Stop (Symbol.Byte 10) 10
unfolding in_word belongs is_letter is_digit
line_end = record { ends_word = refl; fresh = refl }

pub lines_more : {Num : Type 0} {Ok : Num → Type 0} {p : Program Num} {n m : ℕ} → FitLines Ok p n m → n ≤ m
lines_more fit_end = omega arith
lines_more (fit_be c e p) = omega (arith, Rattle.grammar.proofs.ExprAlong.comes_more c, fits_more e, lines_more p)
lines_more (fit_put c h e p) = omega (arith, Rattle.grammar.proofs.ExprAlong.comes_more c, fits_more e, lines_more p)
lines_more (fit_show e p) = omega (arith, fits_more e, lines_more p)
lines_more (fit_again h b p) = omega (arith, lines_more b, lines_more p)

module _ (ms : List Word) (sp : Spellings ms) where
  -- an expression, and the newline behind it
  line_along : {e : _} {n m : ℕ} → ReadExpr ms sp e n m → (o : List Step) (s : List Symbol) (r : List Letter) → along (at (take n ms) o (Symbol.Expr ∷ Symbol.Byte 10 ∷ s) [] 0) (write_expr ms e (plain 10 ∷ r)) ≡ along (at (take m ms) (emit (read_expr e) o) s [] 0) r
  line_along {e} {m = m} ih o s r = ih.go o (Symbol.Byte 10) s inside 10 r line_end ∙ newline_along (take m ms) (emit (read_expr e) o) s r

  pub lines_along : {p : Program (List ℕ)} {n m : ℕ} → FitLines Sixteen p n m → m ≤ length ms → {h : Symbol} → Here h → (o : List Step) (s : List Symbol) (r : List Letter) → along (at (take n ms) o (h ∷ s) [] 0) (write_lines ms p r) ≡ along (at (take m ms) (emit_program (read_program p) o) (h ∷ s) [] 0) r
  unfolding write_lines read_program emit_program target_rest target_step
  lines_along fit_end l i o s r = refl
  lines_along {n = n} (fit_be {k = k} {e = e} {p = p} {m = a} {o = c} x y z) l {h} i o s r =
      let ay = fits_more y in
      let az = lines_more z in
      let al : a ≤ length ms = omega arith in
      let cl : c ≤ length ms = omega arith in
      let rest = write_expr ms e (plain 10 ∷ write_lines ms p r) in
      let_head (take n ms) o s (plains (get_or ms k []) (plains (codes " = ") rest)) i
      ∙ target_along (named sp x al) o Target.Let (Symbol.Byte 10 ∷ h ∷ s) (plain 61 ∷ plain 32 ∷ rest) refl
      ∙ equals_along (take a ms) (Step.Let k ∷ o) (Symbol.Expr ∷ Symbol.Byte 10 ∷ h ∷ s) rest
      ∙ line_along (expr_along ms sp y cl) (Step.Let k ∷ o) (h ∷ s) (write_lines ms p r)
      ∙ lines_along z l i (emit (read_expr e) (Step.Let k ∷ o)) s r
  lines_along {n = n} (fit_put {k = k} {ps = ps} {e = e} {p = p} {m = a} {o = c} x w y z) l {h} i o s r =
      let ay = fits_more y in
      let az = lines_more z in
      let al : a ≤ length ms = omega arith in
      let cl : c ≤ length ms = omega arith in
      let rest = write_expr ms e (plain 10 ∷ write_lines ms p r) in
      put_head (take n ms) o s (plains (get_or ms k []) (plains (codes " [") (write_parts ps (plains (codes "] = ") rest)))) i
      ∙ target_along (named sp x al) o Target.Put (Symbol.Byte 10 ∷ h ∷ s) (plain 91 ∷ write_parts ps (plains (codes "] = ") rest)) refl
      ∙ bracket_along (take a ms) (Step.Put k ∷ o) (Symbol.First Bracket.Parts ∷ Symbol.Byte 32 ∷ Symbol.Byte 61 ∷ Symbol.Byte 32 ∷ Symbol.Expr ∷ Symbol.Byte 10 ∷ h ∷ s) (write_parts ps (plains (codes "] = ") rest))
      ∙ parts_along (take a ms) (Step.Put k ∷ o) (Symbol.Byte 32 ∷ Symbol.Byte 61 ∷ Symbol.Byte 32 ∷ Symbol.Expr ∷ Symbol.Byte 10 ∷ h ∷ s) (plains (codes " = ") rest) w
      ∙ equals_along (take a ms) (emit_parts ps (Step.Put k ∷ o)) (Symbol.Expr ∷ Symbol.Byte 10 ∷ h ∷ s) rest
      ∙ line_along (expr_along ms sp y cl) (emit_parts ps (Step.Put k ∷ o)) (h ∷ s) (write_lines ms p r)
      ∙ lines_along z l i (emit (read_expr e) (emit_parts ps (Step.Put k ∷ o))) s r
  lines_along {n = n} (fit_show {e = e} {p = p} {m = c} y z) l {h} i o s r =
      let az = lines_more z in
      let cl : c ≤ length ms = omega arith in
      show_head (take n ms) o s (write_expr ms e (plain 10 ∷ write_lines ms p r)) i
      ∙ line_along (expr_along ms sp y cl) (Step.Show ∷ o) (h ∷ s) (write_lines ms p r)
      ∙ lines_along z l i (emit (read_expr e) (Step.Show ∷ o)) s r
  lines_along {n = n} (fit_again {k = k} {b = b} {p = p} {m = c} w y z) l {h} i o s r =
      let az = lines_more z in
      let cl : c ≤ length ms = omega arith in
      let rest = flagged closes (codes "end") (plain 10 ∷ write_lines ms p r) in
      again_head (take n ms) o s (write_number k (plain 10 ∷ write_lines ms b rest)) i
      ∙ number_all (take n ms) o (Symbol.Byte 10 ∷ h ∷ s) Number.Again k (plain 10 ∷ write_lines ms b rest) w
      ∙ again_end (take n ms) o (Symbol.Byte 10 ∷ h ∷ s) (write_lines ms b rest) k
      ∙ lines_along y cl within (Step.Again k ∷ o) (Symbol.Byte 10 ∷ h ∷ s) rest
      ∙ end_along (take c ms) (emit_program (read_program b) (Step.Again k ∷ o)) (Symbol.Byte 10 ∷ h ∷ s) (plain 10 ∷ write_lines ms p r)
      ∙ newline_along (take c ms) (Step.End ∷ emit_program (read_program b) (Step.Again k ∷ o)) (h ∷ s) (write_lines ms p r)
      ∙ lines_along z l i (Step.End ∷ emit_program (read_program b) (Step.Again k ∷ o)) s r
