-- What is left of a stack at the end of a text, and what is stored on the way.
use Rattle.std.proofs.Common.{◌≡◌, ℕ, ◌+◌, ◌-◌, ◌<◌, ◌≤◌, false, ◌&&◌, List, [], ◌∷◌, length, get_or, drop, sym, refl, ap, ◌∙◌, arith}
use Rattle.std.proofs.lemmas.List.{drop_all, drop_more}
use Rattle.grammar.specs.declared.symbol.Symbol.{Symbol}
use Rattle.grammar.specs.Letters.{Tally}
use Rattle.grammar.specs.Automaton.{is_lines}
use Rattle.reader.specs.declared.turn.Mark.{Mark}
use Rattle.reader.specs.Judging.{is_newline, only_lines, line_ends, place_of}

pub tally_by : {a b c d : ℕ} → a ≡ b → c ≡ d → ◌≡◌ {A = Tally} (record { marks = a; level = c }) (record { marks = b; level = d })
tally_by {a} {b} {c} {d} p q = ap (λ n. record { marks = n; level = c }) p ∙ ap (λ n. record { marks = b; level = n }) q

module _ (stack : List Symbol) (top : ℕ) where
  pub no_lines_past : length stack ≤ top → false ≡ only_lines (drop top stack)
  unfolding only_lines
  no_lines_past past = sym (ap only_lines (drop_all top stack past))

  pub no_lines_more : 1 < length stack - top → false ≡ only_lines (drop top stack)
  unfolding only_lines
  no_lines_more many =
      sym (ap only_lines (drop_more stack top Symbol.Lines (omega arith) ∙ ap (λ ss. get_or stack top Symbol.Lines ∷ ss) (drop_more stack (top + 1) Symbol.Lines (omega arith))))

  pub lines_last : top < length stack → length stack - top ≤ 1 → is_lines (get_or stack top Symbol.Lines) ≡ only_lines (drop top stack)
  unfolding only_lines
  lines_last there few =
      sym (ap only_lines (drop_more stack top Symbol.Lines there ∙ ap (λ ss. get_or stack top Symbol.Lines ∷ ss) (drop_all (top + 1) stack (omega arith))))

  pub no_end_past : length stack ≤ top → false ≡ line_ends (drop top stack)
  unfolding line_ends
  no_end_past past = sym (ap line_ends (drop_all top stack past))

  pub end_is : top < length stack → line_ends (drop top stack) ≡ (is_newline (get_or stack top Symbol.Lines) && only_lines (drop (top + 1) stack))
  unfolding line_ends
  end_is there = ap line_ends (drop_more stack top Symbol.Lines there)

pub place_some : (x : Mark) (i : ℕ) → (x ≡ Mark.Inside → ⊥) → i ∷ [] ≡ place_of x i
place_some Mark.Inside i apart = absurd (apart refl)
place_some Mark.Begins i apart = refl
place_some Mark.Opens i apart = refl
place_some Mark.Closes i apart = refl
