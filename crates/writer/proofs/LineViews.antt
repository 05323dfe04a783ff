-- The text of lines by their first step, and what is left behind a line.
use Rattle.std.proofs.Common.{◌≡◌, ℕ, ◌+◌, ◌≤◌, List, [], ◌∷◌, ◌++◌, length, get_or, codes, decimal, sym, refl, ap, ◌∙◌, arith}
use Rattle.std.proofs.lemmas.List.{append_assoc}
use Rattle.semantics.specs.Values.{Expr}
use Rattle.semantics.specs.Programs.{Program, end}
use Rattle.program.specs.declared.step.Step.{Step}
use Rattle.program.specs.declared.step.Step.TheVariants.{End}
use Rattle.program.specs.Spelling.{spell_program}
use Rattle.program.specs.Words.{steps_in, At}
use Rattle.program.specs.Standing.{steps_from, Closed, nothing, closed, LinesView, is_end, is_let, is_put, is_show, is_again}
use Rattle.program.proofs.Views.{cons_rest, cons_nil, view_no_lines}
use Rattle.program.proofs.Nodes.{lines_view, from_past, from_start}
use Rattle.grammar.specs.Letters.{Letter, plain, begins, opens, bytes, plains, flagged}
use Rattle.grammar.specs.Written.{write_number, write_parts, write_lines}
use Rattle.writer.specs.Overlay.{Laid}
use Rattle.writer.specs.Spellings.{spellings}
use Rattle.writer.specs.StepTexts.{step_text, wants, list_text, behind_list, with_list, behind_closed, head_text, head_behind}
use Rattle.writer.specs.WrittenAs.{as_written, text_of}
use Rattle.writer.specs.Writes.{Heads, spell_all, StandAll, gap_onto, exprs_onto, Writes, spell_open, open_onto, lines_onto, LinesStand, ToWrite, WritesLine}
use Rattle.writer.proofs.Overlays.{left_start, left_more, left_laid, left_as, left_all}
use Rattle.writer.proofs.HeadViews.{bytes_plains, bytes_flagged, bytes_number, all_parts, behind_parts}

open_closed : (ps : List (Program ℕ)) → Closed (spell_open ps)
unfolding spell_open
open_closed [] = nothing
open_closed (p ∷ ps) = closed

-- lines by their first step: the step with its brackets, its expression, and the lines behind it
pub record LineView (p : Program ℕ) (ps : List (Program ℕ)) (t : List Step) (s : Step) : Type 0 where
  pub exprs : List (Expr ℕ)
  pub lines : Program ℕ
  pub open_lines : List (Program ℕ)
  pub text : bytes (lines_onto p ps) ≡ head_text s t ++ bytes (exprs_onto exprs 10 (lines_onto lines open_lines))
  pub on : head_behind s t ≡ spell_all exprs (spell_program lines (spell_open open_lines))
  pub many : length exprs ≡ wants s

named : (w name after : List ℕ) (r q : List Letter) → bytes r ≡ after ++ bytes q → bytes (flagged begins w (plains name r)) ≡ w ++ name ++ after ++ bytes q
named w name after r q h =
    bytes_flagged begins w (plains name r) ∙ (ap (λ l. w ++ l) (bytes_plains name r ∙ ap (λ l. name ++ l) h) ∙ simp append_assoc)

numbered : (w : List ℕ) (k : ℕ) (r : List Letter) → bytes (flagged opens w (write_number k (plain 10 ∷ r))) ≡ w ++ decimal k ++ 10 ∷ [] ++ bytes r
unfolding bytes
numbered w k r = bytes_flagged opens w _ ∙ (ap (λ l. w ++ l) (bytes_number k (plain 10 ∷ r)) ∙ simp append_assoc)

putting : (name list : List ℕ) (m : List Letter → List Letter) (q : List Letter) → ((r : List Letter) → bytes (m r) ≡ list ++ bytes r) → bytes (flagged begins (codes "put ") (plains name (plains (codes " [") (m (plains (codes "] = ") q))))) ≡ codes "put " ++ name ++ codes " [" ++ list ++ codes "] = " ++ bytes q
putting name list m q h =
    named (codes "put ") name (codes " [") (plains (codes " [") (m (plains (codes "] = ") q))) (m (plains (codes "] = ") q)) (bytes_plains (codes " [") _)
    ∙ (ap (λ l. codes "put " ++ name ++ codes " [" ++ l) (h (plains (codes "] = ") q) ∙ ap (λ l. list ++ l) (bytes_plains (codes "] = ") q)) ∙ simp append_assoc)

closing : (ps : List (Program ℕ)) (t : List Step) → spell_open ps ≡ End ∷ t → LineView end ps t End
unfolding bytes flagged plains spell_program spell_open write_lines as_written open_onto lines_onto head_text head_behind with_list behind_closed step_text spell_all exprs_onto
closing [] t h = absurd (cons_nil (sym h))
closing (p ∷ ps) t h = record { exprs = []; lines = p; open_lines = ps; text = refl; on = sym (cons_rest h); many = refl }

line_by : {t : List Step} {p : Program ℕ} {s : Step} (open-ps : List (Program ℕ)) → LinesView (spell_open open-ps) t p s → LineView p open-ps t s
unfolding bytes flagged plains spell_open write_lines as_written open_onto lines_onto head_text head_behind with_list behind_closed step_text spell_all exprs_onto gap_onto
line_by {t} open-ps (is_end h) = closing open-ps t h
line_by open-ps (is_let {k} {e} {p} h) = record { exprs = e ∷ []; lines = p; open_lines = open-ps; text = named (codes "let ") (get_or spellings k []) (codes " = ") _ _ (bytes_plains (codes " = ") _); on = h; many = refl }
line_by open-ps (is_put {k} {ps} {e} {p} h) = record {
  exprs = e ∷ [];
  lines = p;
  open_lines = open-ps;
  text = putting (get_or spellings k []) _ (write_parts ps) _ (λ r. all_parts e (spell_program p (spell_open open-ps)) ps r ∙ ap (λ l. list_text l ++ bytes r) (sym h));
  on = ap behind_list h ∙ behind_parts e (spell_program p (spell_open open-ps)) ps;
  many = refl;
}
line_by open-ps (is_show {e} {p} h) = record { exprs = e ∷ []; lines = p; open_lines = open-ps; text = refl; on = h; many = refl }
line_by open-ps (is_again {n} {b} {p} h) = record { exprs = []; lines = b; open_lines = p ∷ open-ps; text = numbered (codes "again ") n _; on = h; many = refl }

module _ (ws : List ℕ) (node : ℕ) (s : Step) (at-node : At ws node s) where
  pub line_view : (p : Program ℕ) (ps : List (Program ℕ)) → steps_from ws node ≡ spell_program p (spell_open ps) → LineView p ps (steps_from ws (node + 1)) s
  line_view p ps h = line_by ps (lines_view ws node s at-node s refl p (spell_open ps) (open_closed ps) h)

  pub line_stands : {old mid : List ℕ} {at next behind : ℕ} → LinesStand ws node → Heads s ws (node + 1) old at mid next behind → StandAll ws next (wants s)
  line_stands st head =
      let v = line_view st.lines st.open_lines st.enc in
      record { exprs = v.exprs; rest = _; count = v.many; enc = head.on ∙ v.on }

  pub line_written : {old mid new : List ℕ} {at next behind last end : ℕ} → Heads s ws (node + 1) old at mid next behind → Writes (wants s) 10 ws next mid behind new last end → WritesLine ws node old at new last end
  line_written head inner = record {
    passed = record {
      further = omega (arith, head.further, inner.passed.further);
      within = inner.passed.within;
      short = omega (arith, head.short, inner.passed.short);
    };
    on = omega (arith, head.further, inner.passed.further);
    all = λ p ps h.
        let v = line_view p ps h in
        let wrote = inner.all v.exprs (spell_program v.lines (spell_open v.open_lines)) v.many (head.on ∙ v.on) in
        let behind-it = lines_onto v.lines v.open_lines in
        record {
          lines = v.lines;
          open_lines = v.open_lines;
          enc = wrote.on;
          left = left_more (left_as (bytes (lines_onto p ps)) (bytes (exprs_onto v.exprs 10 behind-it)) (sym v.text) refl (left_laid head.laid (bytes (exprs_onto v.exprs 10 behind-it)))) (wrote.text behind-it);
        };
  }

-- at the first step all is to be written, and behind the last nothing
pub all_to_write : (ws : List ℕ) (p : Program ℕ) (room : List ℕ) → steps_in ws ≡ spell_program p [] → ToWrite (text_of p) ws 0 room 0 room 0
unfolding text_of lines_onto open_onto spell_open
all_to_write ws p room h = record { lines = p; open_lines = []; enc = from_start ws ∙ h; left = left_start room 0 (text_of p) }

pub to_write_more : {text ws old mid new : List ℕ} {node next at i j : ℕ} → ToWrite text ws node old at mid i → WritesLine ws node mid i new next j → ToWrite text ws next old at new j
to_write_more t line =
    let next = line.all t.lines t.open_lines t.enc in
    record { lines = next.lines; open_lines = next.open_lines; enc = next.enc; left = left_more t.left next.left }

nothing_left : (p : Program ℕ) (ps : List (Program ℕ)) → p ≡ end → spell_open ps ≡ [] → bytes (lines_onto p ps) ≡ []
unfolding bytes spell_open write_lines as_written open_onto lines_onto
nothing_left p [] e h = ap (λ q. bytes (lines_onto q [])) e
nothing_left p (q ∷ ps) e h = absurd (cons_nil h)

pub all_written : {text ws old new : List ℕ} {node at i : ℕ} → length (steps_in ws) ≤ node → ToWrite text ws node old at new i → Laid old at text new i
all_written {text} {ws} {old} {new} {node} {at} {i} past t =
    let none = view_no_lines t.lines (spell_open t.open_lines) (sym t.enc ∙ from_past ws node past) in
    left_all (left_as text [] refl (nothing_left t.lines t.open_lines none.0 none.1) t.left)
