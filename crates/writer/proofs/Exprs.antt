-- Expressions one after another: the head of the first, its operands, what comes behind it, and the others.
use Rattle.std.proofs.Common.{◌≡◌, ℕ, suc, ◌+◌, ◌-◌, ◌<◌, ◌≤◌, false, eqb, List, [], ◌∷◌, ◌++◌, length, codes, sym, refl, ap, ◌∙◌, arith}
use Rattle.std.proofs.lemmas.Bool.{ne_eqb}
use Rattle.semantics.specs.Shapes.{pick}
use Rattle.semantics.specs.Values.{Expr}
use Rattle.program.specs.declared.step.Step.{Step}
use Rattle.program.specs.Words.{steps_in, At}
use Rattle.program.specs.Standing.{steps_from}
use Rattle.program.proofs.Nodes.{expr_view, expr_there}
use Rattle.grammar.specs.Letters.{Letter, bytes}
use Rattle.writer.specs.Overlay.{Laid}
use Rattle.writer.specs.StepTexts.{wants}
use Rattle.writer.specs.Writes.{Heads, spell_all, StandAll, gap_text, gap_onto, exprs_onto, operands, Wrote, Writes}
use Rattle.writer.proofs.Overlays.{left_start, left_more, left_laid, left_as}
use Rattle.writer.proofs.HeadViews.{HeadView, head_view}

-- none
pub writes_none : (close : ℕ) (ws : List ℕ) (node : ℕ) (room : List ℕ) (at many : ℕ) → many ≡ 0 → node ≤ length (steps_in ws) → Writes many close ws node room at room node at
unfolding spell_all exprs_onto
writes_none close ws node room at many none inside = record {
  passed = record { further = omega arith; within = inside; short = omega arith };
  all = go;
}
  where
    go : (es : List (Expr ℕ)) (rest : List Step) → length es ≡ many → steps_from ws node ≡ spell_all es rest → Wrote es rest close ws room at room node at
    go [] rest l h = record { on = h; text = λ r. left_start room at (bytes r) }
    go (e ∷ es) rest l h = absurd (omega arith)

gap_bytes : (es : List (Expr ℕ)) (close many : ℕ) (r : List Letter) → suc (length es) ≡ many → bytes (gap_onto es close r) ≡ gap_text many close ++ bytes r
unfolding bytes gap_onto
gap_bytes [] close many r h = ap (λ n. gap_text n close ++ bytes r) h
gap_bytes (e ∷ es) close many r h =
    let several : eqb many 1 ≡ false = ne_eqb many 1 (λ one. omega arith) in
    sym (ap (λ b. pick b (close ∷ []) (codes ", ") ++ bytes r) several)

pub stand_as : {ws : List ℕ} {node m : ℕ} (n : ℕ) → m ≡ n → StandAll ws node m → StandAll ws node n
stand_as n e st = record { exprs = st.exprs; rest = st.rest; count = st.count ∙ e; enc = st.enc }

pub writes_as : {close : ℕ} {ws : List ℕ} {node : ℕ} {old : List ℕ} {at : ℕ} {new : List ℕ} {next behind m : ℕ} (n : ℕ) → m ≡ n → Writes m close ws node old at new next behind → Writes n close ws node old at new next behind
writes_as n e w = record { passed = w.passed; all = λ es rest l h. w.all es rest (l ∙ sym e) h }

-- the first of some expressions
pub record FirstExpr (ws : List ℕ) (node : ℕ) (s : Step) (es : List (Expr ℕ)) (rest : List Step) : Type 0 where
  pub first : Expr ℕ
  pub others : List (Expr ℕ)
  pub list : es ≡ first ∷ others
  pub view : HeadView (spell_all others rest) (steps_from ws (node + 1)) first s

pub first_expr : (ws : List ℕ) (node : ℕ) (s : Step) → At ws node s → (es : List (Expr ℕ)) (rest : List Step) → 0 < length es → steps_from ws node ≡ spell_all es rest → FirstExpr ws node s es rest
unfolding spell_all
first_expr ws node s at [] rest l h = absurd (omega arith)
first_expr ws node s at (e ∷ es) rest l h = record {
  first = e;
  others = es;
  list = refl;
  view = head_view (expr_view ws node s at s refl e (spell_all es rest) h);
}

pub all_there : (ws : List ℕ) (node many : ℕ) → StandAll ws node many → 0 < many → node < length (steps_in ws)
unfolding spell_all
all_there ws node many st some = go st.exprs st.count st.enc
  where
    go : (es : List (Expr ℕ)) → length es ≡ many → steps_from ws node ≡ spell_all es st.rest → node < length (steps_in ws)
    go [] l h = absurd (omega arith)
    go (e ∷ es) l h = expr_there ws node e (spell_all es st.rest) h

-- its operands stand behind its head, and the others behind them
module _ (ws : List ℕ) (node many close : ℕ) (s : Step) (at-node : At ws node s) (some : 0 < many) where
  pub operands_stand : {old mid : List ℕ} {at next behind : ℕ} → StandAll ws node many → Heads s ws (node + 1) old at mid next behind → StandAll ws next (wants s)
  operands_stand st head =
      let l : 0 < length st.exprs = omega (arith, st.count) in
      let f = first_expr ws node s at-node st.exprs st.rest l st.enc in
      record { exprs = operands f.first; rest = spell_all f.others st.rest; count = f.view.many; enc = head.on ∙ f.view.on }

  pub others_stand : {old mid new : List ℕ} {at next behind last end : ℕ} → StandAll ws node many → Heads s ws (node + 1) old at mid next behind → Writes (wants s) 41 ws next mid behind new last end → StandAll ws last (many - 1)
  others_stand st head inner =
      let l : 0 < length st.exprs = omega (arith, st.count) in
      let f = first_expr ws node s at-node st.exprs st.rest l st.enc in
      let wrote = inner.all (operands f.first) (spell_all f.others st.rest) f.view.many (head.on ∙ f.view.on) in
      record { exprs = f.others; rest = st.rest; count = omega (arith, st.count, ap length f.list); enc = wrote.on }

  pub writes_more : {old a b d new : List ℕ} {at i1 i2 i3 i4 n1 n2 n3 : ℕ} → Heads s ws (node + 1) old at a n1 i1 → Writes (wants s) 41 ws n1 a i1 b n2 i2 → Laid b i2 (gap_text many close) d i3 → i3 ≤ i2 + 2 → Writes (many - 1) close ws n2 d i3 new n3 i4 → Writes many close ws node old at new n3 i4
  unfolding exprs_onto
  writes_more {old} {a} {b} {d} {new} {at} {i1} {i2} {i3} {i4} {n1} {n2} {n3} head inner gap short rest = record {
    passed = record {
      further = omega (arith, head.further, inner.passed.further, rest.passed.further);
      within = rest.passed.within;
      short = omega (arith, head.short, inner.passed.short, rest.passed.short);
    };
    all = λ es r l h. go es r l h (first_expr ws node s at-node es r (omega arith) h);
  }
    where
      go : (es : List (Expr ℕ)) (r : List Step) → length es ≡ many → steps_from ws node ≡ spell_all es r → FirstExpr ws node s es r → Wrote es r close ws old at new n3 i4
      go es r l h f =
          let e = f.first in
          let others = f.others in
          let one = inner.all (operands e) (spell_all others r) f.view.many (head.on ∙ f.view.on) in
          let few : length others ≡ many - 1 = omega (arith, ap length f.list) in
          let all_but_one : suc (length others) ≡ many = omega (arith, ap length f.list) in
          let two = rest.all others r few one.on in
          record {
            on = two.on;
            text = λ q.
                let after = gap_onto others close (exprs_onto others close q) in
                left_more
                (left_as (bytes (exprs_onto es close q)) (bytes (exprs_onto (operands e) 41 after)) (sym (ap (λ x. bytes (exprs_onto x close q)) f.list ∙ f.view.text after)) refl (left_laid head.laid (bytes (exprs_onto (operands e) 41 after))))
                (left_more (one.text after)
                (left_more (left_as (bytes after) (bytes (exprs_onto others close q)) (sym (gap_bytes others close many (exprs_onto others close q) all_but_one)) refl (left_laid gap (bytes (exprs_onto others close q)))) (two.text q)));
          }
