-- What stands at a node, by the step that is read there, and at the nodes behind it.
use Rattle.std.proofs.Common.{◌≡◌, ℕ, ◌+◌, ◌-◌, ◌<◌, ◌≤◌, Bool, List, [], ◌∷◌, length, drop, sym, refl, ap, ◌∙◌, arith, length-drop}
use Rattle.std.proofs.lemmas.List.{drop_more, drop_all, drop-drop}
use Rattle.semantics.specs.declared.operation.Unary.{Unary}
use Rattle.semantics.specs.declared.operation.Binary.{Binary}
use Rattle.semantics.specs.Parts.{Part}
use Rattle.semantics.specs.Values.{Expr}
use Rattle.semantics.specs.Programs.{Program, end}
use Rattle.semantics.specs.Slices.{slice_of}
use Rattle.semantics.specs.declared.slice.Slice.{Slice as Sliced}
use Rattle.program.specs.declared.step.Step.{Step}
use Rattle.program.specs.declared.step.Step.TheVariants.{End, Let, Put, Show, Again, Each, Both, Choose, Fold, Scan, Shape, Turn, Part as Cut, Join, Rows, Item, Slice}
use Rattle.program.specs.Spelling.{items, slices, spell, spell_program}
use Rattle.program.specs.Marks.{marks, long}
use Rattle.program.specs.Words.{steps_in, At}
use Rattle.program.specs.Standing.{steps_from, Stands, ItemsStand, SlicesStand, Closed, nothing, closed, Runs, Skips, SkipsSlices, Closes, FirstItem, FirstSlice, View, is_each, is_both, is_choose, is_fold, is_scan, is_shape, is_turn, is_part, is_join, is_rows, Opens, OpensLine, ItemsView, item, no_item, SlicesView, LinesView, is_let, is_put, is_show, is_again}
use Rattle.program.proofs.Views.{view_spell, view_items, view_slices, view_lines, view_no_lines, opens, opens_line, cons_first, cons_rest, same_part}
use Rattle.program.proofs.Lengths.{length_items, length_slices, length_spell, length_program, marks_some, drop_items, drop_slices, drop_spell, drop_program}

-- the steps from a node on: their number, none past the last, and the first with the others behind it
pub length_from : (ws : List ℕ) (i : ℕ) → length (steps_from ws i) ≡ length (steps_in ws) - i
unfolding steps_from
length_from ws i = length-drop i (steps_in ws)

pub from_past : (ws : List ℕ) (i : ℕ) → length (steps_in ws) ≤ i → steps_from ws i ≡ []
unfolding steps_from
from_past ws i h = drop_all i (steps_in ws) h

pub from_at : (ws : List ℕ) (i : ℕ) (s : Step) → At ws i s → steps_from ws i ≡ s ∷ steps_from ws (i + 1)
unfolding steps_from
from_at ws i s h = drop_more (steps_in ws) i End h.there ∙ ap (λ x. x ∷ drop (i + 1) (steps_in ws)) (sym h.is)

pub from_more : (ws : List ℕ) (i n : ℕ) → drop n (steps_from ws i) ≡ steps_from ws (i + n)
unfolding steps_from
from_more ws i n = drop-drop n i (steps_in ws)

-- from the first node on all steps: a program that the words are stands there
pub from_start : (ws : List ℕ) → steps_from ws 0 ≡ steps_in ws
unfolding steps_from
from_start ws = refl

pub runs_start : (ws : List ℕ) (p : Program ℕ) → steps_in ws ≡ spell_program p [] → Runs ws 0
runs_start ws p h = record { program = p; rest = []; close = nothing; enc = from_start ws ∙ h }

-- an expression, lines: where they stand there is a step, and what is behind them is further on
pub expr_there : (ws : List ℕ) (i : ℕ) (e : Expr ℕ) (r : List Step) → steps_from ws i ≡ spell e r → i < length (steps_in ws)
expr_there ws i e r h = omega (arith, length_from ws i, ap length h, length_spell e r, marks_some e)

pub expr_further : (ws : List ℕ) (i j : ℕ) (e : Expr ℕ) (r : List Step) → steps_from ws i ≡ spell e r → steps_from ws j ≡ r → i < j
expr_further ws i j e r h k = omega (arith, length_from ws i, length_from ws j, ap length h, ap length k, length_spell e r, marks_some e)

pub lines_further : (ws : List ℕ) (i j : ℕ) (p : Program ℕ) (r : List Step) → j < length (steps_in ws) → steps_from ws i ≡ spell_program p r → steps_from ws j ≡ r → i ≤ j
lines_further ws i j p r l h k = omega (arith, length_from ws i, length_from ws j, ap length h, ap length k, length_program p r)

-- the node behind is as many steps further as there are
pub expr_next : (ws : List ℕ) (i : ℕ) (e : Expr ℕ) (r : List Step) → steps_from ws i ≡ spell e r → steps_from ws (i + marks e) ≡ r
expr_next ws i e r h = sym (from_more ws i (marks e)) ∙ (ap (drop (marks e)) h ∙ drop_spell e r)

pub items_next : (ws : List ℕ) (i : ℕ) (ks : List ℕ) (q : List Step) → steps_from ws i ≡ items ks q → steps_from ws (i + length ks) ≡ q
items_next ws i ks q h = sym (from_more ws i (length ks)) ∙ (ap (drop (length ks)) h ∙ drop_items ks q)

pub slices_next : (ws : List ℕ) (i : ℕ) (ps : List Part) (q : List Step) → steps_from ws i ≡ slices ps q → steps_from ws (i + length ps) ≡ q
slices_next ws i ps q h = sym (from_more ws i (length ps)) ∙ (ap (drop (length ps)) h ∙ drop_slices ps q)

pub lines_next : (ws : List ℕ) (i : ℕ) (p : Program ℕ) (r : List Step) → steps_from ws i ≡ spell_program p r → steps_from ws (i + long p) ≡ r
lines_next ws i p r h = sym (from_more ws i (long p)) ∙ (ap (drop (long p)) h ∙ drop_program p r)

pub skips_next : (ws : List ℕ) (i j : ℕ) → ((e : Expr ℕ) (r : List Step) → steps_from ws i ≡ spell e r → j ≡ i + marks e) → Skips ws i j
skips_next ws i j h = record { on = λ e r s. ap (steps_from ws) (h e r s) ∙ expr_next ws i e r s }

-- nothing is read where an expression, items or slices stand: there is a step
pub stands_there : (ws : List ℕ) (i : ℕ) → Stands ws i → i < length (steps_in ws)
stands_there ws i s = expr_there ws i s.expr s.rest s.enc

pub items_there : (ws : List ℕ) (i : ℕ) → ItemsStand ws i → i < length (steps_in ws)
items_there ws i s =
    omega (arith, length_from ws i, ap length s.enc, length_items s.list (spell s.expr s.rest), length_spell s.expr s.rest, marks_some s.expr)

pub slices_there : (ws : List ℕ) (i : ℕ) → SlicesStand ws i → i < length (steps_in ws)
slices_there ws i s =
    omega (arith, length_from ws i, ap length s.enc, length_slices s.parts (spell s.expr s.rest), length_spell s.expr s.rest, marks_some s.expr)

-- no step: the end of the program
pub lines_none : (ws : List ℕ) (i : ℕ) (p : Program ℕ) (r : List Step) → length (steps_in ws) ≤ i → steps_from ws i ≡ spell_program p r → (p ≡ end) × (r ≡ [])
lines_none ws i p r h e = view_no_lines p r (sym e ∙ from_past ws i h)

-- the step x is read at node i
module _ (ws : List ℕ) (i : ℕ) (x : Step) (at : At ws i x) where
  from_read : {s : Step} {l : List Step} → x ≡ s → steps_from ws i ≡ l → l ≡ s ∷ steps_from ws (i + 1)
  from_read e h = sym h ∙ (from_at ws i x at ∙ ap (λ y. y ∷ steps_from ws (i + 1)) e)

  -- what stands there, by that step
  pub expr_view : (s : Step) → x ≡ s → (e : Expr ℕ) (r : List Step) → steps_from ws i ≡ spell e r → View r (steps_from ws (i + 1)) e s
  expr_view s is e r h = view_spell e r s (steps_from ws (i + 1)) (from_read is h)

  pub items_view : (s : Step) → x ≡ s → (ks : List ℕ) (e : Expr ℕ) (r : List Step) → steps_from ws i ≡ items ks (spell e r) → ItemsView (spell e r) (steps_from ws (i + 1)) ks s
  items_view s is ks e r h = view_items ks e r s (steps_from ws (i + 1)) (from_read is h)

  pub slices_view : (s : Step) → x ≡ s → (ps : List Part) (e : Expr ℕ) (r : List Step) → steps_from ws i ≡ slices ps (spell e r) → SlicesView (spell e r) (steps_from ws (i + 1)) ps s
  slices_view s is ps e r h = view_slices ps e r s (steps_from ws (i + 1)) (from_read is h)

  pub lines_view : (s : Step) → x ≡ s → (p : Program ℕ) (r : List Step) → Closed r → steps_from ws i ≡ spell_program p r → LinesView r (steps_from ws (i + 1)) p s
  lines_view s is p r c h = view_lines p r s (steps_from ws (i + 1)) c (from_read is h)

  -- the view of what a record says
  stands_view : (s : Step) → x ≡ s → (st : Stands ws i) → View st.rest (steps_from ws (i + 1)) st.expr s
  stands_view s is st = expr_view s is st.expr st.rest st.enc

  runs_view : (s : Step) → x ≡ s → (st : Runs ws i) → LinesView st.rest (steps_from ws (i + 1)) st.program s
  runs_view s is st = lines_view s is st.program st.rest st.close st.enc

  -- the step there is one that an expression, or a line, begins with
  pub stands_opens : {s : Step} → x ≡ s → Stands ws i → Opens s
  stands_opens {s} is st = opens (stands_view s is st)

  pub runs_opens : {s : Step} → x ≡ s → Runs ws i → OpensLine s
  runs_opens {s} is st = opens_line (runs_view s is st)

  -- the operands of the operation there, each behind those before it
  pub each_operand : {k : Unary} → x ≡ Each k → Stands ws i → Stands ws (i + 1)
  each_operand {k} is st = go (stands_view (Each k) is st)
    where
      go : {e : Expr ℕ} → View st.rest (steps_from ws (i + 1)) e (Each k) → Stands ws (i + 1)
      go (is_each q) = record { expr = _; rest = _; enc = q }

  pub fold_operand : {k : Binary} {a : ℕ} → x ≡ Fold k a → Stands ws i → Stands ws (i + 1)
  fold_operand {k} {a} is st = go (stands_view (Fold k a) is st)
    where
      go : {e : Expr ℕ} → View st.rest (steps_from ws (i + 1)) e (Fold k a) → Stands ws (i + 1)
      go (is_fold q) = record { expr = _; rest = _; enc = q }

  pub scan_operand : {k : Binary} {a : ℕ} → x ≡ Scan k a → Stands ws i → Stands ws (i + 1)
  scan_operand {k} {a} is st = go (stands_view (Scan k a) is st)
    where
      go : {e : Expr ℕ} → View st.rest (steps_from ws (i + 1)) e (Scan k a) → Stands ws (i + 1)
      go (is_scan q) = record { expr = _; rest = _; enc = q }

  pub both_first : {k : Binary} → x ≡ Both k → Stands ws i → Stands ws (i + 1)
  both_first {k} is st = go (stands_view (Both k) is st)
    where
      go : {e : Expr ℕ} → View st.rest (steps_from ws (i + 1)) e (Both k) → Stands ws (i + 1)
      go (is_both q) = record { expr = _; rest = _; enc = q }

  pub both_second : {k : Binary} → x ≡ Both k → Stands ws i → (j : ℕ) → Skips ws (i + 1) j → Stands ws j
  both_second {k} is st j skip = go (stands_view (Both k) is st)
    where
      go : {e : Expr ℕ} → View st.rest (steps_from ws (i + 1)) e (Both k) → Stands ws j
      go (is_both q) = record { expr = _; rest = _; enc = skip.on _ _ q }

  pub join_first : {a : ℕ} → x ≡ Join a → Stands ws i → Stands ws (i + 1)
  join_first {a} is st = go (stands_view (Join a) is st)
    where
      go : {e : Expr ℕ} → View st.rest (steps_from ws (i + 1)) e (Join a) → Stands ws (i + 1)
      go (is_join q) = record { expr = _; rest = _; enc = q }

  pub join_second : {a : ℕ} → x ≡ Join a → Stands ws i → (j : ℕ) → Skips ws (i + 1) j → Stands ws j
  join_second {a} is st j skip = go (stands_view (Join a) is st)
    where
      go : {e : Expr ℕ} → View st.rest (steps_from ws (i + 1)) e (Join a) → Stands ws j
      go (is_join q) = record { expr = _; rest = _; enc = skip.on _ _ q }

  pub rows_first : x ≡ Rows → Stands ws i → Stands ws (i + 1)
  rows_first is st = go (stands_view (Rows) is st)
    where
      go : {e : Expr ℕ} → View st.rest (steps_from ws (i + 1)) e (Rows) → Stands ws (i + 1)
      go (is_rows q) = record { expr = _; rest = _; enc = q }

  pub rows_second : x ≡ Rows → Stands ws i → (j : ℕ) → Skips ws (i + 1) j → Stands ws j
  rows_second is st j skip = go (stands_view (Rows) is st)
    where
      go : {e : Expr ℕ} → View st.rest (steps_from ws (i + 1)) e (Rows) → Stands ws j
      go (is_rows q) = record { expr = _; rest = _; enc = skip.on _ _ q }

  pub choose_first : x ≡ Choose → Stands ws i → Stands ws (i + 1)
  choose_first is st = go (stands_view (Choose) is st)
    where
      go : {e : Expr ℕ} → View st.rest (steps_from ws (i + 1)) e (Choose) → Stands ws (i + 1)
      go (is_choose q) = record { expr = _; rest = _; enc = q }

  pub choose_second : x ≡ Choose → Stands ws i → (j : ℕ) → Skips ws (i + 1) j → Stands ws j
  choose_second is st j skip = go (stands_view (Choose) is st)
    where
      go : {e : Expr ℕ} → View st.rest (steps_from ws (i + 1)) e (Choose) → Stands ws j
      go (is_choose q) = record { expr = _; rest = _; enc = skip.on _ _ q }

  pub choose_third : x ≡ Choose → Stands ws i → (j l : ℕ) → Skips ws (i + 1) j → Skips ws j l → Stands ws l
  choose_third is st j l skip next = go (stands_view (Choose) is st)
    where
      go : {e : Expr ℕ} → View st.rest (steps_from ws (i + 1)) e (Choose) → Stands ws l
      go (is_choose q) = record { expr = _; rest = _; enc = next.on _ _ (skip.on _ _ q) }

  -- the items of its brackets, and the operand behind the last
  pub shape_items : x ≡ Shape → Stands ws i → ItemsStand ws (i + 1)
  shape_items is st = go (stands_view Shape is st)
    where
      go : {e : Expr ℕ} → View st.rest (steps_from ws (i + 1)) e Shape → ItemsStand ws (i + 1)
      go (is_shape q) = record { list = _; expr = _; rest = _; enc = q }

  pub turn_items : x ≡ Turn → Stands ws i → ItemsStand ws (i + 1)
  turn_items is st = go (stands_view Turn is st)
    where
      go : {e : Expr ℕ} → View st.rest (steps_from ws (i + 1)) e Turn → ItemsStand ws (i + 1)
      go (is_turn q) = record { list = _; expr = _; rest = _; enc = q }

  pub part_slices : x ≡ Cut → Stands ws i → SlicesStand ws (i + 1)
  part_slices is st = go (stands_view Cut is st)
    where
      go : {e : Expr ℕ} → View st.rest (steps_from ws (i + 1)) e Cut → SlicesStand ws (i + 1)
      go (is_part q) = record { parts = _; expr = _; rest = _; enc = q }

  pub first_item : {k : ℕ} → x ≡ Item k → (ks : List ℕ) (e : Expr ℕ) (r : List Step) → steps_from ws i ≡ items ks (spell e r) → FirstItem k ks (spell e r) (steps_from ws (i + 1))
  first_item {k} is ks e r h = go (items_view (Item k) is ks e r h)
    where
      go : {q t : List Step} {ks : List ℕ} {k : ℕ} → ItemsView q t ks (Item k) → FirstItem k ks q t
      go (item q) = record { others = _; list = refl; enc = q }
      go (no_item o q) = absurd o

  pub no_items : ((k : ℕ) → x ≡ Item k → ⊥) → (ks : List ℕ) (e : Expr ℕ) (r : List Step) → steps_from ws i ≡ items ks (spell e r) → (ks ≡ []) × (steps_from ws i ≡ spell e r)
  no_items ne ks e r h = go x refl (items_view x refl ks e r h)
    where
      go : {q : List Step} {ks : List ℕ} (s : Step) → x ≡ s → ItemsView q (steps_from ws (i + 1)) ks s → (ks ≡ []) × (steps_from ws i ≡ q)
      go (Item k) is (item q) = absurd (ne k is)
      go s is (no_item o q) = (refl, from_at ws i x at ∙ (ap (λ y. y ∷ steps_from ws (i + 1)) is ∙ sym q))

  pub item_rest : {k : ℕ} → x ≡ Item k → ItemsStand ws i → ItemsStand ws (i + 1)
  item_rest is st =
      let first = first_item is st.list st.expr st.rest st.enc in
      record { list = first.others; expr = st.expr; rest = st.rest; enc = first.enc }

  pub items_operand : ((k : ℕ) → x ≡ Item k → ⊥) → ItemsStand ws i → Stands ws i
  items_operand ne st =
      record { expr = st.expr; rest = st.rest; enc = (no_items ne st.list st.expr st.rest st.enc).1 }

  pub first_slice : {p : Part} → x ≡ Slice (slice_of p) → (ps : List Part) (e : Expr ℕ) (r : List Step) → steps_from ws i ≡ slices ps (spell e r) → FirstSlice p ps (spell e r) (steps_from ws (i + 1))
  unfolding slices
  first_slice {p} is ps e r h = go ps (from_read is h)
    where
      go : (ps : List Part) → slices ps (spell e r) ≡ Slice (slice_of p) ∷ steps_from ws (i + 1) → FirstSlice p ps (spell e r) (steps_from ws (i + 1))
      go [] h = absurd (opens (view_spell e r _ _ h))
      go (a ∷ others) h = record { others = others; list = ap (λ b. b ∷ others) (same_part a p (cons_first h)); enc = sym (cons_rest h) }

  pub no_slices : ((s : Sliced) → x ≡ Slice s → ⊥) → (ps : List Part) (e : Expr ℕ) (r : List Step) → steps_from ws i ≡ slices ps (spell e r) → (ps ≡ []) × (steps_from ws i ≡ spell e r)
  unfolding slices
  no_slices ne ps e r h = go ps h
    where
      go : (ps : List Part) → steps_from ws i ≡ slices ps (spell e r) → (ps ≡ []) × (steps_from ws i ≡ spell e r)
      go [] h = (refl, h)
      go (a ∷ others) h = absurd (ne (slice_of a) (cons_first (sym (from_at ws i x at) ∙ h)))

  pub slice_rest : {p : Part} → x ≡ Slice (slice_of p) → SlicesStand ws i → SlicesStand ws (i + 1)
  slice_rest {p} is st =
      let first = first_slice {p = p} is st.parts st.expr st.rest st.enc in
      record { parts = first.others; expr = st.expr; rest = st.rest; enc = first.enc }

  pub slices_operand : ((s : Sliced) → x ≡ Slice s → ⊥) → SlicesStand ws i → Stands ws i
  slices_operand ne st =
      record { expr = st.expr; rest = st.rest; enc = (no_slices ne st.parts st.expr st.rest st.enc).1 }

  -- lines: the expression of the first, what comes before it, and the lines behind
  pub let_operand : {k : ℕ} → x ≡ Let k → Runs ws i → Stands ws (i + 1)
  let_operand {k} is st = go (runs_view (Let k) is st)
    where
      go : {p : Program ℕ} → LinesView st.rest (steps_from ws (i + 1)) p (Let k) → Stands ws (i + 1)
      go (is_let q) = record { expr = _; rest = _; enc = q }

  pub let_lines : {k : ℕ} → x ≡ Let k → Runs ws i → (j : ℕ) → Skips ws (i + 1) j → Runs ws j
  let_lines {k} is st j skip = go (runs_view (Let k) is st)
    where
      go : {p : Program ℕ} → LinesView st.rest (steps_from ws (i + 1)) p (Let k) → Runs ws j
      go (is_let q) = record { program = _; rest = st.rest; close = st.close; enc = skip.on _ _ q }

  pub show_operand : x ≡ Show → Runs ws i → Stands ws (i + 1)
  show_operand is st = go (runs_view Show is st)
    where
      go : {p : Program ℕ} → LinesView st.rest (steps_from ws (i + 1)) p Show → Stands ws (i + 1)
      go (is_show q) = record { expr = _; rest = _; enc = q }

  pub show_lines : x ≡ Show → Runs ws i → (j : ℕ) → Skips ws (i + 1) j → Runs ws j
  show_lines is st j skip = go (runs_view Show is st)
    where
      go : {p : Program ℕ} → LinesView st.rest (steps_from ws (i + 1)) p Show → Runs ws j
      go (is_show q) = record { program = _; rest = st.rest; close = st.close; enc = skip.on _ _ q }

  pub put_slices : {k : ℕ} → x ≡ Put k → Runs ws i → SlicesStand ws (i + 1)
  put_slices {k} is st = go (runs_view (Put k) is st)
    where
      go : {p : Program ℕ} → LinesView st.rest (steps_from ws (i + 1)) p (Put k) → SlicesStand ws (i + 1)
      go (is_put q) = record { parts = _; expr = _; rest = _; enc = q }

  pub put_operand : {k : ℕ} → x ≡ Put k → Runs ws i → (j : ℕ) → SkipsSlices ws (i + 1) j → Stands ws j
  put_operand {k} is st j skip = go (runs_view (Put k) is st)
    where
      go : {p : Program ℕ} → LinesView st.rest (steps_from ws (i + 1)) p (Put k) → Stands ws j
      go (is_put q) = record { expr = _; rest = _; enc = skip.on _ _ _ q }

  pub put_lines : {k : ℕ} → x ≡ Put k → Runs ws i → (j l : ℕ) → SkipsSlices ws (i + 1) j → Skips ws j l → Runs ws l
  put_lines {k} is st j l skip next = go (runs_view (Put k) is st)
    where
      go : {p : Program ℕ} → LinesView st.rest (steps_from ws (i + 1)) p (Put k) → Runs ws l
      go (is_put q) = record { program = _; rest = st.rest; close = st.close; enc = next.on _ _ (skip.on _ _ _ q) }

  pub again_body : {n : ℕ} → x ≡ Again n → Runs ws i → Runs ws (i + 1)
  again_body {n} is st = go (runs_view (Again n) is st)
    where
      go : {p : Program ℕ} → LinesView st.rest (steps_from ws (i + 1)) p (Again n) → Runs ws (i + 1)
      go (is_again q) = record { program = _; rest = _; close = closed; enc = q }

  pub again_lines : {n : ℕ} → x ≡ Again n → Runs ws i → (j : ℕ) → Closes ws (i + 1) j → Runs ws j
  again_lines {n} is st j skip = go (runs_view (Again n) is st)
    where
      go : {p : Program ℕ} → LinesView st.rest (steps_from ws (i + 1)) p (Again n) → Runs ws j
      go (is_again q) = record { program = _; rest = st.rest; close = st.close; enc = skip.on _ _ q }
