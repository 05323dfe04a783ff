-- Lines are passed whole: what closes them is the `End` behind them.
use Rattle.std.proofs.Common.{◌≡◌, ℕ, suc, ◌+◌, ◌≤◌, List, [], ◌∷◌, length, Some, None, sym, refl, ap, ◌∙◌, add-one, arith}
use Rattle.semantics.specs.Parts.{Part}
use Rattle.semantics.specs.Values.{Expr, name, input, constant, count, each, both, choose, fold, scan, shape_to, turn, part, join, rows}
use Rattle.semantics.specs.Programs.{Program, end, be, put, show, again}
use Rattle.program.specs.declared.step.Step.{Step}
use Rattle.program.specs.declared.step.Step.TheVariants.{End, Let, Put, Show, Again, Name, Input, Constant, Count, Each, Both, Choose, Fold, Scan, Shape, Turn, Part as Cut, Join, Rows, Item, Slice}
use Rattle.program.specs.Spelling.{items, slices, spell, spell_program}
use Rattle.program.specs.Words.{steps_in, At}
use Rattle.program.specs.Standing.{steps_from, Closes, Runs, LinesView, is_again}
use Rattle.program.specs.Closing.{neither, bracket, past, closing, EndsAt}
use Rattle.program.proofs.Nodes.{from_at, from_past, lines_view}

closing_items : (ks : List ℕ) (r : List Step) (d : ℕ) → closing d (items ks r) ≡ closing d r
unfolding closing items
closing_items [] r d = refl
closing_items (k ∷ ks) r d = closing_items ks r d

closing_slices : (ps : List Part) (r : List Step) (d : ℕ) → closing d (slices ps r) ≡ closing d r
unfolding closing slices
closing_slices [] r d = refl
closing_slices (p ∷ ps) r d = closing_slices ps r d

closing_spell : (e : Expr ℕ) (r : List Step) (d : ℕ) → closing d (spell e r) ≡ closing d r
unfolding closing spell
closing_spell (name k) r d = refl
closing_spell (input k) r d = refl
closing_spell (constant x) r d = refl
closing_spell (count m) r d = refl
closing_spell (each k e) r d = closing_spell e r d
closing_spell (both k e f) r d = closing_spell e (spell f r) d ∙ closing_spell f r d
closing_spell (choose e f g) r d = closing_spell e (spell f (spell g r)) d ∙ (closing_spell f (spell g r) d ∙ closing_spell g r d)
closing_spell (fold k x e) r d = closing_spell e r d
closing_spell (scan k x e) r d = closing_spell e r d
closing_spell (shape_to t e) r d = closing_items t (spell e r) d ∙ closing_spell e r d
closing_spell (turn os e) r d = closing_items os (spell e r) d ∙ closing_spell e r d
closing_spell (part ps e) r d = closing_slices ps (spell e r) d ∙ closing_spell e r d
closing_spell (join x e f) r d = closing_spell e (spell f r) d ∙ closing_spell f r d
closing_spell (rows e f) r d = closing_spell e (spell f r) d ∙ closing_spell f r d

closing_lines : (p : Program ℕ) (r : List Step) (d : ℕ) → closing d (spell_program p r) ≡ closing d r
unfolding closing spell_program
closing_lines end r d = refl
closing_lines (be k e p) r d = closing_spell e (spell_program p r) d ∙ closing_lines p r d
closing_lines (put k ps e p) r d = closing_slices ps (spell e (spell_program p r)) d ∙ (closing_spell e (spell_program p r) d ∙ closing_lines p r d)
closing_lines (show e p) r d = closing_spell e (spell_program p r) d ∙ closing_lines p r d
closing_lines (again n b p) r d = closing_lines b (End ∷ spell_program p r) (suc d) ∙ closing_lines p r d

pub closing_body : (b : Program ℕ) (r : List Step) → closing 0 (spell_program b (End ∷ r)) ≡ Some r
unfolding closing
closing_body b r = closing_lines b (End ∷ r) 0

-- where the lines of an `again` stand, their end is found behind them
pub closes_at : (ws : List ℕ) (i j : ℕ) → EndsAt ws i j → Closes ws i j
closes_at ws i j h =
    record { on = λ b r e. some_same (sym h.is ∙ (ap (closing 0) e ∙ closing_body b r)) }
  where
    some_same : {x y : List Step} → Some x ≡ Some y → x ≡ y
    some_same e = cc

pub closes_somewhere : (ws : List ℕ) (i : ℕ) (b : Program ℕ) (r : List Step) → steps_from ws i ≡ spell_program b (End ∷ r) → closing 0 (steps_from ws i) ≡ None → ⊥
closes_somewhere ws i b r e h =
    let whole = closing_body b r in
    let same = ap (closing 0) e in
    let apart : ◌≡◌ {A = ℕ} 0 1 = cc in omega arith

-- and an `again` is closed
pub again_closed : (ws : List ℕ) (i : ℕ) (x : Step) → At ws i x → {n : ℕ} → x ≡ Again n → Runs ws i → closing 0 (steps_from ws (i + 1)) ≡ None → ⊥
again_closed ws i x at {n} is st = go (lines_view ws i x at (Again n) is st.program st.rest st.close st.enc)
  where
    go : {p : Program ℕ} → LinesView st.rest (steps_from ws (i + 1)) p (Again n) → closing 0 (steps_from ws (i + 1)) ≡ None → ⊥
    go (is_again q) = closes_somewhere ws (i + 1) _ _ q

-- one step of the walk
module _ (ws : List ℕ) (i : ℕ) (x : Step) (at : At ws i x) (d : ℕ) where
  step_past : {s : Step} → x ≡ s → closing d (steps_from ws i) ≡ closing d (s ∷ steps_from ws (i + 1))
  step_past e = ap (closing d) (from_at ws i x at ∙ ap (λ y. y ∷ steps_from ws (i + 1)) e)

  pub past_again : {n : ℕ} → x ≡ Again n → closing d (steps_from ws i) ≡ closing (d + 1) (steps_from ws (i + 1))
  unfolding closing
  past_again e = step_past e ∙ ap (λ n. closing n (steps_from ws (i + 1))) (sym (add-one d))

  pub past_last : x ≡ End → d ≡ 0 → closing d (steps_from ws i) ≡ Some (steps_from ws (i + 1))
  unfolding closing
  past_last e z = step_past e ∙ ap (λ n. closing n (End ∷ steps_from ws (i + 1))) z

  pub past_end : (n : ℕ) → d ≡ suc n → x ≡ End → closing d (steps_from ws i) ≡ closing n (steps_from ws (i + 1))
  unfolding closing
  past_end n z e = step_past e ∙ ap (λ m. closing m (End ∷ steps_from ws (i + 1))) z

  pub past_other : bracket x ≡ neither → closing d (steps_from ws i) ≡ closing d (steps_from ws (i + 1))
  unfolding closing
  past_other e = step_past refl ∙ ap (λ b. past b d (steps_from ws (i + 1)) (λ n. closing n (steps_from ws (i + 1)))) e

pub neither_other : (x : Step) → (x ≡ End → ⊥) → ((n : ℕ) → x ≡ Again n → ⊥) → bracket x ≡ neither
unfolding bracket
neither_other End no_end no-again = absurd (no_end refl)
neither_other (Let k) no_end no-again = refl
neither_other (Put k) no_end no-again = refl
neither_other Show no_end no-again = refl
neither_other (Again n) no_end no-again = absurd (no-again n refl)
neither_other (Name k) no_end no-again = refl
neither_other (Input k) no_end no-again = refl
neither_other (Constant x) no_end no-again = refl
neither_other (Count m) no_end no-again = refl
neither_other (Each k) no_end no-again = refl
neither_other (Both k) no_end no-again = refl
neither_other Choose no_end no-again = refl
neither_other (Fold k x) no_end no-again = refl
neither_other (Scan k x) no_end no-again = refl
neither_other Shape no_end no-again = refl
neither_other Turn no_end no-again = refl
neither_other Cut no_end no-again = refl
neither_other (Join x) no_end no-again = refl
neither_other Rows no_end no-again = refl
neither_other (Item k) no_end no-again = refl
neither_other (Slice s) no_end no-again = refl

-- past the last step nothing closes
pub past_all : (ws : List ℕ) (i d : ℕ) → length (steps_in ws) ≤ i → closing d (steps_from ws i) ≡ None
unfolding closing
past_all ws i d h = ap (closing d) (from_past ws i h)
