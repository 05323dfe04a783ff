-- One expression awaited is one expression passed.
use Rattle.std.proofs.Common.{◌≡◌, ℕ, zero, suc, ◌+◌, ◌-◌, ◌<◌, ◌≤◌, List, [], ◌∷◌, length, Some, None, sym, refl, ap, ◌∙◌, arith}
use Rattle.semantics.specs.Parts.{Part}
use Rattle.semantics.specs.Values.{Expr, name, input, constant, count, each, both, choose, fold, scan, shape_to, turn, part, join, rows}
use Rattle.program.specs.declared.step.Step.{Step}
use Rattle.program.specs.declared.step.Step.TheVariants.{End, Let, Put, Show, Again, Name, Input, Constant, Count, Each, Both, Choose, Fold, Scan, Shape, Turn, Part as Cut, Join, Rows, Item, Slice}
use Rattle.program.specs.Spelling.{items, slices, spell}
use Rattle.program.specs.Marks.{marks}
use Rattle.program.specs.Words.{steps_in, At}
use Rattle.program.specs.Standing.{steps_from, Skips, Stands}
use Rattle.program.specs.Behind.{awaits, behind, BehindAt}
use Rattle.program.proofs.Lengths.{length_spell}
use Rattle.program.proofs.Nodes.{from_at, from_past, length_from}

-- one step
pub behind_first : (s : Step) (t : List Step) (m n k : ℕ) → m ≡ suc n → k ≡ n + awaits s → behind m (s ∷ t) ≡ behind k t
unfolding behind
behind_first s t m n k h e = ap (λ x. behind x (s ∷ t)) h ∙ ap (λ x. behind x t) (sym e)

behind_items : (ks : List ℕ) (r : List Step) (m n : ℕ) → m ≡ suc n → behind m (items ks r) ≡ behind m r
unfolding items
behind_items [] r m n h = refl
behind_items (k ∷ ks) r m n h = behind_first _ _ m n m h (omega arith) ∙ behind_items ks r m n h

behind_slices : (ps : List Part) (r : List Step) (m n : ℕ) → m ≡ suc n → behind m (slices ps r) ≡ behind m r
unfolding slices
behind_slices [] r m n h = refl
behind_slices (p ∷ ps) r m n h = behind_first _ _ m n m h (omega arith) ∙ behind_slices ps r m n h

pub behind_spell : (e : Expr ℕ) (r : List Step) (m n : ℕ) → m ≡ suc n → behind m (spell e r) ≡ behind n r
unfolding spell
behind_spell (name k) r m n h = behind_first _ _ m n n h (omega arith)
behind_spell (input k) r m n h = behind_first _ _ m n n h (omega arith)
behind_spell (constant x) r m n h = behind_first _ _ m n n h (omega arith)
behind_spell (count x) r m n h = behind_first _ _ m n n h (omega arith)
behind_spell (each k e) r m n h = behind_first _ _ m n m h (omega arith) ∙ behind_spell e r m n h
behind_spell (both k e f) r m n h =
    behind_first _ _ m n (m + 1) h (omega arith) ∙ (behind_spell e (spell f r) (m + 1) m (omega arith) ∙ behind_spell f r m n h)
behind_spell (choose e f g) r m n h =
    behind_first _ _ m n (m + 2) h (omega arith)
    ∙ (behind_spell e (spell f (spell g r)) (m + 2) (m + 1) (omega arith) ∙ (behind_spell f (spell g r) (m + 1) m (omega arith) ∙ behind_spell g r m n h))
behind_spell (fold k x e) r m n h = behind_first _ _ m n m h (omega arith) ∙ behind_spell e r m n h
behind_spell (scan k x e) r m n h = behind_first _ _ m n m h (omega arith) ∙ behind_spell e r m n h
behind_spell (shape_to t e) r m n h = behind_first _ _ m n m h (omega arith) ∙ (behind_items t (spell e r) m n h ∙ behind_spell e r m n h)
behind_spell (turn os e) r m n h = behind_first _ _ m n m h (omega arith) ∙ (behind_items os (spell e r) m n h ∙ behind_spell e r m n h)
behind_spell (part ps e) r m n h = behind_first _ _ m n m h (omega arith) ∙ (behind_slices ps (spell e r) m n h ∙ behind_spell e r m n h)
behind_spell (join x e f) r m n h =
    behind_first _ _ m n (m + 1) h (omega arith) ∙ (behind_spell e (spell f r) (m + 1) m (omega arith) ∙ behind_spell f r m n h)
behind_spell (rows e f) r m n h =
    behind_first _ _ m n (m + 1) h (omega arith) ∙ (behind_spell e (spell f r) (m + 1) m (omega arith) ∙ behind_spell f r m n h)

pub behind_one : (e : Expr ℕ) (r : List Step) → behind 1 (spell e r) ≡ Some r
unfolding behind
behind_one e r = behind_spell e r 1 0 refl

-- where an expression stands, what is behind it is found
pub skips_behind : (ws : List ℕ) (i j : ℕ) → BehindAt ws i j → Skips ws i j
skips_behind ws i j h = record { on = λ e r k. some_same (sym h.is ∙ (ap (behind 1) k ∙ behind_one e r)) }
  where
    some_same : {x y : List Step} → Some x ≡ Some y → x ≡ y
    some_same e = cc

pub stands_behind : (ws : List ℕ) (i : ℕ) → Stands ws i → behind 1 (steps_from ws i) ≡ None → ⊥
stands_behind ws i st h =
    let whole = ap (behind 1) st.enc ∙ behind_one st.expr st.rest in
    let apart : ◌≡◌ {A = ℕ} 0 1 = cc in omega arith

-- it is as many steps further as the expression has
pub expr_behind : (ws : List ℕ) (i j : ℕ) (e : Expr ℕ) (r : List Step) → steps_from ws i ≡ spell e r → i < length (steps_in ws) → j ≤ length (steps_in ws) → steps_from ws j ≡ r → j ≡ i + marks e
expr_behind ws i j e r h l k b = omega (arith, length_from ws i, length_from ws j, ap length h, ap length b, length_spell e r)

-- one turn of the walk
pub behind_step : (ws : List ℕ) (i : ℕ) (x : Step) (m k : ℕ) → At ws i x → 0 < m → k ≡ m - 1 + awaits x → behind m (steps_from ws i) ≡ behind k (steps_from ws (i + 1))
behind_step ws i x m k at h e = ap (behind m) (from_at ws i x at) ∙ behind_first x (steps_from ws (i + 1)) m (m - 1) k (omega arith) e

pub behind_past : (ws : List ℕ) (i m : ℕ) → 0 < m → length (steps_in ws) ≤ i → behind m (steps_from ws i) ≡ None
unfolding behind
behind_past ws i zero h l = absurd (omega arith)
behind_past ws i (suc m) h l = ap (behind (suc m)) (from_past ws i l)

pub behind_none : (l : List Step) (m : ℕ) → m ≡ 0 → behind m l ≡ Some l
unfolding behind
behind_none l m e = ap (λ k. behind k l) e

pub awaits_few : (s : Step) → awaits s ≤ 3
awaits_few End = omega arith
awaits_few (Let k) = omega arith
awaits_few (Put k) = omega arith
awaits_few Show = omega arith
awaits_few (Again n) = omega arith
awaits_few (Name k) = omega arith
awaits_few (Input k) = omega arith
awaits_few (Constant x) = omega arith
awaits_few (Count m) = omega arith
awaits_few (Each k) = omega arith
awaits_few (Both k) = omega arith
awaits_few Choose = omega arith
awaits_few (Fold k x) = omega arith
awaits_few (Scan k x) = omega arith
awaits_few Shape = omega arith
awaits_few Turn = omega arith
awaits_few Cut = omega arith
awaits_few (Join x) = omega arith
awaits_few Rows = omega arith
awaits_few (Item k) = omega arith
awaits_few (Slice s) = omega arith
