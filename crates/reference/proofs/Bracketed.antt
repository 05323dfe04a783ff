-- Where the operand stands behind items or slices.
use Rattle.std.proofs.Common.{◌≡◌, ℕ, ◌+◌, List, [], ◌∷◌, length, refl, ap, ◌∙◌, arith}
use Rattle.std.specs.List.{prefix_len}
use Rattle.semantics.specs.Parts.{Part}
use Rattle.semantics.specs.Values.{Expr, name, input, constant, count, each, both, choose, fold, scan, shape_to, turn, part, join, rows}
use Rattle.program.specs.declared.step.Step.{Step}
use Rattle.program.specs.Spelling.{items, slices, spell}
use Rattle.program.specs.Standing.{steps_from}
use Rattle.program.specs.Leading.{item_in, one_more, leading, items_at, slices_at}
use Rattle.program.proofs.Nodes.{items_next, slices_next}
use Rattle.program.proofs.Leadings.{items_are, items_behind, slices_behind}
use Rattle.reference.specs.Brackets.{bracketed, SkipsBrackets}

-- no items stand where slices do
items_before : (ws : List ℕ) (i : ℕ) (ps : List Part) (e : Expr ℕ) (r : List Step) → steps_from ws i ≡ slices ps (spell e r) → items_at ws i ≡ []
unfolding items_at leading one_more item_in slices spell
items_before ws i [] e r h = items_are ws i [] e r h
items_before ws i (p ∷ ps) e r h = ap (leading item_in) h

slices_past : (ws : List ℕ) (i m : ℕ) (ps : List Part) (e : Expr ℕ) (r : List Step) → m ≡ i → steps_from ws i ≡ slices ps (spell e r) → steps_from ws (m + length (slices_at ws m)) ≡ spell e r
slices_past ws i m ps e r k h = slices_behind ws m ps e r (ap (steps_from ws) k ∙ h)

no_slices_past : (ws : List ℕ) (m : ℕ) (e : Expr ℕ) (r : List Step) → steps_from ws m ≡ spell e r → steps_from ws (m + length (slices_at ws m)) ≡ spell e r
unfolding slices spell
no_slices_past ws m e r h = slices_behind ws m [] e r h

pub brackets_skipped : (ws : List ℕ) (i n k : ℕ) → n ≡ length (items_at ws i) → k ≡ length (slices_at ws (i + n)) → SkipsBrackets ws i (i + n + k)
brackets_skipped ws i n k p q =
    let there : (e : Expr ℕ) (r : List Step) → steps_from ws (i + n + length (slices_at ws (i + n))) ≡ spell e r → steps_from ws (i + n + k) ≡ spell e r =
    λ e r h. ap (λ l. steps_from ws (i + n + l)) q ∙ h in
    record {
      further = omega arith;
      past_items = λ ks e r h. there e r (no_slices_past ws (i + n) e r (ap (λ l. steps_from ws (i + l)) p ∙ items_behind ws i ks e r h));
      past_slices = λ ps e r h. let none = items_before ws i ps e r h in there e r (slices_past ws i (i + n) ps e r (omega (arith, p, ap length none)) h);
    }

-- how many steps of brackets stand before an expression: an expression begins with none
no_brackets_first : (e : Expr ℕ) (r : List Step) → prefix_len bracketed (spell e r) ≡ 0
unfolding spell
no_brackets_first (name k) r = refl
no_brackets_first (input k) r = refl
no_brackets_first (constant x) r = refl
no_brackets_first (count m) r = refl
no_brackets_first (each k e) r = refl
no_brackets_first (both k e f) r = refl
no_brackets_first (choose e f g) r = refl
no_brackets_first (fold k x e) r = refl
no_brackets_first (scan k x e) r = refl
no_brackets_first (shape_to t e) r = refl
no_brackets_first (turn os e) r = refl
no_brackets_first (part ps e) r = refl
no_brackets_first (join x e f) r = refl
no_brackets_first (rows e f) r = refl

prefix_items : (ks : List ℕ) (e : Expr ℕ) (r : List Step) → prefix_len bracketed (items ks (spell e r)) ≡ length ks
unfolding items
prefix_items [] e r = no_brackets_first e r
prefix_items (k ∷ ks) e r = omega (arith, prefix_items ks e r)

prefix_slices : (ps : List Part) (e : Expr ℕ) (r : List Step) → prefix_len bracketed (slices ps (spell e r)) ≡ length ps
unfolding slices
prefix_slices [] e r = no_brackets_first e r
prefix_slices (p ∷ ps) e r = omega (arith, prefix_slices ps e r)

pub prefix_skipped : (ws : List ℕ) (i j : ℕ) → j ≡ i + prefix_len bracketed (steps_from ws i) → SkipsBrackets ws i j
prefix_skipped ws i j p =
    record {
      further = omega (arith, p);
      past_items = λ ks e r h. ap (steps_from ws) (p ∙ ap (λ l. i + l) (ap (prefix_len bracketed) h ∙ prefix_items ks e r)) ∙ items_next ws i ks (spell e r) h;
      past_slices = λ ps e r h. ap (steps_from ws) (p ∙ ap (λ l. i + l) (ap (prefix_len bracketed) h ∙ prefix_slices ps e r)) ∙ slices_next ws i ps (spell e r) h;
    }
