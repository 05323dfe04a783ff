-- Expressions, lists of items and lines by their first step.
use Rattle.std.proofs.Common.{◌≡◌, ℕ, Bool, List, [], ◌∷◌, sym, refl, ap, ◌∙◌, subst, arith}
use Rattle.semantics.specs.declared.operation.Unary.{Unary}
use Rattle.semantics.specs.declared.operation.Binary.{Binary}
use Rattle.semantics.specs.Parts.{Part}
use Rattle.semantics.specs.Values.{Expr, name, input, constant, count, each, both, choose, fold, scan, shape_to, turn, part, join, rows}
use Rattle.semantics.specs.Programs.{Program, end, be, put, show, again}
use Rattle.semantics.specs.Slices.{part_of, slice_of}
use Rattle.program.specs.declared.step.Step.{Step}
use Rattle.program.specs.declared.step.Step.TheVariants.{End, Let, Put, Show, Again, Name, Input, Constant, Count, Each, Both, Choose, Fold, Scan, Shape, Turn, Part as Cut, Join, Rows, Item, Slice}
use Rattle.program.specs.Spelling.{items, slices, spell, spell_program}
use Rattle.program.specs.Standing.{Closed, nothing, closed, View, is_name, is_input, is_constant, is_count, is_each, is_both, is_choose, is_fold, is_scan, is_shape, is_turn, is_part, is_join, is_rows, Opens, ItemsView, item, no_item, SlicesView, slice, no_slice, LinesView, is_end, is_let, is_put, is_show, is_again, OpensLine}

pub cons_first : {A : Type 0} {x y : A} {xs ys : List A} → x ∷ xs ≡ y ∷ ys → x ≡ y
cons_first h = cc

pub cons_rest : {A : Type 0} {x y : A} {xs ys : List A} → x ∷ xs ≡ y ∷ ys → xs ≡ ys
cons_rest h = cc

pub cons_nil : {A : Type 0} {x : A} {xs : List A} → x ∷ xs ≡ [] → ⊥
cons_nil h = let z : ◌≡◌ {A = ℕ} 0 1 = cc in omega arith

-- slices tell their part
pub same_part : (p q : Part) → Slice (slice_of p) ≡ Slice (slice_of q) → p ≡ q
same_part p q h = let same : slice_of p ≡ slice_of q = cc in ap part_of same

-- a family at a first step, carried over to the step that is equal
at_first : {x s : Step} {xs t : List Step} (F : Step → Type 0) → x ∷ xs ≡ s ∷ t → (t ≡ xs → F x) → F s
at_first F h f = subst F (cons_first h) (f (sym (cons_rest h)))

behind : {s : Step} {xs ys : List Step} → ys ≡ xs → s ∷ xs ≡ s ∷ ys
behind {s} q = ap (λ l. s ∷ l) (sym q)

-- expressions
pub view_spell : (e : Expr ℕ) (r : List Step) (s : Step) (t : List Step) → spell e r ≡ s ∷ t → View r t e s
unfolding spell
view_spell (name k) r s t h = at_first (View r t _) h (λ q. is_name q)
view_spell (input k) r s t h = at_first (View r t _) h (λ q. is_input q)
view_spell (constant x) r s t h = at_first (View r t _) h (λ q. is_constant q)
view_spell (count m) r s t h = at_first (View r t _) h (λ q. is_count q)
view_spell (each k e) r s t h = at_first (View r t _) h (λ q. is_each q)
view_spell (both k e f) r s t h = at_first (View r t _) h (λ q. is_both q)
view_spell (choose e f g) r s t h = at_first (View r t _) h (λ q. is_choose q)
view_spell (fold k x e) r s t h = at_first (View r t _) h (λ q. is_fold q)
view_spell (scan k x e) r s t h = at_first (View r t _) h (λ q. is_scan q)
view_spell (shape_to ks e) r s t h = at_first (View r t _) h (λ q. is_shape q)
view_spell (turn os e) r s t h = at_first (View r t _) h (λ q. is_turn q)
view_spell (part ps e) r s t h = at_first (View r t _) h (λ q. is_part q)
view_spell (join x e f) r s t h = at_first (View r t _) h (λ q. is_join q)
view_spell (rows e f) r s t h = at_first (View r t _) h (λ q. is_rows q)

pub opens : {r t : List Step} {e : Expr ℕ} {s : Step} → View r t e s → Opens s
opens (is_name q) = tt
opens (is_input q) = tt
opens (is_constant q) = tt
opens (is_count q) = tt
opens (is_each q) = tt
opens (is_both q) = tt
opens (is_choose q) = tt
opens (is_fold q) = tt
opens (is_scan q) = tt
opens (is_shape q) = tt
opens (is_turn q) = tt
opens (is_part q) = tt
opens (is_join q) = tt
opens (is_rows q) = tt

-- and back: the steps are those of the expression
pub spell_view : {r t : List Step} {e : Expr ℕ} {s : Step} → View r t e s → spell e r ≡ s ∷ t
unfolding spell
spell_view (is_name q) = behind q
spell_view (is_input q) = behind q
spell_view (is_constant q) = behind q
spell_view (is_count q) = behind q
spell_view (is_each q) = behind q
spell_view (is_both q) = behind q
spell_view (is_choose q) = behind q
spell_view (is_fold q) = behind q
spell_view (is_scan q) = behind q
spell_view (is_shape q) = behind q
spell_view (is_turn q) = behind q
spell_view (is_part q) = behind q
spell_view (is_join q) = behind q
spell_view (is_rows q) = behind q

-- items and slices
pub view_items : (ks : List ℕ) (e : Expr ℕ) (r : List Step) (s : Step) (t : List Step) → items ks (spell e r) ≡ s ∷ t → ItemsView (spell e r) t ks s
unfolding items
view_items [] e r s t h = no_item (opens (view_spell e r s t h)) h
view_items (k ∷ ks) e r s t h = at_first (ItemsView (spell e r) t _) h (λ q. item q)

pub view_slices : (ps : List Part) (e : Expr ℕ) (r : List Step) (s : Step) (t : List Step) → slices ps (spell e r) ≡ s ∷ t → SlicesView (spell e r) t ps s
unfolding slices
view_slices [] e r s t h = no_slice (opens (view_spell e r s t h)) h
view_slices (p ∷ ps) e r s t h = at_first (SlicesView (spell e r) t _) h (λ q. slice q)

-- lines
closed_first : {r : List Step} {s : Step} {t : List Step} → Closed r → r ≡ s ∷ t → s ≡ End
closed_first nothing h = absurd (cons_nil (sym h))
closed_first closed h = sym (cons_first h)

pub view_lines : (p : Program ℕ) (r : List Step) (s : Step) (t : List Step) → Closed r → spell_program p r ≡ s ∷ t → LinesView r t p s
unfolding spell_program
view_lines end r s t c h = subst (LinesView r t end) (sym (closed_first c h)) (is_end (h ∙ ap (λ x. x ∷ t) (closed_first c h)))
view_lines (be k e p) r s t c h = at_first (LinesView r t _) h (λ q. is_let q)
view_lines (put k ps e p) r s t c h = at_first (LinesView r t _) h (λ q. is_put q)
view_lines (show e p) r s t c h = at_first (LinesView r t _) h (λ q. is_show q)
view_lines (again n b p) r s t c h = at_first (LinesView r t _) h (λ q. is_again q)

pub opens_line : {r t : List Step} {p : Program ℕ} {s : Step} → LinesView r t p s → OpensLine s
opens_line (is_end q) = tt
opens_line (is_let q) = tt
opens_line (is_put q) = tt
opens_line (is_show q) = tt
opens_line (is_again q) = tt

-- no steps are the lines of no program but the end
pub view_no_lines : (p : Program ℕ) (r : List Step) → spell_program p r ≡ [] → (p ≡ end) × (r ≡ [])
unfolding spell_program
view_no_lines end r h = (refl, h)
view_no_lines (be k e p) r h = absurd (cons_nil h)
view_no_lines (put k ps e p) r h = absurd (cons_nil h)
view_no_lines (show e p) r h = absurd (cons_nil h)
view_no_lines (again n b p) r h = absurd (cons_nil h)

-- a step that opens an expression or a line is one of these
pub no_expr : (x : Step) → Opens x → ((k : ℕ) → x ≡ Name k → ⊥) → ((k : ℕ) → x ≡ Input k → ⊥) → ((a : ℕ) → x ≡ Constant a → ⊥) → ((m : ℕ) → x ≡ Count m → ⊥) → ((k : Unary) → x ≡ Each k → ⊥) → ((k : Binary) → x ≡ Both k → ⊥) → (x ≡ Choose → ⊥) → ((k : Binary) (a : ℕ) → x ≡ Fold k a → ⊥) → ((k : Binary) (a : ℕ) → x ≡ Scan k a → ⊥) → (x ≡ Shape → ⊥) → (x ≡ Turn → ⊥) → (x ≡ Cut → ⊥) → ((a : ℕ) → x ≡ Join a → ⊥) → (x ≡ Rows → ⊥) → ⊥
no_expr End o not-name not-input not-constant not-count not-each not-both not-choose not-fold not-scan not-shape not-turn not-cut not-join not-rows = absurd o
no_expr (Let k) o not-name not-input not-constant not-count not-each not-both not-choose not-fold not-scan not-shape not-turn not-cut not-join not-rows = absurd o
no_expr (Put k) o not-name not-input not-constant not-count not-each not-both not-choose not-fold not-scan not-shape not-turn not-cut not-join not-rows = absurd o
no_expr Show o not-name not-input not-constant not-count not-each not-both not-choose not-fold not-scan not-shape not-turn not-cut not-join not-rows = absurd o
no_expr (Again n) o not-name not-input not-constant not-count not-each not-both not-choose not-fold not-scan not-shape not-turn not-cut not-join not-rows = absurd o
no_expr (Name k) o not-name not-input not-constant not-count not-each not-both not-choose not-fold not-scan not-shape not-turn not-cut not-join not-rows = not-name k refl
no_expr (Input k) o not-name not-input not-constant not-count not-each not-both not-choose not-fold not-scan not-shape not-turn not-cut not-join not-rows = not-input k refl
no_expr (Constant x) o not-name not-input not-constant not-count not-each not-both not-choose not-fold not-scan not-shape not-turn not-cut not-join not-rows = not-constant x refl
no_expr (Count m) o not-name not-input not-constant not-count not-each not-both not-choose not-fold not-scan not-shape not-turn not-cut not-join not-rows = not-count m refl
no_expr (Each k) o not-name not-input not-constant not-count not-each not-both not-choose not-fold not-scan not-shape not-turn not-cut not-join not-rows = not-each k refl
no_expr (Both k) o not-name not-input not-constant not-count not-each not-both not-choose not-fold not-scan not-shape not-turn not-cut not-join not-rows = not-both k refl
no_expr Choose o not-name not-input not-constant not-count not-each not-both not-choose not-fold not-scan not-shape not-turn not-cut not-join not-rows = not-choose refl
no_expr (Fold k a) o not-name not-input not-constant not-count not-each not-both not-choose not-fold not-scan not-shape not-turn not-cut not-join not-rows = not-fold k a refl
no_expr (Scan k a) o not-name not-input not-constant not-count not-each not-both not-choose not-fold not-scan not-shape not-turn not-cut not-join not-rows = not-scan k a refl
no_expr Shape o not-name not-input not-constant not-count not-each not-both not-choose not-fold not-scan not-shape not-turn not-cut not-join not-rows = not-shape refl
no_expr Turn o not-name not-input not-constant not-count not-each not-both not-choose not-fold not-scan not-shape not-turn not-cut not-join not-rows = not-turn refl
no_expr Cut o not-name not-input not-constant not-count not-each not-both not-choose not-fold not-scan not-shape not-turn not-cut not-join not-rows = not-cut refl
no_expr (Join x) o not-name not-input not-constant not-count not-each not-both not-choose not-fold not-scan not-shape not-turn not-cut not-join not-rows = not-join x refl
no_expr Rows o not-name not-input not-constant not-count not-each not-both not-choose not-fold not-scan not-shape not-turn not-cut not-join not-rows = not-rows refl
no_expr (Item k) o not-name not-input not-constant not-count not-each not-both not-choose not-fold not-scan not-shape not-turn not-cut not-join not-rows = absurd o
no_expr (Slice s) o not-name not-input not-constant not-count not-each not-both not-choose not-fold not-scan not-shape not-turn not-cut not-join not-rows = absurd o

pub no_line : (x : Step) → OpensLine x → (x ≡ End → ⊥) → ((k : ℕ) → x ≡ Let k → ⊥) → ((k : ℕ) → x ≡ Put k → ⊥) → (x ≡ Show → ⊥) → ((n : ℕ) → x ≡ Again n → ⊥) → ⊥
no_line End o not_end not-let not_put not-show not-again = not_end refl
no_line (Let k) o not_end not-let not_put not-show not-again = not-let k refl
no_line (Put k) o not_end not-let not_put not-show not-again = not_put k refl
no_line Show o not_end not-let not_put not-show not-again = not-show refl
no_line (Again n) o not_end not-let not_put not-show not-again = not-again n refl
no_line (Name k) o not_end not-let not_put not-show not-again = absurd o
no_line (Input k) o not_end not-let not_put not-show not-again = absurd o
no_line (Constant x) o not_end not-let not_put not-show not-again = absurd o
no_line (Count m) o not_end not-let not_put not-show not-again = absurd o
no_line (Each k) o not_end not-let not_put not-show not-again = absurd o
no_line (Both k) o not_end not-let not_put not-show not-again = absurd o
no_line Choose o not_end not-let not_put not-show not-again = absurd o
no_line (Fold k a) o not_end not-let not_put not-show not-again = absurd o
no_line (Scan k a) o not_end not-let not_put not-show not-again = absurd o
no_line Shape o not_end not-let not_put not-show not-again = absurd o
no_line Turn o not_end not-let not_put not-show not-again = absurd o
no_line Cut o not_end not-let not_put not-show not-again = absurd o
no_line (Join x) o not_end not-let not_put not-show not-again = absurd o
no_line Rows o not_end not-let not_put not-show not-again = absurd o
no_line (Item k) o not_end not-let not_put not-show not-again = absurd o
no_line (Slice s) o not_end not-let not_put not-show not-again = absurd o
