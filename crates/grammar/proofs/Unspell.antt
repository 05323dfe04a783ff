-- A program is determined by its steps: they are read backward, each takes what it needs from what stands behind it.
use Rattle.std.proofs.Common.{◌≡◌, ℕ, List, [], ◌∷◌, ◌++◌, sym, refl, ap, ◌∙◌}
use Rattle.semantics.specs.Parts.{Part}
use Rattle.semantics.specs.Slices.{part_of}
use Rattle.semantics.specs.Values.{Expr, name, input, constant, count, each, both, choose, fold, scan, shape_to, turn, part, join, rows}
use Rattle.semantics.specs.Programs.{Program, end, be, put, show, again}
use Rattle.program.specs.declared.step.Step.{Step}
use Rattle.program.specs.Spelling.{items, slices, spell, spell_program}

-- what stands behind a step: items, parts, expressions, programs, the nearest first
record Behind : Type 0 where
  numbers : List ℕ
  parts : List Part
  exprs : List (Expr ℕ)
  programs : List (Program ℕ)

first : List (Expr ℕ) → Expr ℕ
first [] = name 0
first (e ∷ es) = e

others : List (Expr ℕ) → List (Expr ℕ)
others [] = []
others (e ∷ es) = es

head : List (Program ℕ) → Program ℕ
head [] = end
head (p ∷ ps) = p

tail : List (Program ℕ) → List (Program ℕ)
tail [] = []
tail (p ∷ ps) = ps

-- one expression more
with_expr : Expr ℕ → Behind → Behind
with_expr e r = record { numbers = []; parts = []; exprs = e ∷ r.exprs; programs = r.programs }

on_one : (Expr ℕ → Expr ℕ) → Behind → Behind
on_one c r = record { numbers = []; parts = []; exprs = c (first r.exprs) ∷ others r.exprs; programs = r.programs }

on_two : (Expr ℕ → Expr ℕ → Expr ℕ) → Behind → Behind
on_two c r = record { numbers = []; parts = []; exprs = c (first r.exprs) (first (others r.exprs)) ∷ others (others r.exprs); programs = r.programs }

on_three : (Expr ℕ → Expr ℕ → Expr ℕ → Expr ℕ) → Behind → Behind
on_three c r = record { numbers = []; parts = []; exprs = c (first r.exprs) (first (others r.exprs)) (first (others (others r.exprs))) ∷ others (others (others r.exprs)); programs = r.programs }

-- a statement more before the nearest program
on_line : (Expr ℕ → Program ℕ → Program ℕ) → Behind → Behind
on_line c r = record { numbers = []; parts = []; exprs = others r.exprs; programs = c (first r.exprs) (head r.programs) ∷ tail r.programs }

behind : List Step → Behind
behind [] = record { numbers = []; parts = []; exprs = []; programs = end ∷ [] }
behind (Step.End ∷ r) = let b = behind r in record { numbers = []; parts = []; exprs = b.exprs; programs = end ∷ b.programs }
behind (Step.Let k ∷ r) = on_line (λ e p. be k e p) (behind r)
behind (Step.Put k ∷ r) = on_line (λ e p. put k (behind r).parts e p) (behind r)
behind (Step.Show ∷ r) = on_line (λ e p. show e p) (behind r)
behind (Step.Again k ∷ r) =
    let b = behind r in
    record { numbers = []; parts = []; exprs = b.exprs; programs = again k (head b.programs) (head (tail b.programs)) ∷ tail (tail b.programs) }
behind (Step.Name k ∷ r) = with_expr (name k) (behind r)
behind (Step.Input k ∷ r) = with_expr (input k) (behind r)
behind (Step.Constant x ∷ r) = with_expr (constant x) (behind r)
behind (Step.Count k ∷ r) = with_expr (count k) (behind r)
behind (Step.Each k ∷ r) = on_one (λ e. each k e) (behind r)
behind (Step.Both k ∷ r) = on_two (λ e f. both k e f) (behind r)
behind (Step.Choose ∷ r) = on_three (λ e f g. choose e f g) (behind r)
behind (Step.Fold k x ∷ r) = on_one (λ e. fold k x e) (behind r)
behind (Step.Scan k x ∷ r) = on_one (λ e. scan k x e) (behind r)
behind (Step.Shape ∷ r) = on_one (λ e. shape_to (behind r).numbers e) (behind r)
behind (Step.Turn ∷ r) = on_one (λ e. turn (behind r).numbers e) (behind r)
behind (Step.Part ∷ r) = on_one (λ e. part (behind r).parts e) (behind r)
behind (Step.Join x ∷ r) = on_two (λ e f. join x e f) (behind r)
behind (Step.Rows ∷ r) = on_two (λ e f. rows e f) (behind r)
behind (Step.Item k ∷ r) = let b = behind r in record { numbers = k ∷ b.numbers; parts = b.parts; exprs = b.exprs; programs = b.programs }
behind (Step.Slice s ∷ r) =
    let b = behind r in
    record { numbers = b.numbers; parts = part_of s ∷ b.parts; exprs = b.exprs; programs = b.programs }

with_items : List ℕ → Behind → Behind
with_items ks b = record { numbers = ks ++ b.numbers; parts = b.parts; exprs = b.exprs; programs = b.programs }

behind_items : (ks : List ℕ) (r : List Step) → behind (items ks r) ≡ with_items ks (behind r)
unfolding behind items with_items
behind_items [] r = refl
behind_items (k ∷ ks) r = ap (λ b. record { numbers = k ∷ b.numbers; parts = b.parts; exprs = b.exprs; programs = b.programs }) (behind_items ks r)

with_parts : List Part → Behind → Behind
with_parts ps b = record { numbers = b.numbers; parts = ps ++ b.parts; exprs = b.exprs; programs = b.programs }

behind_parts : (ps : List Part) (r : List Step) → behind (slices ps r) ≡ with_parts ps (behind r)
unfolding behind slices with_parts
behind_parts [] r = refl
behind_parts (p ∷ ps) r = ap (λ b. record { numbers = b.numbers; parts = p ∷ b.parts; exprs = b.exprs; programs = b.programs }) (behind_parts ps r)

append_nil : {A : Type 0} (u : List A) → u ++ [] ≡ u
append_nil [] = refl
append_nil {A} (b ∷ u) = ap {B = List A} (λ y. b ∷ y) (append_nil u)

behind_spell : (e : Expr ℕ) (r : List Step) → behind (spell e r) ≡ with_expr e (behind r)
unfolding behind spell with_expr on_one on_two on_three first others with_items with_parts
behind_spell (name k) r = refl
behind_spell (input k) r = refl
behind_spell (constant x) r = refl
behind_spell (count k) r = refl
behind_spell (each k e) r = ap (on_one (λ x. each k x)) (behind_spell e r)
behind_spell (both k e f) r = ap (on_two (λ x y. both k x y)) (behind_spell e (spell f r) ∙ ap (with_expr e) (behind_spell f r))
behind_spell (choose e f g) r =
    ap (on_three (λ x y z. choose x y z)) (behind_spell e (spell f (spell g r)) ∙ ap (with_expr e) (behind_spell f (spell g r) ∙ ap (with_expr f) (behind_spell g r)))
behind_spell (fold k x e) r = ap (on_one (λ y. fold k x y)) (behind_spell e r)
behind_spell (scan k x e) r = ap (on_one (λ y. scan k x y)) (behind_spell e r)
behind_spell (shape_to t e) r =
    ap (λ b. on_one (λ y. shape_to b.numbers y) b) (behind_items t (spell e r) ∙ ap (with_items t) (behind_spell e r))
    ∙ ap (λ ks. with_expr (shape_to ks e) (behind r)) (append_nil t)
behind_spell (turn t e) r =
    ap (λ b. on_one (λ y. turn b.numbers y) b) (behind_items t (spell e r) ∙ ap (with_items t) (behind_spell e r))
    ∙ ap (λ ks. with_expr (turn ks e) (behind r)) (append_nil t)
behind_spell (part ps e) r =
    ap (λ b. on_one (λ y. part b.parts y) b) (behind_parts ps (spell e r) ∙ ap (with_parts ps) (behind_spell e r))
    ∙ ap (λ ks. with_expr (part ks e) (behind r)) (append_nil ps)
behind_spell (join x e f) r = ap (on_two (λ y z. join x y z)) (behind_spell e (spell f r) ∙ ap (with_expr e) (behind_spell f r))
behind_spell (rows e f) r = ap (on_two (λ y z. rows y z)) (behind_spell e (spell f r) ∙ ap (with_expr e) (behind_spell f r))

-- p's statements before q's
before : Program ℕ → Program ℕ → Program ℕ
before end q = q
before (be k e p) q = be k e (before p q)
before (put k ps e p) q = put k ps e (before p q)
before (show e p) q = show e (before p q)
before (again k b p) q = again k b (before p q)

before_end : (p : Program ℕ) → before p end ≡ p
unfolding before
before_end end = refl
before_end (be k e p) = ap (λ x. be k e x) (before_end p)
before_end (put k ps e p) = ap (λ x. put k ps e x) (before_end p)
before_end (show e p) = ap (λ x. show e x) (before_end p)
before_end (again k b p) = ap (λ x. again k b x) (before_end p)

line_programs : (c : Expr ℕ → Program ℕ → Program ℕ) (e : Expr ℕ) (b : Behind) (q : Program ℕ) (qs : List (Program ℕ)) → b.programs ≡ q ∷ qs → (on_line c (with_expr e b)).programs ≡ c e q ∷ qs
unfolding on_line with_expr first head tail
line_programs c e b q qs h = ap {B = List (Program ℕ)} (λ x. c e (head x) ∷ tail x) h

behind_lines : (p : Program ℕ) (r : List Step) (q : Program ℕ) (qs : List (Program ℕ)) → (behind r).programs ≡ q ∷ qs → (behind (spell_program p r)).programs ≡ before p q ∷ qs
unfolding behind spell_program before head tail with_parts with_expr on_line first
behind_lines end r q qs h = h
behind_lines (be k e p) r q qs h =
    ap (λ b. (on_line (λ x y. be k x y) b).programs) (behind_spell e (spell_program p r))
    ∙ line_programs (λ x y. be k x y) e (behind (spell_program p r)) (before p q) qs (behind_lines p r q qs h)
behind_lines (put k ps e p) r q qs h =
    ap (λ b. (on_line (λ x y. put k b.parts x y) b).programs) (behind_parts ps (spell e (spell_program p r)) ∙ ap (with_parts ps) (behind_spell e (spell_program p r)))
    ∙ ap {B = List (Program ℕ)} (λ us. put k us e (head (behind (spell_program p r)).programs) ∷ tail (behind (spell_program p r)).programs) (append_nil ps)
    ∙ line_programs (λ x y. put k ps x y) e (behind (spell_program p r)) (before p q) qs (behind_lines p r q qs h)
behind_lines (show e p) r q qs h =
    ap (λ b. (on_line (λ x y. show x y) b).programs) (behind_spell e (spell_program p r))
    ∙ line_programs (λ x y. show x y) e (behind (spell_program p r)) (before p q) qs (behind_lines p r q qs h)
behind_lines (again k b p) r q qs h =
    let i = behind_lines p r q qs h in
    let j = behind_lines b (Step.End ∷ spell_program p r) end (behind (spell_program p r)).programs refl in
    ap {B = List (Program ℕ)} (λ x. again k (head x) (head (tail x)) ∷ tail (tail x)) j
    ∙ ap {B = List (Program ℕ)} (λ x. again k (before b end) (head x) ∷ tail x) i
    ∙ ap {B = List (Program ℕ)} (λ x. again k x (before p q) ∷ qs) (before_end b)

unspelled : (p : Program ℕ) → head (behind (spell_program p [])).programs ≡ p
unfolding behind head
unspelled p = ap head (behind_lines p [] end [] refl) ∙ before_end p

pub same_from_spelled : (p q : Program ℕ) → spell_program p [] ≡ spell_program q [] → p ≡ q
same_from_spelled p q e = sym (unspelled p) ∙ ap (λ r. head (behind r).programs) e ∙ unspelled q
