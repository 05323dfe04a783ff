-- How many steps an expression, a list of items and lines have, and what is behind them.
use Rattle.std.proofs.Common.{◌≡◌, ℕ, ◌+◌, ◌<◌, List, [], ◌∷◌, ◌++◌, length, drop, refl, ap, ◌∙◌, arith}
use Rattle.std.proofs.lemmas.List.{drop_at}
use Rattle.semantics.specs.Parts.{Part}
use Rattle.semantics.specs.Values.{Expr, name, input, constant, count, each, both, choose, fold, scan, shape_to, turn, part, join, rows}
use Rattle.semantics.specs.Programs.{Program, end, be, put, show, again}
use Rattle.semantics.specs.Slices.{slice_of}
use Rattle.program.specs.declared.step.Step.{Step}
use Rattle.program.specs.declared.step.Step.TheVariants.{End, Let, Put, Show, Again, Each, Both, Choose, Fold, Scan, Shape, Turn, Part as Cut, Join, Rows, Item, Slice}
use Rattle.program.specs.Spelling.{items, slices, spell, spell_program}
use Rattle.program.specs.Marks.{marks, long}

pub length_items : (ks : List ℕ) (r : List Step) → length (items ks r) ≡ length ks + length r
unfolding items
length_items [] r = omega arith
length_items (k ∷ ks) r = omega (arith, length_items ks r)

pub length_slices : (ps : List Part) (r : List Step) → length (slices ps r) ≡ length ps + length r
unfolding slices
length_slices [] r = omega arith
length_slices (p ∷ ps) r = omega (arith, length_slices ps r)

pub length_spell : (e : Expr ℕ) (r : List Step) → length (spell e r) ≡ marks e + length r
unfolding spell marks
length_spell (name k) r = omega arith
length_spell (input k) r = omega arith
length_spell (constant x) r = omega arith
length_spell (count m) r = omega arith
length_spell (each k e) r = omega (arith, length_spell e r)
length_spell (both k e f) r = omega (arith, length_spell e (spell f r), length_spell f r)
length_spell (choose e f g) r = omega (arith, length_spell e (spell f (spell g r)), length_spell f (spell g r), length_spell g r)
length_spell (fold k x e) r = omega (arith, length_spell e r)
length_spell (scan k x e) r = omega (arith, length_spell e r)
length_spell (shape_to t e) r = omega (arith, length_items t (spell e r), length_spell e r)
length_spell (turn os e) r = omega (arith, length_items os (spell e r), length_spell e r)
length_spell (part ps e) r = omega (arith, length_slices ps (spell e r), length_spell e r)
length_spell (join x e f) r = omega (arith, length_spell e (spell f r), length_spell f r)
length_spell (rows e f) r = omega (arith, length_spell e (spell f r), length_spell f r)

pub marks_some : (e : Expr ℕ) → 0 < marks e
unfolding marks
marks_some (name k) = omega arith
marks_some (input k) = omega arith
marks_some (constant x) = omega arith
marks_some (count m) = omega arith
marks_some (each k e) = omega arith
marks_some (both k e f) = omega arith
marks_some (choose e f g) = omega arith
marks_some (fold k x e) = omega arith
marks_some (scan k x e) = omega arith
marks_some (shape_to t e) = omega arith
marks_some (turn os e) = omega arith
marks_some (part ps e) = omega arith
marks_some (join x e f) = omega arith
marks_some (rows e f) = omega arith

pub spell_longer : (e : Expr ℕ) (r : List Step) → length r < length (spell e r)
spell_longer e r = omega (arith, length_spell e r, marks_some e)

pub length_program : (p : Program ℕ) (r : List Step) → length (spell_program p r) ≡ long p + length r
unfolding spell_program long
length_program end r = omega arith
length_program (be k e p) r = omega (arith, length_spell e (spell_program p r), length_program p r)
length_program (put k ps e p) r = omega (arith, length_slices ps (spell e (spell_program p r)), length_spell e (spell_program p r), length_program p r)
length_program (show e p) r = omega (arith, length_spell e (spell_program p r), length_program p r)
length_program (again n b p) r = omega (arith, length_program b (End ∷ spell_program p r), length_program p r)

-- what follows is appended
pub items_append : (ks : List ℕ) (r q : List Step) → items ks (r ++ q) ≡ items ks r ++ q
unfolding items
items_append [] r q = refl
items_append (k ∷ ks) r q = ap (λ l. Item k ∷ l) (items_append ks r q)

pub slices_append : (ps : List Part) (r q : List Step) → slices ps (r ++ q) ≡ slices ps r ++ q
unfolding slices
slices_append [] r q = refl
slices_append (p ∷ ps) r q = ap (λ l. Slice (slice_of p) ∷ l) (slices_append ps r q)

pub spell_append : (e : Expr ℕ) (r q : List Step) → spell e (r ++ q) ≡ spell e r ++ q
unfolding spell
spell_append (name k) r q = refl
spell_append (input k) r q = refl
spell_append (constant x) r q = refl
spell_append (count m) r q = refl
spell_append (each k e) r q = ap (λ l. Each k ∷ l) (spell_append e r q)
spell_append (both k e f) r q = ap (λ l. Both k ∷ l) (ap (spell e) (spell_append f r q) ∙ spell_append e (spell f r) q)
spell_append (choose e f g) r q =
    ap (λ l. Choose ∷ l) (ap (λ l. spell e (spell f l)) (spell_append g r q) ∙ (ap (spell e) (spell_append f (spell g r) q) ∙ spell_append e (spell f (spell g r)) q))
spell_append (fold k x e) r q = ap (λ l. Fold k x ∷ l) (spell_append e r q)
spell_append (scan k x e) r q = ap (λ l. Scan k x ∷ l) (spell_append e r q)
spell_append (shape_to t e) r q = ap (λ l. Shape ∷ l) (ap (items t) (spell_append e r q) ∙ items_append t (spell e r) q)
spell_append (turn os e) r q = ap (λ l. Turn ∷ l) (ap (items os) (spell_append e r q) ∙ items_append os (spell e r) q)
spell_append (part ps e) r q = ap (λ l. Cut ∷ l) (ap (slices ps) (spell_append e r q) ∙ slices_append ps (spell e r) q)
spell_append (join x e f) r q = ap (λ l. Join x ∷ l) (ap (spell e) (spell_append f r q) ∙ spell_append e (spell f r) q)
spell_append (rows e f) r q = ap (λ l. Rows ∷ l) (ap (spell e) (spell_append f r q) ∙ spell_append e (spell f r) q)

pub program_append : (p : Program ℕ) (r q : List Step) → spell_program p (r ++ q) ≡ spell_program p r ++ q
unfolding spell_program
program_append end r q = refl
program_append (be k e p) r q = ap (λ l. Let k ∷ l) (ap (spell e) (program_append p r q) ∙ spell_append e (spell_program p r) q)
program_append (put k ps e p) r q =
    ap (λ l. Put k ∷ l)
    (ap (λ l. slices ps (spell e l)) (program_append p r q) ∙ (ap (slices ps) (spell_append e (spell_program p r) q) ∙ slices_append ps (spell e (spell_program p r)) q))
program_append (show e p) r q = ap (λ l. Show ∷ l) (ap (spell e) (program_append p r q) ∙ spell_append e (spell_program p r) q)
program_append (again n b p) r q =
    ap (λ l. Again n ∷ l) (ap (λ l. spell_program b (End ∷ l)) (program_append p r q) ∙ program_append b (End ∷ spell_program p r) q)

-- behind as many steps as there are comes what follows
pub drop_items : (ks : List ℕ) (r : List Step) → drop (length ks) (items ks r) ≡ r
drop_items ks r =
    ap (drop (length ks)) (items_append ks [] r) ∙ drop_at (items ks []) r (length ks) (omega (arith, length_items ks []))

pub drop_slices : (ps : List Part) (r : List Step) → drop (length ps) (slices ps r) ≡ r
drop_slices ps r =
    ap (drop (length ps)) (slices_append ps [] r) ∙ drop_at (slices ps []) r (length ps) (omega (arith, length_slices ps []))

pub drop_spell : (e : Expr ℕ) (r : List Step) → drop (marks e) (spell e r) ≡ r
drop_spell e r = ap (drop (marks e)) (spell_append e [] r) ∙ drop_at (spell e []) r (marks e) (omega (arith, length_spell e []))

pub drop_program : (p : Program ℕ) (r : List Step) → drop (long p) (spell_program p r) ≡ r
drop_program p r = ap (drop (long p)) (program_append p [] r) ∙ drop_at (spell_program p []) r (long p) (omega (arith, length_program p []))
