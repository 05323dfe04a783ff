-- The steps of a program with the last one first, as the automaton gives them.
use Rattle.std.proofs.Common.{◌≡◌, ℕ, List, [], ◌∷◌, refl, ◌∙◌}
use Rattle.semantics.specs.Parts.{Part}
use Rattle.semantics.specs.Slices.{slice_of}
use Rattle.semantics.specs.Values.{Expr, name, input, constant, count, each, both, choose, fold, scan, shape_to, turn, part, join, rows}
use Rattle.semantics.specs.Programs.{Program, end, be, put, show, again}
use Rattle.program.specs.declared.step.Step.{Step}
use Rattle.grammar.specs.Automaton.{onto}
use Rattle.program.specs.Spelling.{items, slices, spell, spell_program}

unfoldable pub emit_items : List ℕ → List Step → List Step
emit_items [] o = o
emit_items (k ∷ ks) o = emit_items ks (Step.Item k ∷ o)

unfoldable pub slice : Part → Step
slice p = Step.Slice (slice_of p)

unfoldable pub emit_parts : List Part → List Step → List Step
unfolding slice
emit_parts [] o = o
emit_parts (p ∷ ps) o = emit_parts ps (slice p ∷ o)

unfoldable pub emit : Expr ℕ → List Step → List Step
unfolding emit_items emit_parts
emit (name k) o = Step.Name k ∷ o
emit (input k) o = Step.Input k ∷ o
emit (constant x) o = Step.Constant x ∷ o
emit (count m) o = Step.Count m ∷ o
emit (each k e) o = emit e (Step.Each k ∷ o)
emit (both k e f) o = emit f (emit e (Step.Both k ∷ o))
emit (choose e f g) o = emit g (emit f (emit e (Step.Choose ∷ o)))
emit (fold k x e) o = emit e (Step.Fold k x ∷ o)
emit (scan k x e) o = emit e (Step.Scan k x ∷ o)
emit (shape_to t e) o = emit e (emit_items t (Step.Shape ∷ o))
emit (turn os e) o = emit e (emit_items os (Step.Turn ∷ o))
emit (part ps e) o = emit e (emit_parts ps (Step.Part ∷ o))
emit (join x e f) o = emit f (emit e (Step.Join x ∷ o))
emit (rows e f) o = emit f (emit e (Step.Rows ∷ o))

unfoldable pub emit_program : Program ℕ → List Step → List Step
unfolding emit emit_parts
emit_program end o = o
emit_program (be k e p) o = emit_program p (emit e (Step.Let k ∷ o))
emit_program (put k ps e p) o = emit_program p (emit e (emit_parts ps (Step.Put k ∷ o)))
emit_program (show e p) o = emit_program p (emit e (Step.Show ∷ o))
emit_program (again k b p) o = emit_program p (Step.End ∷ emit_program b (Step.Again k ∷ o))

onto_items : (ks : List ℕ) (r o : List Step) → onto (items ks r) o ≡ onto r (emit_items ks o)
unfolding items emit_items
onto_items [] r o = refl
onto_items (k ∷ ks) r o = onto_items ks r (Step.Item k ∷ o)

onto_slices : (ps : List Part) (r o : List Step) → onto (slices ps r) o ≡ onto r (emit_parts ps o)
unfolding slices emit_parts
onto_slices [] r o = refl
onto_slices (p ∷ ps) r o = onto_slices ps r (slice p ∷ o)

pub onto_spell : (e : Expr ℕ) (r o : List Step) → onto (spell e r) o ≡ onto r (emit e o)
unfolding spell emit
onto_spell (name k) r o = refl
onto_spell (input k) r o = refl
onto_spell (constant x) r o = refl
onto_spell (count m) r o = refl
onto_spell (each k e) r o = onto_spell e r _
onto_spell (both k e f) r o = onto_spell e (spell f r) _ ∙ onto_spell f r _
onto_spell (choose e f g) r o = onto_spell e (spell f (spell g r)) _ ∙ onto_spell f (spell g r) _ ∙ onto_spell g r _
onto_spell (fold k x e) r o = onto_spell e r _
onto_spell (scan k x e) r o = onto_spell e r _
onto_spell (shape_to t e) r o = onto_items t (spell e r) _ ∙ onto_spell e r _
onto_spell (turn os e) r o = onto_items os (spell e r) _ ∙ onto_spell e r _
onto_spell (part ps e) r o = onto_slices ps (spell e r) _ ∙ onto_spell e r _
onto_spell (join x e f) r o = onto_spell e (spell f r) _ ∙ onto_spell f r _
onto_spell (rows e f) r o = onto_spell e (spell f r) _ ∙ onto_spell f r _

pub onto_spell_program : (p : Program ℕ) (r o : List Step) → onto (spell_program p r) o ≡ onto r (emit_program p o)
unfolding spell_program emit_program
onto_spell_program end r o = refl
onto_spell_program (be k e p) r o = onto_spell e (spell_program p r) _ ∙ onto_spell_program p r _
onto_spell_program (put k ps e p) r o = onto_slices ps (spell e (spell_program p r)) _ ∙ onto_spell e (spell_program p r) _ ∙ onto_spell_program p r _
onto_spell_program (show e p) r o = onto_spell e (spell_program p r) _ ∙ onto_spell_program p r _
onto_spell_program (again k b p) r o = onto_spell_program b (Step.End ∷ spell_program p r) _ ∙ onto_spell_program p r _
