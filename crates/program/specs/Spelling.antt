-- The steps of an expression and of a program, in prefix order, with what follows them.
use Rattle.std.specs.Prelude.{ℕ, List, [], ◌∷◌}
use Rattle.semantics.specs.Parts.{Part}
use Rattle.semantics.specs.Values.{Expr, name, input, constant, count, each, both, choose, fold, scan, shape_to, turn, part, join, rows}
use Rattle.semantics.specs.Programs.{Program, end, be, put, show, again}
use Rattle.semantics.specs.Slices.{slice_of}
use Rattle.program.specs.declared.step.Step.{Step}
use Rattle.program.specs.declared.step.Step.TheVariants.{End, Let, Put, Show, Again, Name, Input, Constant, Count, Each, Both, Choose, Fold, Scan, Shape, Turn, Part as Cut, Join, Rows, Item, Slice}

unfoldable pub items : List ℕ → List Step → List Step
items [] r = r
items (k ∷ ks) r = Item k ∷ items ks r

unfoldable pub slices : List Part → List Step → List Step
slices [] r = r
slices (p ∷ ps) r = Slice (slice_of p) ∷ slices ps r

unfoldable pub spell : Expr ℕ → List Step → List Step
unfolding items slices
spell (name k) r = Name k ∷ r
spell (input k) r = Input k ∷ r
spell (constant x) r = Constant x ∷ r
spell (count m) r = Count m ∷ r
spell (each k e) r = Each k ∷ spell e r
spell (both k e f) r = Both k ∷ spell e (spell f r)
spell (choose e f g) r = Choose ∷ spell e (spell f (spell g r))
spell (fold k x e) r = Fold k x ∷ spell e r
spell (scan k x e) r = Scan k x ∷ spell e r
spell (shape_to t e) r = Shape ∷ items t (spell e r)
spell (turn os e) r = Turn ∷ items os (spell e r)
spell (part ps e) r = Cut ∷ slices ps (spell e r)
spell (join x e f) r = Join x ∷ spell e (spell f r)
spell (rows e f) r = Rows ∷ spell e (spell f r)

unfoldable pub spell_program : Program ℕ → List Step → List Step
unfolding spell slices
spell_program end r = r
spell_program (be k e p) r = Let k ∷ spell e (spell_program p r)
spell_program (put k ps e p) r = Put k ∷ slices ps (spell e (spell_program p r))
spell_program (show e p) r = Show ∷ spell e (spell_program p r)
spell_program (again n b p) r = Again n ∷ spell_program b (End ∷ spell_program p r)
