-- What holds of steps: words give back the step they were written for, steps are one expression and one program at most, a program
-- has as many steps as its text has marks, and what follows an expression, lines or items is found.
use Rattle.std.specs.Prelude.{◌≡◌, ℕ, ◌+◌, List, [], ◌∷◌, length, Some}
use Rattle.semantics.specs.Parts.{Part}
use Rattle.semantics.specs.Values.{Expr}
use Rattle.semantics.specs.Programs.{Program}
use Rattle.program.specs.declared.step.Step.{Step}
use Rattle.program.specs.declared.step.Step.TheVariants.{End}
use Rattle.program.specs.Spelling.{items, slices, spell, spell_program}
use Rattle.program.specs.Marks.{marks, long}
use Rattle.program.specs.Words.{words_of, step_in, place_in}
use Rattle.program.specs.Standing.{Closed}
use Rattle.program.specs.Closing.{closing}
use Rattle.program.specs.Leading.{item_in, slice_in, leading}
use Rattle.program.specs.Behind.{behind}

-- five words, which give back the step and its place
abbrev pub WordsBack : Type 0
WordsBack = (s : Step) (p : ℕ) → (length (words_of s p) ≡ 5) × (step_in (words_of s p) 0 ≡ s) × (place_in (words_of s p) 0 ≡ p)

-- the same steps are the same expression, with the same behind it
abbrev pub OneExpression : Type 0
OneExpression = (e f : Expr ℕ) (r q : List Step) → spell e r ≡ spell f q → (e ≡ f) × (r ≡ q)

-- the same steps are the same lines, where both are followed by `End` or by nothing
abbrev pub OneProgram : Type 0
OneProgram = (p q : Program ℕ) (r t : List Step) → Closed r → Closed t → spell_program p r ≡ spell_program q t → (p ≡ q) × (r ≡ t)

-- as many steps as marks
abbrev pub AsManySteps : Type 0
AsManySteps =
    ((e : Expr ℕ) (r : List Step) → length (spell e r) ≡ marks e + length r) × ((p : Program ℕ) → length (spell_program p []) ≡ long p)

-- behind an expression, and behind the lines of an `again`, what follows is found
abbrev pub EndsFound : Type 0
EndsFound =
    ((e : Expr ℕ) (r : List Step) → behind 1 (spell e r) ≡ Some r) × ((b : Program ℕ) (r : List Step) → closing 0 (spell_program b (End ∷ r)) ≡ Some r)

-- before an operand, its items or slices are found, and no more
abbrev pub ListsFound : Type 0
ListsFound =
    ((ks : List ℕ) (e : Expr ℕ) (r : List Step) → leading item_in (items ks (spell e r)) ≡ ks) × ((ps : List Part) (e : Expr ℕ) (r : List Step) → leading slice_in (slices ps (spell e r)) ≡ ps)
