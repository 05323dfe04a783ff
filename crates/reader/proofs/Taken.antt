-- What was read is a program, and the text is its text.
use Rattle.std.proofs.Common.{◌≡◌, ℕ, ◌*◌, ◌≤◌, Bool, true, false, ltb, List, [], length, Ok, Err, sym, refl, ap, ◌∙◌, subst, arith}
use Rattle.std.proofs.lemmas.Bool.{ltb-false}
use Rattle.semantics.specs.Shapes.{pick}
use Rattle.semantics.specs.Programs.{Program}
use Rattle.program.specs.declared.step.Step.{Step}
use Rattle.program.specs.Spelling.{spell_program}
use Rattle.grammar.specs.Texts.{Reads, Verdict, taken, no_program, too_much, Judged, is_taken}
use Rattle.grammar.specs.Automaton.{Answer, took, refused_7, refused_8, answer_to, answer_of}
use Rattle.grammar.proofs.TextLaws.{answers_verdict}
use Rattle.reader.specs.declared.refusal.Refusal.{Refusal}
use Rattle.reader.specs.Reading.{steps_said, result_of}

-- the steps of a program whose text it is
pub record ReadAs (t : List ℕ) (es : List Step) : Type 0 where
  pub program : Program ℕ
  pub reads : Reads t program
  pub is : es ≡ spell_program program []

from_verdict : (t : List ℕ) (v : Verdict) → Judged t v → (n lent : ℕ) → Ok n ≡ result_of (answer_of v) lent → ReadAs t (steps_said (answer_of v))
unfolding answer_of result_of steps_said
from_verdict t (taken p) (is_taken r within) n lent e = record { program = p; reads = r; is = refl }
from_verdict t (no_program i) j n lent e = absurd (let z : ◌≡◌ {A = ℕ} 0 1 = cc in omega arith)
from_verdict t (too_much i) j n lent e = absurd (let z : ◌≡◌ {A = ℕ} 0 1 = cc in omega arith)

pub read_as : (t : List ℕ) (n lent : ℕ) → Ok n ≡ result_of (answer_to t) lent → ReadAs t (steps_said (answer_to t))
read_as t n lent e =
    let a = answers_verdict t in
    subst (λ x. ReadAs t (steps_said x)) (sym a.is) (from_verdict t a.verdict a.judged n lent (e ∙ ap (λ x. result_of x lent) a.is))

-- the steps that are answered fit the words that are lent
few_from : (a : Answer) (n lent : ℕ) → Ok n ≡ result_of a lent → 16 * n ≤ lent
unfolding result_of
few_from (took es) n lent e = by_test (ltb lent (16 * length es)) refl e
  where
    by_test : (b : Bool) → ltb lent (16 * length es) ≡ b → Ok n ≡ pick b (Err Refusal.ShortWords) (Ok (length es)) → 16 * n ≤ lent
    by_test true t e = absurd (let z : ◌≡◌ {A = ℕ} 0 1 = cc in omega arith)
    by_test false t e =
        let same : n ≡ length es = cc in
        omega (arith, ltb-false lent (16 * length es) t)
few_from (refused_7 i) n lent e = absurd (let z : ◌≡◌ {A = ℕ} 0 1 = cc in omega arith)
few_from (refused_8 i) n lent e = absurd (let z : ◌≡◌ {A = ℕ} 0 1 = cc in omega arith)

pub few_steps : (t : List ℕ) (n lent : ℕ) → Ok n ≡ result_of (answer_to t) lent → 16 * n ≤ lent
few_steps t n lent e = few_from (answer_to t) n lent e
