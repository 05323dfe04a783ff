-- What reading a text gives, from the automaton's answer.
use Rattle.std.specs.Prelude.{◌≡◌, ℕ, ◌*◌, List, [], length, take, drop, Ok, Err, Result, nat_lt}
use Rattle.semantics.specs.Shapes.{pick}
use Rattle.program.specs.declared.step.Step.{Step}
use Rattle.program.specs.Words.{steps_in, places_in}
use Rattle.grammar.specs.Automaton.{Answer, took, refused_7, refused_8, answer_to}
use Rattle.reader.specs.declared.judging.Flaw.{Flaw}
use Rattle.reader.specs.declared.refusal.Refusal.{Refusal}
use Rattle.reader.specs.Judging.{mark_places}

-- the verdict that an answer is
unfoldable pub verdict_of : Answer → Result ℕ Flaw
verdict_of (took es) = Ok (length es)
verdict_of (refused_7 i) = Err (Flaw.NoProgram i)
verdict_of (refused_8 i) = Err (Flaw.TooMuch i)

-- the steps of a text's program, in order
unfoldable pub steps_said : Answer → List Step
steps_said (took es) = es
steps_said (refused_7 i) = []
steps_said (refused_8 i) = []

-- what is answered where so many words are lent: how many steps there are, or a refusal
unfoldable pub result_of : Answer → ℕ → Result ℕ Refusal
result_of (took es) lent = pick (nat_lt lent (16 * length es)) (Err Refusal.ShortWords) (Ok (length es))
result_of (refused_7 i) lent = Err (Refusal.NoProgram i)
result_of (refused_8 i) lent = Err (Refusal.TooMuch i)

-- the first words are these steps and their places, and the rest is as it was
pub record Written (old new : List ℕ) (n : ℕ) (steps : List Step) (places : List ℕ) : Type 0 where
  pub are : steps_in (take (5 * n) new) ≡ steps
  pub stand : places_in (take (5 * n) new) ≡ places
  pub rest : drop (5 * n) new ≡ drop (5 * n) old

-- the words after reading: a program's steps and where their marks begin, or as they were
abbrev pub Leaves : List ℕ → List ℕ → List ℕ → Result ℕ Refusal → Type 0
Leaves t old new (Ok n) = Written old new n (steps_said (answer_to t)) (mark_places t)
Leaves t old new (Err e) = new ≡ old
