use Rattle.std.proofs.Common.{◌≡◌, ℕ, ◌-◌, ◌*◌, List, [], take, Ok, ap, ◌∙◌, arith}
use Rattle.program.specs.Spelling.{spell_program}
use Rattle.program.specs.Words.{steps_in}
use Rattle.grammar.specs.Automaton.{answer_to}
use Rattle.grammar.proofs.Accepts.{one_program}
use Rattle.std.proofs.lemmas.List.{length-replicate}
use Rattle.reader.specs.Judging.{mark_places}
use Rattle.reader.specs.Reading.{steps_said, result_of, Written}
use Rattle.reader.proofs.Taken.{read_as, ReadAs, few_steps}
use Rattle.reference.proofs.texts.run_text.Goals as goal

pub overflow_mul-steps : goal.overflow_mul-steps
overflow_mul-steps c = let few = few_steps c.args.text.now c.in_ok-steps.steps 32768 c.in_ok-steps.ensures.is in omega arith

pub slice_bounds-interpret-end : goal.slice_bounds-interpret-end
slice_bounds-interpret-end c =
    let few = few_steps c.args.text.now c.in_ok-steps.steps 32768 c.in_ok-steps.ensures.is in
    let long = length-replicate {A = ℕ} 32768 0 in
    let kept = c.read_program.auto.words in omega arith

-- the words that are run are the program's steps
module _ (t : List ℕ) (n : ℕ) (old new : List ℕ) (is : Ok n ≡ result_of (answer_to t) 32768) (leaves : Written old new n (steps_said (answer_to t)) (mark_places t)) where
  read : ReadAs t (steps_said (answer_to t))
  read = read_as t n 32768 is

  steps : steps_in (take (5 * n - 0) new) ≡ spell_program read.program []
  steps = let whole : 5 * n - 0 ≡ 5 * n = omega arith in ap (λ k. steps_in (take k new)) whole ∙ (leaves.are ∙ read.is)

pub interpret-requires : goal.interpret-requires
interpret-requires c =
    let ok = c.in_ok-steps.ensures in
    let t = c.args.text.now in
    record {
      stands = record { program = (read t c.in_ok-steps.steps _ c.read_program.new.words ok.is ok.leaves).program; enc = steps t c.in_ok-steps.steps _ c.read_program.new.words ok.is ok.leaves };
      small = c.if-places.false;
    }

pub returns : goal.returns
returns c q reads =
    let ok = c.in_ok-steps.ensures in
    let t = c.args.text.now in
    let mine = read t c.in_ok-steps.steps _ c.read_program.new.words ok.is ok.leaves in
    c.interpret.ensures.on q (steps t c.in_ok-steps.steps _ c.read_program.new.words ok.is ok.leaves ∙ ap (λ p. spell_program p []) (one_program t mine.program q mine.reads reads))
