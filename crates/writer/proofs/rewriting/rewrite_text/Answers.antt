use Rattle.std.proofs.Common.{◌≡◌, ℕ, ◌-◌, ◌*◌, List, [], take, drop, Some, None, Ok, Option, sym, ap, ◌∙◌, subst, arith, length-take}
use Rattle.std.proofs.lemmas.List.{length-replicate, take_at, drop_at}
use Rattle.semantics.specs.Programs.{Program}
use Rattle.program.specs.Spelling.{spell_program}
use Rattle.program.specs.Words.{steps_in}
use Rattle.grammar.specs.Texts.{Reads}
use Rattle.grammar.specs.Automaton.{answer_to}
use Rattle.grammar.proofs.Accepts.{one_program}
use Rattle.reader.specs.Judging.{mark_places}
use Rattle.reader.specs.Reading.{steps_said, result_of, Written}
use Rattle.reader.proofs.Taken.{read_as, ReadAs, few_steps}
use Rattle.writer.specs.WrittenAs.{text_of}
use Rattle.writer.specs.Writes.{WritesProgram}
use Rattle.writer.specs.Rewriting.{Rewrites}
use Rattle.writer.proofs.ReadBack.{text_reads}
use Rattle.grammar.proofs.Canonicals.{lines_canonical}
use Rattle.writer.proofs.rewriting.rewrite_text.Goals as goal

-- what a text says can be written, and what is written is a text of it
written_reads : (t : List ℕ) (p : Program ℕ) → Reads t p → Reads (text_of p) p
written_reads t p r =
    let w = r.writing in
    subst (λ q. Reads (text_of q) q) r.is (text_reads _ w.used (lines_canonical w.fits) (omega (arith, w.enough, w.few)))

module _ (t : List ℕ) (n : ℕ) (old new : List ℕ) (is : Ok n ≡ result_of (answer_to t) 32768) (leaves : Written old new n (steps_said (answer_to t)) (mark_places t)) where
  read : ReadAs t (steps_said (answer_to t))
  read = read_as t n 32768 is

  steps : steps_in (take (5 * n) new) ≡ spell_program read.program []
  steps = leaves.are ∙ read.is

  steps_of_each : (p : Program ℕ) → Reads t p → steps_in (take (5 * n) new) ≡ spell_program p []
  steps_of_each p r = steps ∙ ap (λ q. spell_program q []) (one_program t read.program p read.reads r)

-- what is written of the program that a text says, or that there is no room for it
rewrites : (t old new : List ℕ) (o : Option ℕ) (mine : Program ℕ) → Reads t mine → ((p : Program ℕ) → Reads t p → WritesProgram p old new o) → Rewrites t old new (Ok o)
rewrites t old new None mine reads w = ((w mine reads).1, λ p r. (w p r).0)
rewrites t old new (Some n) mine reads w = λ p r.
    let wrote = w p r in
    record {
      same = subst (λ xs. Reads xs p) (sym (ap (take n) wrote.2 ∙ take_at (text_of p) (drop n old) n (sym wrote.0))) (written_reads t p r);
      rest = ap (drop n) wrote.2 ∙ drop_at (text_of p) (drop n old) n (sym wrote.0);
    }

pub overflow_mul-words : goal.overflow_mul-words
overflow_mul-words c = let few = few_steps c.args.text.now c.in_ok-steps.steps 32768 c.in_ok-steps.ensures.is in omega arith

pub slice_bounds-words-end : goal.slice_bounds-words-end
slice_bounds-words-end c =
    let few = few_steps c.args.text.now c.in_ok-steps.steps 32768 c.in_ok-steps.ensures.is in
    let long = length-replicate {A = ℕ} 32768 0 in
    let kept = c.read_program.auto.words in omega arith

pub slice_bounds-write_program-end : goal.slice_bounds-write_program-end
slice_bounds-write_program-end c =
    let few = few_steps c.args.text.now c.in_ok-steps.steps 32768 c.in_ok-steps.ensures.is in
    let long = length-replicate {A = ℕ} 32768 0 in
    let kept = c.read_program.auto.words in omega (arith, length-take (5 * c.in_ok-steps.steps) c.read_program.new.words)

pub write_program-requires : goal.write_program-requires
write_program-requires c =
    let ok = c.in_ok-steps.ensures in
    let t = c.args.text.now in
    let few = few_steps t c.in_ok-steps.steps 32768 ok.is in
    record {
      few = omega (arith, length-take (5 * c.in_ok-steps.steps) c.read_program.new.words);
      stands = record { program = (read t c.in_ok-steps.steps _ c.read_program.new.words ok.is ok.leaves).program; steps = steps t c.in_ok-steps.steps _ c.read_program.new.words ok.is ok.leaves };
    }

pub returns : goal.returns
returns c =
    let ok = c.in_ok-steps.ensures in
    let t = c.args.text.now in
    let mine = read t c.in_ok-steps.steps _ c.read_program.new.words ok.is ok.leaves in
    rewrites t c.args.room.now c.write_program.new.room c.write_program.result mine.program mine.reads
    (λ p r. c.write_program.ensures p (steps_of_each t c.in_ok-steps.steps _ c.read_program.new.words ok.is ok.leaves p r))
