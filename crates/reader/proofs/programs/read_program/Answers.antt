use Rattle.std.proofs.Common.{◌≡◌, length, Err, refl, ap, ◌∙◌, arith}
use Rattle.std.proofs.lemmas.List.{length-replicate}
use Rattle.std.proofs.lemmas.Result.{err_from_is_err_and}
use Rattle.program.specs.declared.step.Step.{Step}
use Rattle.reader.proofs.Writing.{refused_is, short_is, taken_is, written_is}
use Rattle.reader.proofs.programs.read_program.Goals as goal

pub returns-then-words-n : goal.returns-then-words-n
returns-then-words-n c = record { is = short_is c.args.text.now c.read_text.new.steps c.read_text.new.places c.in_ok-n.n (length c.args.words.now) (omega (arith, c.read_text.auto.steps, length-replicate {A = Step} 2048 Step.End)) c.in_ok-n.ensures c.if-words-n.true; leaves = refl }

pub returns : goal.returns
returns c =
    let long : length c.read_text.new.steps ≡ 2048 = (omega (arith, c.read_text.auto.steps, length-replicate {A = Step} 2048 Step.End)) in
    record {
      is = taken_is c.args.text.now c.read_text.new.steps c.read_text.new.places c.in_ok-n.n (length c.args.words.now) long c.in_ok-n.ensures c.if-words-n.false;
      leaves = written_is c.args.text.now c.read_text.new.steps c.read_text.new.places c.in_ok-n.n (length c.args.words.now) long c.in_ok-n.ensures c.args.words.now c.write_steps.new.words c.write_steps.ensures;
    }

pub returns-in_err-n-clause-is : goal.returns-in_err-n-clause-is
returns-in_err-n-clause-is c =
    let refused = err_from_is_err_and c.from_residual.result c.from_residual.ensures.1 in
    refused.1 ∙ (ap Err refused.2 ∙ refused_is c.args.text.now c.read_text.new.steps c.read_text.new.places c.in_err-n.field-0.0 (length c.args.words.now) c.in_err-n.ensures)
