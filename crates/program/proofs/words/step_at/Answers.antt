use Rattle.std.proofs.Common.{sym, ◌∙◌, arith}
use Rattle.program.proofs.Storing.{length_steps_in, steps_in_at, step_of_five}
use Rattle.program.proofs.words.step_at.Goals as goal

pub returns : goal.returns
returns c =
    let ws = c.args.words.now in
    let k = c.args.node in
    let (there, is) = c.in_ok-tag.ensures in
    record {
      there = there;
      is = c.read_step.ensures ∙ (step_of_five ws k c.in_ok-tag.field-0 is ∙ sym (steps_in_at ws k (omega (arith, there, length_steps_in ws))));
      words = omega (arith, there, length_steps_in ws);
    }
