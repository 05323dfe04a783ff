use Rattle.std.proofs.Common.{sym, refl}
use Rattle.program.proofs.Storing.{length_steps_in}
use Rattle.program.proofs.words.count_steps.Goals as goal

pub returns : goal.returns
returns c = record { fifth = refl; steps = sym (length_steps_in c.args.words.now) }
