use Rattle.std.proofs.Common.{arith}
use Rattle.std.proofs.lemmas.List.{length-replicate}
use Rattle.program.specs.declared.step.Step.{Step}
use Rattle.reader.proofs.Writing.{verdict_is}
use Rattle.reader.proofs.programs.judge.Goals as goal

pub returns : goal.returns
returns c = verdict_is c.args.text.now c.read_text.new.steps c.read_text.new.places c.read_text.result (omega (arith, c.read_text.auto.steps, length-replicate {A = Step} 2048 Step.End)) c.read_text.ensures
