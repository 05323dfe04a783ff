use Rattle.std.proofs.Common.{◌+◌, arith}
use Rattle.program.proofs.Nodes.{length_from}
use Rattle.program.proofs.steps.StepsIterator.next.Goals as goal

pub returns-clause-goes : goal.returns-clause-goes
returns-clause-goes c =
    let ws = c.args.self.now.words.now in
    let i = c.args.self.now.node in
    let there = c.in_ok-step.ensures.there in
    record {
      on = λ _. (tt, tt, omega (arith, there, length_from ws i, length_from ws (i + 1)));
      keeps = tt;
      rests = λ _. tt;
    }
