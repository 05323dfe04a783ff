use Rattle.reader.proofs.Writing.{Storing}
use Rattle.reader.proofs.programs.write_steps.Given as goal

abbrev pub invariant-loop-k : goal.invariant-loop-k
invariant-loop-k l = Storing l.initial.words l.words l.n l.k l.steps l.places
