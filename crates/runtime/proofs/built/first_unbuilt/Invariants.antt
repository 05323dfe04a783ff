use Rattle.std.proofs.Common.{take}
use Rattle.runtime.specs.Built.{AllBuilt}
use Rattle.runtime.proofs.built.first_unbuilt.Given as goal

abbrev pub invariant-loop-k : goal.invariant-loop-k
invariant-loop-k l = AllBuilt (take l.k l.steps)
