use Rattle.memory.specs.Sums.{sum_of}
use Rattle.memory.specs.Packing.{unsettled}
use Rattle.memory.proofs.Gathering.{Gathered}
use Rattle.memory.proofs.packing.pack.Given as goal

abbrev pub invariant-loop-k : goal.invariant-loop-k
invariant-loop-k l = Gathered l.initial.area l.area l.initial.memory l.memory l.to

abbrev pub decreases-loop-k : goal.decreases-loop-k
decreases-loop-k l = sum_of (unsettled l.to) l.memory.names
