use Rattle.memory.proofs.Sliding.{Sliding}
use Rattle.memory.proofs.packing.shift_holders.Given as goal

abbrev pub invariant-loop-slot : goal.invariant-loop-slot
invariant-loop-slot l = Sliding l.low l.high l.to l.initial.names l.names l.slot-index
