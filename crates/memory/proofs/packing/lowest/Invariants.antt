use Rattle.std.proofs.Common.{MatchOption}
use Rattle.memory.proofs.Finding.{Under, First}
use Rattle.memory.proofs.packing.lowest.Given as goal

abbrev pub invariant-loop-k : goal.invariant-loop-k
invariant-loop-k l = MatchOption l.best (Under l.names l.to l.k) (First l.names l.to l.k)
