use Rattle.std.proofs.Common.{take}
use Rattle.semantics.specs.Broadcast.{narrow}
use Rattle.encoding.proofs.Filling.{Filled}
use Rattle.reference.proofs.broadcast.narrow_place.Given as goal

abbrev pub invariant-loop-k : goal.invariant-loop-k
invariant-loop-k l = Filled l.k l.indices (narrow (take l.shape.rank l.shape.lens) (take l.place.rank l.place.indices))
