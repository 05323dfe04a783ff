use Rattle.memory.proofs.Gathering.{gathered_carries, gathered_packed}
use Rattle.memory.proofs.packing.pack.Goals as goal

pub returns : goal.returns
returns c = record { carries = gathered_carries c.loop-k.invariant c.in_default.ensures; owned = c.loop-k.invariant.owned; packed = gathered_packed c.loop-k.invariant }
