use Rattle.std.proofs.Common.{◌≡◌, take}
use Rattle.semantics.specs.Shapes.{flat}
use Rattle.reference.proofs.place.numbering.flatten.Given as goal

abbrev pub invariant-loop-k : goal.invariant-loop-k
invariant-loop-k l = l.number ≡ flat (take l.k l.shape.lens) (take l.k l.place.indices)
