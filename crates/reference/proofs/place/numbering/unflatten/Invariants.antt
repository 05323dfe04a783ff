use Rattle.std.proofs.Common.{◌≡◌, ◌-◌, ◌<◌, ◌++◌, length, take, drop}
use Rattle.semantics.specs.Shapes.{size, unflat}
use Rattle.reference.proofs.place.numbering.unflatten.Given as goal

abbrev pub invariant-loop-k : goal.invariant-loop-k
invariant-loop-k l =
    (unflat (take l.k l.shape.lens) l.rest ++ take (l.rank - l.k) (drop l.k l.indices) ≡ unflat (take l.rank l.shape.lens) l.number)
    × (l.rest < size (take l.k l.shape.lens))
    × (length l.indices ≡ 8)
