use Rattle.std.proofs.Common.{◌≡◌, ◌-◌, ◌^◌, min, take}
use Rattle.semantics.specs.Shapes.{size}
use Rattle.reference.proofs.restructure.count_places.Given as goal

abbrev pub invariant-loop-len : goal.invariant-loop-len
invariant-loop-len l = l.places ≡ min (size (take l.len-index l.lens)) (2 ^ 64 - 1)
