use Rattle.std.proofs.Common.{◌≡◌, drop}
use Rattle.semantics.specs.Parts.{in_parts}
use Rattle.reference.specs.IndicesOf.{indices_of}
use Rattle.semantics.specs.Slices.{parts_of}
use Rattle.reference.proofs.slices.in_slices.Given as goal

abbrev pub invariant-loop-k : goal.invariant-loop-k
invariant-loop-k l = in_parts (parts_of (drop l.k l.slices)) (drop l.k (indices_of l.place)) ≡ in_parts (parts_of l.slices) (indices_of l.place)
