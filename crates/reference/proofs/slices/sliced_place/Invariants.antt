use Rattle.semantics.specs.Parts.{places_of}
use Rattle.reference.specs.IndicesOf.{indices_of}
use Rattle.semantics.specs.Slices.{parts_of}
use Rattle.encoding.proofs.Filling.{Filled}
use Rattle.reference.proofs.slices.sliced_place.Given as goal

abbrev pub invariant-loop-k : goal.invariant-loop-k
invariant-loop-k l = Filled l.k l.indices (places_of (parts_of l.slices) (indices_of l.place))
