use Rattle.semantics.specs.Parts.{which_one}
use Rattle.reference.specs.IndicesOf.{indices_of}
use Rattle.semantics.specs.Slices.{parts_of}
use Rattle.encoding.proofs.Filling.{Filled}
use Rattle.reference.proofs.slices.unsliced_place.Given as goal

abbrev pub invariant-loop-k : goal.invariant-loop-k
invariant-loop-k l = Filled l.k l.indices (which_one (parts_of l.slices) (indices_of l.place))
