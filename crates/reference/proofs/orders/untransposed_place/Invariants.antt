use Rattle.semantics.specs.Orders.{turned_back}
use Rattle.reference.specs.IndicesOf.{indices_of}
use Rattle.encoding.proofs.Filling.{Filled}
use Rattle.reference.proofs.orders.untransposed_place.Given as goal

abbrev pub invariant-loop-k : goal.invariant-loop-k
invariant-loop-k l = Filled l.k l.indices (turned_back l.order (indices_of l.place))
