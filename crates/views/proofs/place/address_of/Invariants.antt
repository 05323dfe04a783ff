use Rattle.std.proofs.Common.{◌≡◌, length, drop, ◌+ℤ◌}
use Rattle.semantics.specs.OrderLaws.{dot}
use Rattle.encoding.specs.ShapeOf.{shape_of}
use Rattle.views.specs.Walking.{Walks}
use Rattle.views.specs.Views.{address}
use Rattle.views.proofs.place.address_of.Given as goal

abbrev pub invariant-loop-stride : goal.invariant-loop-stride
invariant-loop-stride l =
    Walks l.fn.view.low l.fn.view.high (drop (length l.yielded) (shape_of l.fn.view.shape)) (drop (length l.yielded) l.fn.view.strides) l.at
    × (l.at +ℤ dot (drop (length l.yielded) l.fn.view.strides) (drop (length l.yielded) l.fn.place) ≡ address l.fn.view l.fn.place)
