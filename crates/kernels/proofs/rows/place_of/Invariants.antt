use Rattle.std.proofs.Common.{◌≡◌, ◌<◌, ◌++◌, length, take, drop}
use Rattle.semantics.specs.Shapes.{size, unflat}
use Rattle.encoding.specs.ShapeOf.{shape_of}
use Rattle.kernels.proofs.rows.place_of.Given as goal

-- the last axes are done, the rest is a number of the shape without them
abbrev pub invariant-loop-k : goal.invariant-loop-k
invariant-loop-k l =
    (l.rest < size (take l.k (shape_of l.shape)))
    × (unflat (shape_of l.shape) l.number ≡ unflat (take l.k (shape_of l.shape)) l.rest ++ drop l.k (take l.shape.rank l.place))
    × (length l.place ≡ 8)
