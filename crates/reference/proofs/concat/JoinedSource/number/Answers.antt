use Rattle.std.proofs.Common.{sym, subst, arith}
use Rattle.semantics.specs.Shapes.{In}
use Rattle.encoding.specs.ShapeOf.{shape_of}
use Rattle.reference.specs.ArrayOf.{array_of}
use Rattle.reference.specs.IndicesOf.{indices_of}
use Rattle.reference.proofs.Joining.{axis_there, in_left, in_right}
use Rattle.reference.proofs.concat.JoinedSource.number.Goals as goal

pub index_along-index-requires : goal.index_along-index-requires
index_along-index-requires c =
    let s = c.args.self.now in
    record { there = axis_there s.axis (array_of s.left.now) (array_of s.right.now) (indices_of c.args.place.now) c.requires.0 c.requires.1 c.requires.2 }

pub get-requires : goal.get-requires
get-requires c =
    let s = c.args.self.now in
    record { inside = in_left s.axis (array_of s.left.now) (array_of s.right.now) (indices_of c.args.place.now) c.requires.0 c.requires.1 c.requires.2 (omega arith) }

pub with_index-requires : goal.with_index-requires
with_index-requires c =
    let s = c.args.self.now in
    record { there = axis_there s.axis (array_of s.left.now) (array_of s.right.now) (indices_of c.args.place.now) c.requires.0 c.requires.1 c.requires.2 }

pub get-requires-else-index-len : goal.get-requires-else-index-len
get-requires-else-index-len c =
    let s = c.args.self.now in
    record {
      inside = subst (λ is. In (shape_of s.right.now.shape) is) (sym c.with_index.ensures)
          (in_right s.axis (array_of s.left.now) (array_of s.right.now) (indices_of c.args.place.now) c.requires.0 c.requires.1 c.requires.2 _ (omega arith) (omega arith));
    }
