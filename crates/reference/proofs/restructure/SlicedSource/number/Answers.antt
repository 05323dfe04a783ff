use Rattle.std.proofs.Common.{sym, subst}
use Rattle.semantics.specs.Shapes.{In}
use Rattle.semantics.proofs.Places.{inside_in, in_inside}
use Rattle.semantics.proofs.Inside.{inside_places_of}
use Rattle.encoding.specs.ShapeOf.{shape_of}
use Rattle.semantics.specs.Slices.{parts_of}
use Rattle.reference.proofs.restructure.SlicedSource.number.Goals as goal

pub get-requires : goal.get-requires
get-requires c =
    let s = shape_of c.args.self.now.array.now.shape in
    record { inside = subst (λ is. In s is) (sym c.sliced_place.ensures) (in_inside (inside_places_of (parts_of c.args.self.now.slices.now) s c.requires.0 (inside_in _ _ c.requires.1))) }
