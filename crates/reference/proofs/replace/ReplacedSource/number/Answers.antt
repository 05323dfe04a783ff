use Rattle.std.proofs.Common.{false, sym, subst, arith}
use Rattle.semantics.proofs.Places.{inside_in, length_inside}
use Rattle.encoding.specs.ShapeOf.{shape_of}
use Rattle.semantics.specs.declared.slice.Slice.{Slice}
use Rattle.reference.specs.ArrayOf.{array_of}
use Rattle.reference.specs.Broadcasts.{Reaches}
use Rattle.reference.specs.IndicesOf.{indices_of}
use Rattle.semantics.specs.Slices.{parts_of}
use Rattle.reference.proofs.Replacing.{put_reaches}
use Rattle.reference.proofs.Slicing.{slices_length, stepping_from}
use Rattle.reference.proofs.replace.ReplacedSource.number.Goals as goal

-- what a read of no slice would give
abbrev none : Slice
none = record { from = 0; backward = false; step = 0; many = 0 }

pub in_slices-requires : goal.in_slices-requires
in_slices-requires c =
    let xs = c.args.self.now.slices.now in
    let s = shape_of c.args.self.now.array.now.shape in
    record { steps = stepping_from none xs s c.requires.0; axes = omega (arith, slices_length xs s c.requires.0, length_inside (inside_in _ _ c.requires.2)) }

pub unsliced_place-requires : goal.unsliced_place-requires
unsliced_place-requires c =
    let xs = c.args.self.now.slices.now in
    let s = shape_of c.args.self.now.array.now.shape in
    record { steps = stepping_from none xs s c.requires.0; axes = omega (arith, slices_length xs s c.requires.0, length_inside (inside_in _ _ c.requires.2)) }

pub get_narrow-requires : goal.get_narrow-requires
get_narrow-requires c =
    let b = c.args.self.now.values.now in
    let ps = parts_of c.args.self.now.slices.now in
    record {
      reaches = subst (λ is. Reaches (shape_of b.shape) is) (sym c.unsliced_place.ensures)
          (put_reaches ps (array_of b) (indices_of c.args.place.now) c.requires.1 (sym c.if-in_slices.ensures));
    }
