use Rattle.std.proofs.Common.{arith}
use Rattle.semantics.specs.Arrays.{part_array}
use Rattle.encoding.specs.ShapeOf.{shape_of}
use Rattle.reference.proofs.Measures.{shape_few}
use Rattle.reference.proofs.Slicing.{slices_length}
use Rattle.reference.proofs.Tables.{made_shaped}
use Rattle.reference.proofs.restructure.part.Goals as goal

pub slice_shape-requires : goal.slice_shape-requires
slice_shape-requires c =
    let s = c.args.array.now.shape in
    omega (arith, slices_length c.args.slices.now (shape_of s) c.requires.fits, shape_few s)

pub returns : goal.returns
unfolding part_array
returns c = made_shaped c.tabulate.result _ c.slice_shape.ensures c.tabulate.ensures
