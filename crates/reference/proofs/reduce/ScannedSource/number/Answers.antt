use Rattle.std.proofs.Common.{◌<◌, get_or, arith}
use Rattle.semantics.proofs.Places.{inside_in, in_inside, length_inside, get_d_inside}
use Rattle.encoding.specs.ShapeOf.{shape_of}
use Rattle.reference.proofs.Axes.{inside_along}
use Rattle.reference.proofs.reduce.ScannedSource.number.Goals as goal

pub index_along-index-requires : goal.index_along-index-requires
index_along-index-requires c = record { there = omega (arith, c.requires.0, length_inside (inside_in _ _ c.requires.1)) }

pub accumulate-requires : goal.accumulate-requires
accumulate-requires c =
    let s = shape_of c.args.self.now.array.now.shape in
    let x = c.args.self.now.axis in
    let i = inside_in _ _ c.requires.1 in
    let low = get_d_inside x i c.requires.0 in
    record {
      few = omega arith;
      there = omega (arith, c.requires.0, length_inside i);
      inside = λ j h. let l : j < get_or s x 0 = omega arith in in_inside (inside_along x j i l);
    }
