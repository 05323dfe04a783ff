use Rattle.std.proofs.Common.{◌≡◌, ◌+◌, set, ap, ◌∙◌, arith}
use Rattle.semantics.specs.Arrays.{join_length}
use Rattle.encoding.specs.ShapeOf.{shape_of}
use Rattle.reference.specs.ArrayOf.{array_of}
use Rattle.reference.proofs.Joining.{joins_from, join_length_is}
use Rattle.reference.proofs.concat.joined_shape.Goals as goal

pub axis_length-requires-2 : goal.axis_length-requires-2
axis_length-requires-2 c =
    let j = joins_from c.args.axis (array_of c.args.left.now) (array_of c.args.right.now) c.requires.fits in
    record { there = omega (arith, j.ranks, c.requires.there) }

pub overflow_add-len : goal.overflow_add-len
overflow_add-len c =
    let j = joins_from c.args.axis (array_of c.args.left.now) (array_of c.args.right.now) c.requires.fits in
    omega (arith, j.fits)

pub returns : goal.returns
returns c =
    let s = shape_of c.args.left.now.shape in
    let e = join_length_is c.args.axis (array_of c.args.left.now) (array_of c.args.right.now) in
    let total : c.axis_length.result + c.axis_length-2.result ≡ join_length c.args.axis (array_of c.args.left.now) (array_of c.args.right.now) = omega arith in
    c.with_length.ensures ∙ ap (λ n. set s c.args.axis n) total
