use Rattle.std.proofs.Common.{◌∙◌}
use Rattle.reference.specs.ArrayOf.{array_of}
use Rattle.semantics.specs.Slices.{parts_of}
use Rattle.reference.proofs.Replacing.{put_as}
use Rattle.reference.proofs.replace.replaceable.Goals as goal

pub returns : goal.returns
returns c =
    c.eq.ensures
    ∙ put_as (parts_of c.args.slices.now) (array_of c.args.values.now) c.slice_shape-shape.result c.broadcast.result c.slice_shape-shape.ensures c.broadcast.ensures
