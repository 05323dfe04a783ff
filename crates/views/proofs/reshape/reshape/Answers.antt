use Rattle.std.proofs.Common.{refl, arith}
use Rattle.encoding.specs.ShapeOf.{shape_of}
use Rattle.views.proofs.Packs.{packed_from, packed_small, reshape_sees, shape_holds}
use Rattle.views.proofs.reshape.reshape.Goals as goal

pub contiguous-requires : goal.contiguous-requires
contiguous-requires c = omega (arith, packed_small c.args.view c.requires.good c.requires.packed, c.requires.many)

pub returns : goal.returns
returns c =
    let s = shape_of c.args.shape in
    let sees = reshape_sees c.args.view _ s c.requires.good c.requires.packed c.requires.many refl c.contiguous.ensures refl refl refl refl in
    record { packed = packed_from _ c.contiguous.ensures; sees = sees; holds = λ area bs a h. shape_holds s h sees }
