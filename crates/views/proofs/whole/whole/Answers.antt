use Rattle.std.proofs.Common.{refl, arith}
use Rattle.encoding.specs.ShapeOf.{shape_of}
use Rattle.views.proofs.Seeing.{whole_good}
use Rattle.views.proofs.whole.whole.Goals as goal

pub returns : goal.returns
returns c = whole_good c.args.source c.args.first (shape_of c.args.shape) _ c.requires refl c.contiguous.ensures refl refl (omega arith) refl
