use Rattle.std.proofs.Common.{arith}
use Rattle.semantics.proofs.Axes.{place_below}
use Rattle.semantics.specs.Slices.{part_of}
use Rattle.reference.proofs.slices.sliced_index.Goals as goal

pub unreachable-requires : goal.unreachable-requires
unreachable-requires c = let low = place_below (part_of c.args.slice) c.args.len c.args.index c.requires.fits c.requires.inside in omega arith
