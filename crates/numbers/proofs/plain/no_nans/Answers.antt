use Rattle.std.proofs.Common.{below_more}
use Rattle.numbers.proofs.plain.no_nans.Goals as goal

pub loop-a-preserved : goal.loop-a-preserved
loop-a-preserved c clear = below_more _ _ (c.loop-a.invariant (c.look-seen.ensures.before clear)) (c.look-seen.ensures.here clear)
