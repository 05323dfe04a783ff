use Rattle.std.proofs.Common.{sym}
use Rattle.runtime.proofs.Building.{built_more, built_all, take_none}
use Rattle.runtime.proofs.built.first_unbuilt.Goals as goal

pub loop-k-init : goal.loop-k-init
loop-k-init c = take_none c.args.steps.now

pub loop-k-preserved : goal.loop-k-preserved
loop-k-preserved c = built_more c.args.steps.now c.loop-k.k c.loop-k-test.true (sym c.if-not-is_built.ensures) c.loop-k.invariant

pub returns : goal.returns
returns c = built_all c.args.steps.now c.loop-k.k c.loop-k-test.false c.loop-k.invariant
