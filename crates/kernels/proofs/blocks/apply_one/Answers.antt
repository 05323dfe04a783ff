use Rattle.std.proofs.Common.{◌<◌, length, subst, arith}
use lib.Ieee.{nan}
use Rattle.numbers.specs.Standing.{MadeOfOne}
use Rattle.kernels.specs.Blocks.{at}
use Rattle.kernels.proofs.Turns.{set_below, set_behind}
use Rattle.kernels.proofs.blocks.apply_one.Goals as goal

pub loop-x-preserved : goal.loop-x-preserved
loop-x-preserved g c =
    let k = c.loop-x.x-index in
    let l : k < length c.loop-x.block = omega arith in
    let op = g.O.OnOne.name in
    let old = c.args.block.now in (
      set_below nan (λ j x. MadeOfOne op (at old j) x) c.loop-x.block k c.apply.result l c.loop-x.invariant.0
          (subst (λ x. MadeOfOne op x c.apply.result) (c.loop-x.invariant.1 k (omega arith)) c.apply.ensures),
      set_behind nan c.loop-x.block old k c.apply.result c.loop-x.invariant.1,
    )
