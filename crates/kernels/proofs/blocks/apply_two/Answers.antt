use Rattle.std.proofs.Common.{◌<◌, length, subst, arith}
use lib.Ieee.{nan}
use Rattle.numbers.specs.Standing.{MadeOfTwo}
use Rattle.kernels.specs.Blocks.{at}
use Rattle.kernels.proofs.Turns.{set_below, set_behind}
use Rattle.kernels.proofs.blocks.apply_two.Goals as goal

pub loop-k-preserved : goal.loop-k-preserved
loop-k-preserved g c =
    let k = c.loop-k.k in
    let l : k < length c.loop-k.left = omega arith in
    let op = g.O.OnTwo.name in
    let old = c.args.left.now in
    let right = c.args.right.now in (
      set_below nan (λ j x. MadeOfTwo op (at old j) (at right j) x) c.loop-k.left k c.apply.result l c.loop-k.invariant.0
          (subst (λ x. MadeOfTwo op x (at right k) c.apply.result) (c.loop-k.invariant.1 k (omega arith)) c.apply.ensures),
      set_behind nan c.loop-k.left old k c.apply.result c.loop-k.invariant.1,
    )
