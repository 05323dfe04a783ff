use Rattle.std.proofs.Common.{◌<◌, length, subst, arith}
use lib.Ieee.{nan}
use Rattle.kernels.specs.Blocks.{at, ChosenFloat}
use Rattle.kernels.proofs.Turns.{set_below, set_behind}
use Rattle.kernels.proofs.blocks.choose_blocks.Goals as goal

pub loop-k-preserved : goal.loop-k-preserved
loop-k-preserved c =
    let k = c.loop-k.k in
    let l : k < length c.loop-k.block = omega arith in
    let old = c.args.block.now in
    let left = c.args.left.now in
    let right = c.args.right.now in
    let x = c.choose_float.result in (
      set_below nan (λ j y. ChosenFloat (at old j) (at left j) (at right j) y) c.loop-k.block k x l c.loop-k.invariant.0
          (subst (λ y. ChosenFloat y (at left k) (at right k) x) (c.loop-k.invariant.1 k (omega arith)) c.choose_float.ensures),
      set_behind nan c.loop-k.block old k x c.loop-k.invariant.1,
    )
