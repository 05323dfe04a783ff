use Rattle.std.proofs.Common.{◌<◌, length, get_or, arith}
use lib.Ieee.{nan}
use Rattle.numbers.specs.Standing.{StandsFor}
use Rattle.kernels.proofs.Turns.{set_below}
use Rattle.kernels.proofs.rows.read_patterns.Goals as goal

pub loop-i-preserved : goal.loop-i-preserved
loop-i-preserved c =
    let l : c.loop-i.i < length c.loop-i.out = omega arith in
    set_below nan (λ j y. StandsFor y (get_or c.args.words.now j 0)) c.loop-i.out c.loop-i.i c.float_of.result l c.loop-i.invariant c.float_of.ensures
