use Rattle.std.proofs.Common.{◌+◌, ◌*◌, ◌<◌, length, ap, ◌∙◌, arith}
use lib.Ieee.{nan}
use Rattle.encoding.specs.Format.{number_at}
use Rattle.numbers.specs.Binary64.{canonical_bits}
use Rattle.numbers.specs.Standing.{StandsFor}
use Rattle.kernels.proofs.Turns.{set_below}
use Rattle.kernels.proofs.Readings.{stands_to}
use Rattle.kernels.proofs.rows.read_any_bytes.Goals as goal

pub loop-i-preserved : goal.loop-i-preserved
unfolding number_at
loop-i-preserved c =
    let i = c.loop-i.i in
    let l : i < length c.loop-i.out = omega arith in
    set_below nan (λ j y. StandsFor y (number_at c.args.bytes.now (c.args.base + 8 * j))) c.loop-i.out i c.float_of.result l c.loop-i.invariant
    (stands_to (c.canonical.ensures ∙ ap canonical_bits c.word_at.ensures) c.float_of.ensures)
