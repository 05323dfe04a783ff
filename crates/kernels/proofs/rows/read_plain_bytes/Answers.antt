use Rattle.std.proofs.Common.{◌+◌, ◌*◌, ◌<◌, length, sym, ◌∙◌, arith}
use lib.Ieee.{nan}
use Rattle.encoding.specs.Words.{word8}
use Rattle.encoding.specs.Format.{number_at}
use Rattle.numbers.specs.Standing.{StandsFor}
use Rattle.numbers.proofs.Plainly.{no_nan_canonical}
use Rattle.kernels.proofs.Turns.{set_below}
use Rattle.kernels.proofs.Readings.{stands_to}
use Rattle.kernels.proofs.rows.read_plain_bytes.Goals as goal

pub loop-i-preserved : goal.loop-i-preserved
unfolding number_at
loop-i-preserved c =
    let i = c.loop-i.i in
    let bytes = c.args.bytes.now in
    let base = c.args.base in
    let l : i < length c.loop-i.out = omega arith in
    set_below nan (λ j y. StandsFor y (number_at bytes (base + 8 * j))) c.loop-i.out i c.plain_float.result l c.loop-i.invariant
    (stands_to (c.word_at.ensures ∙ sym (no_nan_canonical (word8 bytes (base + 8 * i)) (c.requires.plain i (omega arith)))) c.plain_float.ensures)
