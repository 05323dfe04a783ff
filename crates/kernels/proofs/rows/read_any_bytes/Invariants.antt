use Rattle.std.proofs.Common.{ℕ, ◌+◌, ◌*◌, ◌<◌}
use Rattle.encoding.specs.Format.{number_at}
use Rattle.numbers.specs.Standing.{StandsFor}
use Rattle.kernels.specs.Blocks.{at}
use Rattle.kernels.proofs.rows.read_any_bytes.Given as goal

abbrev pub invariant-loop-i : goal.invariant-loop-i
invariant-loop-i l = (j : ℕ) → j < l.i → StandsFor (at l.out j) (number_at l.bytes (l.base + 8 * j))
