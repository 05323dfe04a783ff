use Rattle.std.proofs.Common.{ℕ, ◌<◌, get_or}
use Rattle.numbers.specs.Standing.{StandsFor}
use Rattle.kernels.specs.Blocks.{at}
use Rattle.kernels.proofs.rows.read_patterns.Given as goal

abbrev pub invariant-loop-i : goal.invariant-loop-i
invariant-loop-i l = (j : ℕ) → j < l.i → StandsFor (at l.out j) (get_or l.words j 0)
