use Rattle.std.proofs.Common.{◌≡◌, ℕ, ◌<◌, get_or}
use Rattle.numbers.specs.Patterns.{Pattern}
use Rattle.numbers.specs.Standing.{StandsFor}
use Rattle.kernels.specs.Blocks.{at}
use Rattle.kernels.proofs.storing.write_block.Given as goal

abbrev pub invariant-loop-i : goal.invariant-loop-i
invariant-loop-i l = (j : ℕ) → j < l.i → (a : ℕ) → StandsFor (at l.block j) a → Pattern a → get_or l.out j 0 ≡ a
