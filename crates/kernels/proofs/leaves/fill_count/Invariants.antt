use Rattle.std.proofs.Common.{◌≡◌, ℕ, ◌+◌, ◌%◌, ◌<◌}
use Rattle.numbers.specs.Operations.{binary64}
use Rattle.numbers.specs.Standing.{StandsFor}
use Rattle.kernels.specs.Blocks.{at}
use Rattle.kernels.proofs.leaves.fill_count.Given as goal

abbrev pub invariant-loop-x : goal.invariant-loop-x
invariant-loop-x l =
    (l.index ≡ (l.first + l.x-index) % l.len) × ((k : ℕ) → k < l.x-index → StandsFor (at l.out k) (binary64.of ((l.first + k) % l.len)))
