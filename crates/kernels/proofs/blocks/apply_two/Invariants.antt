use Rattle.std.proofs.Common.{◌≡◌, ℕ, ◌<◌, ◌≤◌}
use Rattle.numbers.specs.Standing.{MadeOfTwo}
use Rattle.kernels.specs.Blocks.{at}
use Rattle.kernels.proofs.blocks.apply_two.Given as goal

-- done below k, and from there on as it was
abbrev pub invariant-loop-k : goal.invariant-loop-k
invariant-loop-k g l =
    ((j : ℕ) → j < l.k → MadeOfTwo g.O.OnTwo.name (at l.initial.left j) (at l.right j) (at l.left j)) × ((j : ℕ) → l.k ≤ j → at l.left j ≡ at l.initial.left j)
