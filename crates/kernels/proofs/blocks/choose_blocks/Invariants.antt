use Rattle.std.proofs.Common.{◌≡◌, ℕ, ◌<◌, ◌≤◌}
use Rattle.kernels.specs.Blocks.{at, ChosenFloat}
use Rattle.kernels.proofs.blocks.choose_blocks.Given as goal

-- done below k, and from there on as it was
abbrev pub invariant-loop-k : goal.invariant-loop-k
invariant-loop-k l =
    ((j : ℕ) → j < l.k → ChosenFloat (at l.initial.block j) (at l.left j) (at l.right j) (at l.block j)) × ((j : ℕ) → l.k ≤ j → at l.block j ≡ at l.initial.block j)
