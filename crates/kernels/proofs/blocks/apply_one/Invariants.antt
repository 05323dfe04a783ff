use Rattle.std.proofs.Common.{◌≡◌, ℕ, ◌<◌, ◌≤◌}
use Rattle.numbers.specs.Standing.{MadeOfOne}
use Rattle.kernels.specs.Blocks.{at}
use Rattle.kernels.proofs.blocks.apply_one.Given as goal

-- done below k, and from there on as it was
abbrev pub invariant-loop-x : goal.invariant-loop-x
invariant-loop-x g l =
    ((j : ℕ) → j < l.x-index → MadeOfOne g.O.OnOne.name (at l.initial.block j) (at l.block j)) × ((j : ℕ) → l.x-index ≤ j → at l.block j ≡ at l.initial.block j)
