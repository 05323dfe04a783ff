use Rattle.std.proofs.Common.{◌≡◌, ℕ, ◌<◌, ◌≤◌}
use Rattle.numbers.specs.Operations.{binary64}
use Rattle.numbers.specs.Standing.{StandsFor}
use Rattle.kernels.specs.Blocks.{at}
use Rattle.kernels.specs.Operands.{Gives}
use Rattle.kernels.proofs.combining.combine_two.Given as goal

-- done below k, and from there on as it was
abbrev pub invariant-loop-k : goal.invariant-loop-k
invariant-loop-k g l =
    ((j : ℕ) → j < l.k → (a b : ℕ) → Gives (g.F.Feed.operand l.left) l.lent.area.now l.lent.bytes.now j (at l.initial.out j) a → Gives (g.G.Feed.operand l.right) l.lent.area.now l.lent.bytes.now j (at l.initial.out j) b →
    StandsFor (at l.out j) (binary64.two g.O.OnTwo.name a b))
    × ((j : ℕ) → l.k ≤ j → at l.out j ≡ at l.initial.out j)
