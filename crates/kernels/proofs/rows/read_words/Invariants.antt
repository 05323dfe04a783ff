use Rattle.std.proofs.Common.{ℕ, ◌<◌, []}
use Rattle.numbers.specs.Standing.{StandsFor}
use Rattle.views.specs.declared.view.Source.TheVariants.{Area}
use Rattle.kernels.specs.Blocks.{at}
use Rattle.kernels.specs.Reading.{along}
use Rattle.kernels.proofs.rows.read_words.Given as goal

abbrev pub invariant-loop-i : goal.invariant-loop-i
invariant-loop-i l = (j : ℕ) → j < l.i → StandsFor (at l.out j) (along Area l.area [] l.from l.stride j)
