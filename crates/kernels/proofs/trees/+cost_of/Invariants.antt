use Rattle.std.proofs.Common.{◌-◌, length}
use Rattle.program.specs.Words.{steps_in}
use Rattle.kernels.proofs.trees.+cost_of.Given as goal

abbrev pub decreases-cost_of : goal.decreases-cost_of
decreases-cost_of l = length (steps_in l.words.now) - l.node
