use Rattle.std.proofs.Common.{◌-◌, length}
use Rattle.program.specs.Words.{steps_in}
use Rattle.kernels.proofs.trees.+fill.Given as goal

abbrev pub decreases-fill : goal.decreases-fill
decreases-fill l = length (steps_in l.env.now.words.now) - l.node
