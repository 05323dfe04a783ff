use Rattle.std.proofs.Common.{◌-◌, length}
use Rattle.program.specs.Words.{steps_in}
use Rattle.runtime.proofs.plan.+plan.Given as goal

abbrev pub decreases-plan : goal.decreases-plan
decreases-plan l = length (steps_in l.words.now) - l.node
