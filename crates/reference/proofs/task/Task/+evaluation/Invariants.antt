use Rattle.std.proofs.Common.{◌+◌, ◌-◌, ◌*◌, length}
use Rattle.program.specs.Words.{steps_in}
use Rattle.reference.proofs.task.Task.+evaluation.Given as goal

abbrev pub decreases-evaluate : goal.decreases-evaluate
decreases-evaluate l = (length (steps_in l.self.now.words.now) - l.node) * 2 + 1

abbrev pub decreases-evaluate_one : goal.decreases-evaluate_one
decreases-evaluate_one l = (length (steps_in l.self.now.words.now) - l.node) * 2

abbrev pub decreases-evaluate_three : goal.decreases-evaluate_three
decreases-evaluate_three l = (length (steps_in l.self.now.words.now) - l.node) * 2

abbrev pub decreases-evaluate_two : goal.decreases-evaluate_two
decreases-evaluate_two l = (length (steps_in l.self.now.words.now) - l.node) * 2
