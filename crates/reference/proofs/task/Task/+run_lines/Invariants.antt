use Rattle.std.proofs.Common.{◌-◌, length}
use Rattle.program.specs.Words.{steps_in}
use Rattle.reference.proofs.Lining.{LinesAt, Rounds}
use Rattle.reference.proofs.task.Task.+run_lines.Given as goal

abbrev pub invariant-loop-step : goal.invariant-loop-step
invariant-loop-step l = LinesAt l.self.words.now l.self.inputs.now l.self.places l.node l.at l.initial.state l.state

abbrev pub decreases-loop-step : goal.decreases-loop-step
decreases-loop-step l = length (steps_in l.self.words.now) - l.at

abbrev pub invariant-loop-i : goal.invariant-loop-i
invariant-loop-i l = Rounds l.self.words.now l.self.inputs.now l.self.places l.at l.at l.count l.i l.initial.state l.state

abbrev pub decreases-run_lines : goal.decreases-run_lines
decreases-run_lines l = length (steps_in l.self.now.words.now) - l.node
