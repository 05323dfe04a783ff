use Rattle.std.proofs.Common.{◌-◌, length}
use Rattle.program.specs.Words.{steps_in}
use Rattle.runtime.proofs.Running.{LinesAt}
use Rattle.runtime.proofs.run.run_lines.Given as goal

abbrev pub invariant-loop-step : goal.invariant-loop-step
invariant-loop-step l = LinesAt l.words l.inputs (length l.initial.area) l.at l.shown l.area l.memory l.initial.room l.room l.scratch

abbrev pub decreases-loop-step : goal.decreases-loop-step
decreases-loop-step l = length (steps_in l.words) - l.at
