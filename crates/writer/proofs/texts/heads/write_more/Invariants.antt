use Rattle.std.proofs.Common.{◌≡◌, ◌-◌, length}
use Rattle.program.specs.Words.{steps_in}
use Rattle.program.specs.Standing.{steps_from}
use Rattle.writer.specs.Overlay.{Left}
use Rattle.writer.specs.StepTexts.{more_text, behind_list}
use Rattle.writer.specs.Writes.{Passed}
use Rattle.writer.proofs.texts.heads.write_more.Given as goal

abbrev pub invariant-loop-step : goal.invariant-loop-step
invariant-loop-step l =
    Left l.initial.room l.initial.behind (more_text (steps_from l.words l.initial.next)) l.room l.behind (more_text (steps_from l.words l.next))
    × (behind_list (steps_from l.words l.next) ≡ behind_list (steps_from l.words l.initial.next))
    × Passed l.words l.initial.next l.initial.behind l.next l.behind

abbrev pub decreases-loop-step : goal.decreases-loop-step
decreases-loop-step l = length (steps_in l.words) - l.next
