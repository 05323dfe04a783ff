use Rattle.std.proofs.Common.{◌≡◌, ◌+◌, ◌-◌, ◌≤◌, length}
use Rattle.program.specs.Words.{steps_in}
use Rattle.program.specs.Standing.{steps_from}
use Rattle.program.specs.Closing.{closing}
use Rattle.program.proofs.words.find_end.Given as goal

abbrev pub invariant-loop-step : goal.invariant-loop-step
invariant-loop-step l = record {
  same_words : l.steps.words.now ≡ l.words;
  closes_same : closing 0 (steps_from l.words l.node) ≡ closing l.inside (steps_from l.words l.steps.node);
  few_inside : l.inside + l.node ≤ l.steps.node;
}

abbrev pub decreases-loop-step : goal.decreases-loop-step
decreases-loop-step l = length (steps_in l.steps.words.now) - l.steps.node
