use Rattle.std.proofs.Common.{◌≡◌, ◌+◌, ◌-◌, ◌*◌, ◌<◌, ◌≤◌, ◌⊎◌, length}
use Rattle.program.specs.Words.{steps_in}
use Rattle.program.specs.Standing.{steps_from}
use Rattle.program.specs.Behind.{behind}
use Rattle.program.proofs.words.find_behind.Given as goal

abbrev pub invariant-loop-wanted : goal.invariant-loop-wanted
invariant-loop-wanted l = record {
  same_words : l.steps.words.now ≡ l.words;
  behind_same : behind 1 (steps_from l.words l.node) ≡ behind l.wanted (steps_from l.words l.steps.node);
  few_wanted : l.wanted + 2 * l.node ≤ 1 + 2 * l.steps.node;
  within : ((l.steps.node ≡ l.node) × (l.wanted ≡ 1)) ⊎ ((l.node < l.steps.node) × (l.steps.node ≤ length (steps_in l.words)));
}

abbrev pub decreases-loop-wanted : goal.decreases-loop-wanted
decreases-loop-wanted l = length (steps_in l.steps.words.now) - l.steps.node
