-- The steps that an iterator has left, and what it gives next.
use Rattle.std.specs.Prelude.{◌≡◌, ◌+◌, ◌≤◌, List, length, Option, MatchOption}
use Rattle.program.specs.declared.step.Step.{Step}
use Rattle.program.specs.declared.steps.Steps.{Steps}
use Rattle.program.specs.Words.{steps_in, At}
use Rattle.program.specs.Standing.{steps_from}

abbrev pub steps_left : Steps → List Step
steps_left s = steps_from s.words.now s.node

-- the step at its node, and then it is one further; or none, where the node is past the last
abbrev pub Gives : Steps → Option Step → Steps → Type 0
Gives s r t =
    MatchOption r ((length (steps_in s.words.now) ≤ s.node) × (t ≡ s)) (λ x. At s.words.now s.node x × (t.words ≡ s.words) × (t.node ≡ s.node + 1))
