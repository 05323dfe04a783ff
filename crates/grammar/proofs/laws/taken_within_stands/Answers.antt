use Rattle.grammar.proofs.Within.{taken_within}
use Rattle.grammar.proofs.laws.taken_within_stands.Goals as goal

pub returns : goal.returns
returns c = taken_within
