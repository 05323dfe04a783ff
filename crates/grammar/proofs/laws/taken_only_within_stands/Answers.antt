use Rattle.grammar.proofs.OnlyWithin.{taken_only_within}
use Rattle.grammar.proofs.laws.taken_only_within_stands.Goals as goal

pub returns : goal.returns
returns c = taken_only_within
