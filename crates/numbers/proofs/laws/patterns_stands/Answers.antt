use Rattle.numbers.proofs.Written.{only_patterns}
use Rattle.numbers.proofs.laws.patterns_stands.Goals as goal

pub returns : goal.returns
returns c = only_patterns
