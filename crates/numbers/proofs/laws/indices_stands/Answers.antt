use Rattle.numbers.proofs.Indexed.{indices}
use Rattle.numbers.proofs.laws.indices_stands.Goals as goal

pub returns : goal.returns
returns c = indices
