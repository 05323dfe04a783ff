use Rattle.numbers.proofs.Floated.{made_same}
use Rattle.numbers.proofs.operators.EqualOnTwo.apply.Goals as goal

pub returns : goal.returns
returns c = made_same c.flag_float.ensures
