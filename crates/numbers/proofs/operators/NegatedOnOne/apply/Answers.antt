use Rattle.numbers.proofs.Floated.{made_not}
use Rattle.numbers.proofs.operators.NegatedOnOne.apply.Goals as goal

pub returns : goal.returns
returns c = made_not c.truth_of.ensures c.flag_float.ensures
