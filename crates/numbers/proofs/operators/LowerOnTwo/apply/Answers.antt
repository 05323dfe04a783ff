use Rattle.numbers.proofs.Floated.{made_less}
use Rattle.numbers.proofs.operators.LowerOnTwo.apply.Goals as goal

pub returns : goal.returns
returns c = made_less c.flag_float.ensures
