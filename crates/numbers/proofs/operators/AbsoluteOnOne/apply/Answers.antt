use Rattle.numbers.proofs.Floated.{made_abs}
use Rattle.numbers.proofs.operators.AbsoluteOnOne.apply.Goals as goal

pub returns : goal.returns
returns c = made_abs c.abs.ensures.value
