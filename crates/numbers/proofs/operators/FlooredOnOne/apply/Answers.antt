use Rattle.numbers.proofs.Floated.{made_floor}
use Rattle.numbers.proofs.operators.FlooredOnOne.apply.Goals as goal

pub returns : goal.returns
returns c = made_floor c.floor.ensures
