use Rattle.std.proofs.Common.{refl}
use Rattle.numbers.proofs.Floated.{made_add}
use Rattle.numbers.proofs.operators.SumOnTwo.apply.Goals as goal

pub returns : goal.returns
returns c = made_add refl
