use Rattle.std.proofs.Common.{refl}
use Rattle.numbers.proofs.Floated.{made_sub}
use Rattle.numbers.proofs.operators.DifferenceOnTwo.apply.Goals as goal

pub returns : goal.returns
returns c = made_sub refl
