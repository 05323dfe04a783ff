use Rattle.std.proofs.Common.{refl}
use Rattle.numbers.proofs.Floated.{made_mul}
use Rattle.numbers.proofs.operators.ProductOnTwo.apply.Goals as goal

pub returns : goal.returns
returns c = made_mul refl
