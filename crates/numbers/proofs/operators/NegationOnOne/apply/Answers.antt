use Rattle.std.proofs.Common.{refl}
use Rattle.numbers.proofs.Floated.{made_neg}
use Rattle.numbers.proofs.operators.NegationOnOne.apply.Goals as goal

pub returns : goal.returns
returns c = made_neg refl
