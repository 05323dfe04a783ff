use Rattle.std.proofs.Common.{refl}
use Rattle.numbers.proofs.Floated.{made_div}
use Rattle.numbers.proofs.operators.QuotientOnTwo.apply.Goals as goal

pub returns : goal.returns
returns c = made_div refl
