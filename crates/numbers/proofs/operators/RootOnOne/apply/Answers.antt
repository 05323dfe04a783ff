use Rattle.numbers.proofs.Floated.{made_sqrt}
use Rattle.numbers.proofs.operators.RootOnOne.apply.Goals as goal

pub returns : goal.returns
returns c = made_sqrt c.sqrt.ensures.value
