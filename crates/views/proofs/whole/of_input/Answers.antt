use Rattle.views.proofs.Seeing.{input_holds}
use Rattle.views.proofs.whole.of_input.Goals as goal

pub returns : goal.returns
returns c = record { whole = c.whole.ensures; holds = input_holds c.whole.ensures }
