use Rattle.views.proofs.Seeing.{laid_holds}
use Rattle.views.proofs.whole.of_buffer.Goals as goal

pub returns : goal.returns
returns c = record { whole = c.whole.ensures; holds = laid_holds c.whole.ensures }
