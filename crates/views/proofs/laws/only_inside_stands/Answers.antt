use Rattle.views.proofs.Keeping.{only_inside}
use Rattle.views.proofs.laws.only_inside_stands.Goals as goal

pub returns : goal.returns
returns c = only_inside
