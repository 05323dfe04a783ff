use Rattle.semantics.proofs.Strides.{dot_turned}
use Rattle.semantics.proofs.laws.orders.turned_strides_stands.Goals as goal

pub returns : goal.returns
returns c = dot_turned
