use Rattle.semantics.proofs.Strides.{size_turned}
use Rattle.semantics.proofs.laws.orders.turned_size_stands.Goals as goal

pub returns : goal.returns
returns c = size_turned
