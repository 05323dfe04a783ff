use Rattle.semantics.proofs.Examples.{examples_come_out}
use Rattle.semantics.proofs.laws.examples.examples_come_out_stands.Goals as goal

pub returns : goal.returns
returns c = examples_come_out
