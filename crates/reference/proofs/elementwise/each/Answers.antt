use Rattle.semantics.specs.Arrays.{each_array}
use Rattle.reference.proofs.elementwise.each.Goals as goal

pub returns : goal.returns
unfolding each_array
returns c = c.tabulate.ensures
