use Rattle.semantics.specs.Arrays.{scan_array}
use Rattle.reference.proofs.reduce.scan.Goals as goal

pub returns : goal.returns
unfolding scan_array
returns c = c.tabulate.ensures
