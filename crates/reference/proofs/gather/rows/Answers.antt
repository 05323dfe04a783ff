use Rattle.semantics.specs.Arrays.{rows_array}
use Rattle.reference.proofs.Tables.{made_shaped}
use Rattle.reference.proofs.gather.rows.Goals as goal

pub returns : goal.returns
unfolding rows_array
returns c = made_shaped c.tabulate.result _ c.in-Some.ensures c.tabulate.ensures
