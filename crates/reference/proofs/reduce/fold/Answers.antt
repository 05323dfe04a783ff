use Rattle.semantics.specs.Arrays.{fold_array}
use Rattle.reference.proofs.Tables.{made_shaped}
use Rattle.reference.proofs.reduce.fold.Goals as goal

pub returns : goal.returns
unfolding fold_array
returns c = made_shaped c.tabulate.result _ c.remove_axis-shape.ensures c.tabulate.ensures
