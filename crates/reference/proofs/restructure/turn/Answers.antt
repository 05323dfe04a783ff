use Rattle.semantics.specs.Arrays.{turn_array}
use Rattle.reference.proofs.Tables.{made_shaped}
use Rattle.reference.proofs.restructure.turn.Goals as goal

pub returns : goal.returns
unfolding turn_array
returns c = made_shaped c.tabulate.result _ c.transposed-shape.ensures c.tabulate.ensures
