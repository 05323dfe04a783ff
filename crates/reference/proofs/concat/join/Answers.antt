use Rattle.semantics.specs.Arrays.{join_array}
use Rattle.reference.proofs.Tables.{made_shaped}
use Rattle.reference.proofs.concat.join.Goals as goal

pub returns : goal.returns
unfolding join_array
returns c = made_shaped c.tabulate.result _ c.joined_shape-shape.ensures c.tabulate.ensures
