use Rattle.std.proofs.Common.{arith}
use Rattle.semantics.specs.Shapes.{size}
use Rattle.semantics.specs.Arrays.{constant_array}
use Rattle.reference.proofs.create.constant.Goals as goal

pub tabulate-requires : goal.tabulate-requires
unfolding size
tabulate-requires c = record { small = omega arith; sourced = λ is h. tt }

pub returns : goal.returns
unfolding constant_array
returns c = c.tabulate.ensures
