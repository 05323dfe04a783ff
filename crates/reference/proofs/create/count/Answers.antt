use Rattle.std.proofs.Common.{mul-one, arith}
use Rattle.semantics.specs.Shapes.{size, In}
use Rattle.semantics.specs.Arrays.{count_array}
use Rattle.reference.proofs.create.count.Goals as goal

pub tabulate-requires : goal.tabulate-requires
unfolding size In
tabulate-requires c = record { small = omega (arith, mul-one c.args.len, c.requires.small); sourced = λ is h. h.0 }

pub returns : goal.returns
unfolding count_array
returns c = c.tabulate.ensures
