use Rattle.std.proofs.Common.{refl}
use lib.Ieee.{of_bits, to_bits}
use Rattle.numbers.proofs.laws.names_stands.Goals as goal

pub returns : goal.returns
unfolding of_bits to_bits
returns c = record { zero = refl; one = refl; infinity = refl; minus_infinity = refl; not_a_number = refl }
