use Rattle.std.proofs.Common.{[], arith}
use Rattle.program.proofs.Lengths.{length_spell, length_program}
use Rattle.program.proofs.laws.as_many_steps_stands.Goals as goal

pub returns : goal.returns
returns c = (length_spell, λ p. omega (arith, length_program p []))
