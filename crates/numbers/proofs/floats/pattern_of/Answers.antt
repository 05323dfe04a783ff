use Rattle.std.proofs.Common.{◌∙◌}
use Rattle.numbers.proofs.Floated.{stands_write}
use Rattle.numbers.proofs.floats.pattern_of.Goals as goal

pub returns : goal.returns
returns c a s p = c.f64_to_bits_with_nan.ensures ∙ stands_write a s p
