use Rattle.numbers.proofs.Written.{of_pattern}
use Rattle.numbers.proofs.whole.of_whole.Goals as goal

pub returns : goal.returns
returns c = c.pattern_of.ensures _ c.whole_float.ensures (of_pattern _)
