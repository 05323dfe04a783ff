use Rattle.numbers.proofs.Written.{two_pattern}
use Rattle.numbers.proofs.operators.on_patterns.Goals as goal

pub returns : goal.returns
returns g c = c.pattern_of.ensures _ (c.apply.ensures.on _ _ c.float_of.ensures c.float_of-2.ensures) (two_pattern _ _ _)
