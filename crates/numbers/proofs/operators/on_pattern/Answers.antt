use Rattle.numbers.proofs.Written.{one_pattern}
use Rattle.numbers.proofs.operators.on_pattern.Goals as goal

pub returns : goal.returns
returns g c = c.pattern_of.ensures _ (c.apply.ensures.on _ c.float_of.ensures) (one_pattern _ _)
