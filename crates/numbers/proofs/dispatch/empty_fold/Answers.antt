use Rattle.std.proofs.Common.{sym, ap, rules}
use Rattle.numbers.specs.Operations.{binary64, empty_bits}
use Rattle.numbers.proofs.dispatch.empty_fold.Goals as goal

pub returns-in-Add : goal.returns-in-Add
unfolding binary64 empty_bits
returns-in-Add c = search rules

pub returns-in-Mul : goal.returns-in-Mul
unfolding binary64 empty_bits
returns-in-Mul c = search rules

pub returns-in-Least : goal.returns-in-Least
unfolding binary64 empty_bits
returns-in-Least c = ap (λ k. binary64.empty k) (sym c.in-Least.is)

pub returns-in-Most : goal.returns-in-Most
unfolding binary64 empty_bits
returns-in-Most c = ap (λ k. binary64.empty k) (sym c.in-Most.is)
