use Rattle.std.proofs.Common.{ℕ, ◌<◌, get_or}
use Rattle.numbers.specs.Plain.{NoNan, Clear}
use Rattle.numbers.proofs.plain.no_nans.Given as goal

abbrev pub invariant-loop-a : goal.invariant-loop-a
invariant-loop-a l = Clear l.seen → (j : ℕ) → j < l.a-index → NoNan (get_or l.words j 0)
