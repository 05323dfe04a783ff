-- What a case must give.
use Rattle.std.specs.Prelude.{ℕ, cond}
use Rattle.numbers.specs.Binary64.{canonical_bits}
use Rattle.numbers.specs.Operations.{binary64}
use Rattle.vectors.specs.declared.case.Case.{Case}
use Rattle.vectors.specs.declared.case.Case.TheVariants.{One, Two, Truth, Index, Whole, Canonical, Empty}

abbrev pub given : Case → ℕ
given (One k a) = binary64.one k a
given (Two k a b) = binary64.two k a b
given (Truth a) = cond (binary64.truth a) 1 0
given (Index a) = binary64.index a
given (Whole n) = binary64.of n
given (Canonical a) = canonical_bits a
given (Empty k) = binary64.empty k
