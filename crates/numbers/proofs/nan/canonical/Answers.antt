use Rattle.std.proofs.Common.{sym, ◌∙◌}
use lib.Ieee.{binary64}
use lib.Ieee.Bits.{nan_bits_above}
use Rattle.std.proofs.lemmas.Bool.{lt-ltb, le-ltb, cond-true, cond-false}
use Rattle.numbers.specs.Binary64.{canonical_bits}
use Rattle.numbers.proofs.nan.canonical.Goals as goal

pub returns-then-a-gt-INFINITY : goal.returns-then-a-gt-INFINITY
unfolding canonical_bits
returns-then-a-gt-INFINITY c = sym (cond-true _ _ _ (nan_bits_above binary64 c.args.a ∙ lt-ltb _ _ c.if-a-gt-INFINITY.true))

pub returns-else-a-gt-INFINITY : goal.returns-else-a-gt-INFINITY
unfolding canonical_bits
returns-else-a-gt-INFINITY c = sym (cond-false _ _ _ (nan_bits_above binary64 c.args.a ∙ le-ltb _ _ c.if-a-gt-INFINITY.false))
