use Rattle.std.proofs.Common.{sym, ◌∙◌}
use Rattle.std.proofs.lemmas.Bool.{cond-true, cond-false}
use Rattle.numbers.specs.Operations.{binary64}
use Rattle.numbers.proofs.Values.{at_index}
use Rattle.numbers.proofs.whole.index.Goals as goal

pub returns-then-x-nearest_u64_to_f64 : goal.returns-then-x-nearest_u64_to_f64
unfolding binary64
returns-then-x-nearest_u64_to_f64 c =
    sym (at_index c.args.a c.f64_from_bits_with_nan-x.ensures (c.from-n.ensures ∙ c.saturating_f64_to_u32.ensures) c.nearest_u64_to_f64.ensures
    ∙ cond-true _ _ _ c.if-x-nearest_u64_to_f64.true)

pub returns-else-x-nearest_u64_to_f64 : goal.returns-else-x-nearest_u64_to_f64
unfolding binary64
returns-else-x-nearest_u64_to_f64 c =
    sym (at_index c.args.a c.f64_from_bits_with_nan-x.ensures (c.from-n.ensures ∙ c.saturating_f64_to_u32.ensures) c.nearest_u64_to_f64.ensures
    ∙ cond-false _ _ _ c.if-x-nearest_u64_to_f64.false)
