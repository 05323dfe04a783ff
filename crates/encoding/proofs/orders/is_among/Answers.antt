use Rattle.std.proofs.Common.{eqb, ◌∙◌, rules, tests}
use Rattle.std.proofs.lemmas.Iterator.{YieldsList-from_slice}
use Rattle.std.proofs.lemmas.Iterator.Search.{any_from_yields_List}
use Rattle.encoding.proofs.Ordering.{any_among}
use Rattle.encoding.proofs.orders.is_among.Goals as goal

pub returns : goal.returns
returns c =
    any_from_yields_List (eqb c.args.axis) _ _ _ c.any.ensures.ran (YieldsList-from_slice c.args.order.now cc) (λ x b q k. search (rules, tests)) ∙ any_among c.args.axis c.args.order.now
