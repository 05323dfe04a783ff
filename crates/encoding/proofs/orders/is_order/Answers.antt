use Rattle.std.proofs.Common.{sym, ◌∙◌, rules, tests, arith}
use Rattle.std.proofs.lemmas.Iterator.{YieldsList-from_range}
use Rattle.std.proofs.lemmas.Iterator.Search.{all_from_yields_List}
use Rattle.semantics.specs.Orders.{among}
use Rattle.encoding.proofs.Ordering.{all_range_among, order_counted, order_other}
use Rattle.encoding.proofs.orders.is_order.Goals as goal

pub returns-then-order-rank : goal.returns-then-order-rank
returns-then-order-rank c =
    let os = c.args.order.now in
    let r = c.args.rank in
    all_from_yields_List (λ k. among k os) _ _ _ c.all.ensures.ran (YieldsList-from_range 0 r r (cc) (omega arith)) (λ x b q k. search (rules, tests))
    ∙ (all_range_among os r ∙ sym (order_counted os r c.if-order-rank.true))

pub returns-else-order-rank : goal.returns-else-order-rank
returns-else-order-rank c =
    let other = order_other c.args.order.now c.args.rank c.if-order-rank.false in
    search (rules, other)
