use Rattle.std.proofs.Common.{length, ap, ◌∙◌}
use Rattle.std.specs.Option.{unwrap_or}
use Rattle.reference.proofs.Ordering.{where_found}
use Rattle.reference.proofs.orders.find_axis.Goals as goal

pub returns : goal.returns
returns c =
    c.unwrap_or.ensures ∙ (ap (λ o. unwrap_or o (length c.args.order.now)) c.place_among.ensures ∙ where_found c.args.axis c.args.order.now)
