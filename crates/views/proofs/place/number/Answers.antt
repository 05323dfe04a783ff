use Rattle.std.proofs.Common.{nat_abs, sym, refl, ap, ◌∙◌}
use Rattle.views.specs.Views.{number_from, seen}
use Rattle.views.proofs.Seeing.{good_address, reaches_less}
use Rattle.views.proofs.place.number.Goals as goal

pub number_at-requires : goal.number_at-requires
number_at-requires c =
    let v = c.args.view.now in
    let is = c.args.place.now in
    let there = c.if-not-is_place.ensures.0 refl in
    reaches_less v.source c.args.lent.area.now c.args.lent.bytes.now (good_address v is c.requires.good there c.address_of.ensures) c.requires.there

pub returns : goal.returns
unfolding seen
returns c =
    let v = c.args.view.now in (
      c.if-not-is_place.ensures.0 refl,
      c.number_at.ensures ∙ ap (λ z. number_from v.source c.args.lent.area.now c.args.lent.bytes.now (nat_abs z)) (sym c.address_of.ensures),
    )
