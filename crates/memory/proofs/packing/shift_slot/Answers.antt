use Rattle.std.proofs.Common.{sym, refl, ap, ◌∙◌, subst, arith, Some}
use Rattle.memory.specs.Spans.{low_of, high_of}
use Rattle.memory.specs.Packing.{After, moved, stays}
use Rattle.memory.proofs.Slotted.{empty_high, input_high, area_low, area_high}
use Rattle.memory.proofs.Sliding.{slid}
use Rattle.memory.proofs.packing.shift_slot.Goals as goal

pub returns-in_err-view : goal.returns-in_err-view
returns-in_err-view c = stays (λ e f. omega (arith, ap high_of c.in_err-view.was, empty_high)) (cc)

pub returns-in-Area : goal.returns-in-Area
returns-in-Area c =
    let v = c.in_ok-view.view in
    let r = c.shift_down.result in
    subst (λ s. After c.args.low c.args.high c.args.to s (Some r)) (sym c.in_ok-view.was)
    (moved (slid v r c.args.low c.args.high c.args.to c.in-Area.is c.if-view-low.true c.if-view-high.true c.shift_down.ensures.shifted c.shift_down.ensures.holds))

pub returns-in_default : goal.returns-in_default
returns-in_default c = stays (λ e f. c.if-view-high.false (sym (ap high_of c.in_ok-view.was ∙ area_high c.in_ok-view.view c.in-Area.is) ∙ f)) refl

pub returns-in_default-2 : goal.returns-in_default-2
returns-in_default-2 c = stays (λ e f. c.if-view-low.false (sym (ap low_of c.in_ok-view.was ∙ area_low c.in_ok-view.view c.in-Area.is) ∙ e)) refl

pub returns-in_default-3 : goal.returns-in_default-3
returns-in_default-3 c = stays (λ e f. omega (arith, ap high_of c.in_ok-view.was, input_high c.in_ok-view.view _ c.in_default.is)) refl
