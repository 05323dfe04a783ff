use Rattle.std.proofs.Common.{◌≡◌, ◌+◌, ◌-◌, ◌^◌, ◌<◌, ◌≤◌, refl, arith}
use Rattle.views.specs.declared.view.View.{View}
use Rattle.views.proofs.Shifts.{Lower, lower_good, lower_holds}
use Rattle.views.proofs.shift.shift_down.Goals as goal
use Rattle.views.proofs.shift.shift_down.Goals.{then-view-by, else-view-by}

pub returns : goal.returns
returns c =
    let v = c.args.view in
    let by = v.low - c.args.to in
    let g = c.requires.good in
    let starts : (by ≤ v.start → c.if-view-by.start + by ≡ v.start) × (c.if-view-by.start < 2 ^ 62)
    = elim c.if-view-by.branch [
      | then-view-by w ↦ (λ h. omega (arith, w.start-is, w.if-view-by.true), omega (arith, w.start-is, w.if-view-by.true, g.begins))
      | else-view-by w ↦ (λ h. absurd (omega (arith, w.if-view-by.false)), omega (arith, w.start-is, g.up, g.short, c.requires.down))
    ]
    in
    let r : View = record { shape = v.shape; strides = v.strides; start = c.if-view-by.start; low = c.args.to; high = v.high - by; source = v.source } in
    let lower : Lower v by r
    = record { down = omega arith; shape = refl; strides = refl; start = starts.0; begins = starts.1; low = omega arith; high = omega (arith, g.up); source = refl }
    in
    record {
      shifted = record { good = lower_good v r by g lower; shape = refl; strides = refl; low = refl; high = omega (arith, g.up); source = refl };
      holds = λ old new bs a e h m. lower_holds v r by g lower old new bs a e h m;
    }
