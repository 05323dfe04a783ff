use Rattle.std.proofs.Common.{◌<◌, length, get_or, pos, ◌+ℤ◌, ◌*ℤ◌, nat_abs, sym, ap, arith, w64, to_z, of_z}
use Rattle.semantics.proofs.Places.{no_axes}
use Rattle.views.proofs.Copies.{walk_steps, walk_found, row_more}
use Rattle.views.proofs.copying.copy_words.Goals as goal

pub step_to-requires : goal.step_to-requires
step_to-requires c = walk_steps c.requires c.loop-index.index c.ranges.stride (omega arith) (omega arith) no_axes

pub offset_bounds-area-step_to : goal.offset_bounds-area-step_to
offset_bounds-area-step_to c =
    let below = walk_found c.requires c.loop-index.index c.ranges.stride (omega arith) no_axes c.step_to.ensures in
    record { fits = omega (arith, c.requires.there) }

pub bounds-area-step_to : goal.bounds-area-step_to
bounds-area-step_to c = omega (arith, walk_found c.requires c.loop-index.index c.ranges.stride (omega arith) no_axes c.step_to.ensures, c.requires.there)

pub loop-index-preserved : goal.loop-index-preserved
loop-index-preserved c =
    let there : c.loop-index.index < length c.loop-index.out = omega arith in
    row_more (λ j. get_or c.args.area.now (nat_abs (pos c.args.from +ℤ to_z w64 (of_z w64 c.args.stride) *ℤ pos j)) 0) c.loop-index.out c.loop-index.index _ there c.loop-index.invariant
    (ap (λ z. get_or c.args.area.now (nat_abs z) 0) (sym c.step_to.ensures))
