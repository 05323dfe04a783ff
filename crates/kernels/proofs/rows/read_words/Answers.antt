use Rattle.std.proofs.Common.{◌<◌, [], length, arith, w64, to_z, of_z}
use lib.Ieee.{nan}
use Rattle.semantics.proofs.Places.{no_axes}
use Rattle.numbers.specs.Standing.{StandsFor}
use Rattle.views.specs.declared.view.Source.TheVariants.{Area}
use Rattle.views.specs.Views.{number_from}
use Rattle.views.proofs.Copies.{walk_steps, walk_found}
use Rattle.kernels.specs.Reading.{along}
use Rattle.kernels.proofs.Turns.{set_below}
use Rattle.kernels.proofs.Readings.{stands_to, along_found}
use Rattle.kernels.proofs.rows.read_words.Goals as goal

pub step_to-requires : goal.step_to-requires
step_to-requires c = walk_steps c.requires c.loop-i.i c.ranges.stride (omega arith) (omega arith) no_axes

pub offset_bounds-area-step_to : goal.offset_bounds-area-step_to
offset_bounds-area-step_to c =
    let below = walk_found c.requires c.loop-i.i c.ranges.stride (omega arith) no_axes c.step_to.ensures in
    record { fits = omega (arith, c.requires.there) }

pub bounds-area-step_to : goal.bounds-area-step_to
bounds-area-step_to c = omega (arith, walk_found c.requires c.loop-i.i c.ranges.stride (omega arith) no_axes c.step_to.ensures, c.requires.there)

pub loop-i-preserved : goal.loop-i-preserved
unfolding number_from
loop-i-preserved c =
    let i = c.loop-i.i in
    let z = to_z w64 (of_z w64 c.args.stride) in
    let l : i < length c.loop-i.out = omega arith in
    set_below nan (λ j y. StandsFor y (along Area c.args.area.now [] c.args.from z j)) c.loop-i.out i c.float_of.result l c.loop-i.invariant
    (stands_to (along_found Area c.args.area.now [] c.args.from z i c.step_to.result c.step_to.ensures) c.float_of.ensures)
