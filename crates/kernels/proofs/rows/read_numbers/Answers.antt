use Rattle.std.proofs.Common.{◌<◌, [], length, ◌∙◌, arith, w64, to_z, of_z}
use lib.Ieee.{nan}
use Rattle.semantics.proofs.Places.{no_axes}
use Rattle.numbers.specs.Standing.{StandsFor}
use Rattle.views.specs.declared.view.Source.TheVariants.{Input}
use Rattle.views.specs.Views.{number_from}
use Rattle.views.proofs.Copies.{walk_steps, walk_found}
use Rattle.kernels.specs.Reading.{along}
use Rattle.kernels.proofs.Turns.{set_below}
use Rattle.kernels.proofs.Readings.{stands_to, along_found}
use Rattle.kernels.proofs.rows.read_numbers.Goals as goal

pub step_to-requires : goal.step_to-requires
step_to-requires c = walk_steps c.requires c.loop-i.i c.ranges.stride (omega arith) (omega arith) no_axes

pub overflow_mul-step_to : goal.overflow_mul-step_to
overflow_mul-step_to c =
    let below = walk_found c.requires c.loop-i.i c.ranges.stride (omega arith) no_axes c.step_to.ensures in
    record { fits = omega (arith, c.requires.there) }

pub overflow_add-base : goal.overflow_add-base
overflow_add-base c =
    let below = walk_found c.requires c.loop-i.i c.ranges.stride (omega arith) no_axes c.step_to.ensures in
    record { fits = omega (arith, c.requires.there) }

pub unreachable-requires : goal.unreachable-requires
unreachable-requires c =
    let below = walk_found c.requires c.loop-i.i c.ranges.stride (omega arith) no_axes c.step_to.ensures in
    omega (arith, c.requires.there, c.in_default.ensures)

pub loop-i-preserved : goal.loop-i-preserved
unfolding number_from
loop-i-preserved c =
    let i = c.loop-i.i in
    let o = Input c.args.base in
    let z = to_z w64 (of_z w64 c.args.stride) in
    let l : i < length c.loop-i.out = omega arith in
    set_below nan (λ j y. StandsFor y (along o [] c.args.bytes.now c.args.from z j)) c.loop-i.out i c.float_of.result l c.loop-i.invariant
    (stands_to (c.in-Some.ensures.1 ∙ along_found o [] c.args.bytes.now c.args.from z i c.step_to.result c.step_to.ensures) c.float_of.ensures)
