use Rattle.std.proofs.Common.{◌+◌, ◌*◌, ◌<◌, ◌≤◌, rules, [], length, pos, ◌+ℤ◌, ◌*ℤ◌, nat_abs, sym, ap, ◌∙◌, arith, w64, to_z, of_z}
use Rattle.semantics.proofs.Places.{no_axes}
use Rattle.views.specs.declared.view.Source.TheVariants.{Input}
use Rattle.views.specs.Views.{number_from}
use Rattle.views.proofs.Copies.{walk_steps, walk_found, row_more}
use Rattle.views.proofs.copying.copy_numbers.Goals as goal

pub step_to-requires : goal.step_to-requires
step_to-requires c = walk_steps c.requires c.loop-index.index c.ranges.stride (omega arith) (omega arith) no_axes

pub overflow_mul-step_to : goal.overflow_mul-step_to
overflow_mul-step_to c =
    let below = walk_found c.requires c.loop-index.index c.ranges.stride (omega arith) no_axes c.step_to.ensures in
    record { fits = omega (arith, c.requires.there) }

pub overflow_add-base : goal.overflow_add-base
overflow_add-base c =
    let below = walk_found c.requires c.loop-index.index c.ranges.stride (omega arith) no_axes c.step_to.ensures in
    record { fits = omega (arith, c.requires.there) }

pub unwrap-requires : goal.unwrap-requires
unwrap-requires c =
    let below = walk_found c.requires c.loop-index.index c.ranges.stride (omega arith) no_axes c.step_to.ensures in
    let room : c.args.base + 8 * c.step_to.result + 8 ≤ length c.args.bytes.now = omega (arith, c.requires.there) in
    search rules

pub loop-index-preserved : goal.loop-index-preserved
unfolding number_from
loop-index-preserved c =
    let there : c.loop-index.index < length c.loop-index.out = omega arith in
    row_more (λ j. number_from (Input c.args.base) [] c.args.bytes.now (nat_abs (pos c.args.from +ℤ to_z w64 (of_z w64 c.args.stride) *ℤ pos j))) c.loop-index.out c.loop-index.index c.unwrap.result there c.loop-index.invariant
    ((rw c.unwrap.ensures at c.read_number.ensures).1 ∙ ap (λ z. number_from (Input c.args.base) [] c.args.bytes.now (nat_abs z)) (sym c.step_to.ensures))
