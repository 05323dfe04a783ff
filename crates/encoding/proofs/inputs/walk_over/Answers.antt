use Rattle.std.proofs.Common.{◌≡◌, ℕ, drop, subst, ◌∙◌, arith}
use Rattle.encoding.specs.Format.{row_at, offsets}
use Rattle.encoding.proofs.Rows.{offsets_is, stop_is, head_on}
use Rattle.encoding.proofs.Walking.{none_from, more_from, next_from, stop_from}
use Rattle.encoding.proofs.inputs.walk_over.Goals as goal

pub loop-count-init : goal.loop-count-init
loop-count-init c = (omega arith, omega arith, offsets_is c.args.bytes.now, stop_is c.args.bytes.now)

pub loop-count-preserved : goal.loop-count-preserved
loop-count-preserved c =
    let bs = c.args.bytes.now in
    let so_far = c.loop-count.invariant in
    let heads = c.in-Ok.ensures in
    let more = more_from bs c.loop-count.count c.loop-count.at so_far.2 c.in-Ok.head heads in (
      (head_on bs c.loop-count.at c.in-Ok.head heads).1,
      omega arith,
      next_from bs c.loop-count.count c.loop-count.at so_far.2 c.in-Ok.head heads,
      stop_from bs c.loop-count.count c.loop-count.at so_far.2 c.in-Ok.head heads ∙ so_far.3,
    )

pub returns-in_default : goal.returns-in_default
returns-in_default c =
    let so_far = c.loop-count.invariant in
    let few = none_from c.args.bytes.now c.loop-count.count c.loop-count.at so_far.2 c.in_default.field-0 c.in_default.ensures in
    record { inside = so_far.0; count = omega arith; rest = so_far.2; stops = so_far.3 }

pub returns : goal.returns
returns c =
    let so_far = c.loop-count.invariant in
    let all : c.loop-count.count ≡ c.args.most = omega arith in
    let P : ℕ → Type 0 = λ k. (row_at c.args.bytes.now c.loop-count.at).offsets ≡ drop k (offsets c.args.bytes.now) in
    record { inside = so_far.0; count = omega arith; rest = subst P all so_far.2; stops = so_far.3 }
