use Rattle.std.proofs.Common.{◌+◌, arith}
use Rattle.program.proofs.Nodes.{expr_there}
use Rattle.program.proofs.Storing.{length_steps_in}
use Rattle.kernels.proofs.Growing.{ready_name, ready_input, ready_count, ready_step, ready_there, able_each, able_left, able_right, able_first, able_second, able_third, able_same, able_further, filled_name, filled_input, filled_constant, filled_count, filled_each, filled_both, filled_choose, skips_name, skips_input, skips_constant, skips_count, skips_each, skips_both, skips_choose}
use Rattle.kernels.proofs.InPlace.{own_gives, run_gives, filled_combined, able_whole}
use Rattle.kernels.proofs.trees.+fill.Goals as goal

pub unreachable-requires : goal.unreachable-requires
unreachable-requires t c = ready_there c.in_default.ensures c.requires.able.ready

pub fill_name-requires : goal.fill_name-requires
fill_name-requires t c =
    record { ready = ready_name c.in-Some.ensures c.in-Name.is c.requires.able.ready; within = c.requires.within; short = c.requires.short }

pub fill_input-requires : goal.fill_input-requires
fill_input-requires t c =
    record { ready = ready_input c.in-Some.ensures c.in-Input.is c.requires.able.ready; within = c.requires.within; short = c.requires.short }

pub fill_count-requires : goal.fill_count-requires
fill_count-requires t c =
    record { spreads = ready_count c.in-Some.ensures c.in-Count.is c.requires.able.ready; within = c.requires.within; short = c.requires.short }

pub fill-next-requires : goal.fill-next-requires
fill-next-requires t c =
    let at = c.in-Some.ensures in
    (omega (arith, at.there, c.decreases), (able_each at c.in-Each.is c.requires.able, (c.requires.within, c.requires.short)))

pub unreachable-requires-in_default-step : goal.unreachable-requires-in_default-step
unreachable-requires-in_default-step t c =
    let no = c.in_default-step in
    ready_step c.in-Some.ensures c.requires.able.ready no.not-Name no.not-Input no.not-Constant no.not-Count no.not-Each no.not-Both no.not-Choose

pub returns-in-Name : goal.returns-in-Name
returns-in-Name t c =
    let at = c.in-Some.ensures in
    record { skips = skips_name at c.in-Name.is; filled = filled_name at c.in-Name.is c.fill_name.ensures }

pub returns-in-Input : goal.returns-in-Input
returns-in-Input t c =
    let at = c.in-Some.ensures in
    record { skips = skips_input at c.in-Input.is; filled = filled_input at c.in-Input.is c.fill_input.ensures }

pub returns-in-Constant : goal.returns-in-Constant
returns-in-Constant t c =
    let at = c.in-Some.ensures in
    record { skips = skips_constant at c.in-Constant.is; filled = filled_constant at c.in-Constant.is (c.fill_with.ensures c.in-Constant.x c.float_of.ensures) }

pub returns-in-Count : goal.returns-in-Count
returns-in-Count t c =
    let at = c.in-Some.ensures in
    record { skips = skips_count at c.in-Count.is; filled = filled_count at c.in-Count.is c.fill_count.ensures }

pub returns-in-Each : goal.returns-in-Each
returns-in-Each t c =
    let at = c.in-Some.ensures in
    record {
      skips = skips_each at c.in-Each.is c.fill-next.ensures.skips;
      filled = filled_each at c.in-Each.is c.fill-next.ensures.filled c.apply_unary.ensures (omega arith);
    }

pub returns-in-Choose : goal.returns-in-Choose
returns-in-Choose t c =
    let at = c.in-Some.ensures in
    record {
      skips = skips_choose at c.in-Choose.is c.fill-second.ensures.skips c.fill-third.ensures.skips c.fill-next-in-Choose.ensures.skips;
      filled = filled_choose at c.in-Choose.is c.fill-second.ensures.filled c.fill-second.ensures.skips c.fill-third.ensures.filled c.fill-third.ensures.skips c.fill-next-in-Choose.ensures.filled c.choose_blocks.ensures (omega arith) (omega arith) (omega arith);
    }

pub fill-second-requires : goal.fill-second-requires
fill-second-requires t c =
    let at = c.in-Some.ensures in
    (omega (arith, at.there, c.decreases), (able_first at c.in-Choose.is c.requires.able, (c.requires.within, c.requires.short)))

pub split_at_mut-left-requires : goal.split_at_mut-left-requires
split_at_mut-left-requires t c =
    let at = c.in-Some.ensures in
    let a = able_second at _ c.in-Choose.is c.fill-second.ensures.skips c.requires.able in
    omega (arith, a.block)

pub fill-third-requires : goal.fill-third-requires
fill-third-requires t c =
    let at = c.in-Some.ensures in
    let a = able_second at _ c.in-Choose.is c.fill-second.ensures.skips c.requires.able in
    let first = able_first at c.in-Choose.is c.requires.able in
    let on = able_further first.ready c.fill-second.ensures.skips in
    let there = at.there in
    (omega (arith, c.decreases), (able_same a.able (omega arith) (omega arith), (omega arith, omega arith)))

pub split_at_mut-right-requires : goal.split_at_mut-right-requires
split_at_mut-right-requires t c =
    let at = c.in-Some.ensures in
    let a = able_third at _ _ c.in-Choose.is c.fill-second.ensures.skips c.fill-third.ensures.skips c.requires.able in
    omega (arith, a.block)

pub fill-next-requires-in-Choose : goal.fill-next-requires-in-Choose
fill-next-requires-in-Choose t c =
    let at = c.in-Some.ensures in
    let a = able_third at _ _ c.in-Choose.is c.fill-second.ensures.skips c.fill-third.ensures.skips c.requires.able in
    let b = able_second at _ c.in-Choose.is c.fill-second.ensures.skips c.requires.able in
    let first = able_first at c.in-Choose.is c.requires.able in
    let on = able_further first.ready c.fill-second.ensures.skips in
    let more = able_further b.able.ready c.fill-third.ensures.skips in
    let there = at.there in
    (omega (arith, c.decreases), (able_same a.able (omega arith) (omega arith), (omega arith, omega arith)))

-- ---- an operation on two
pub find_run-left-requires : goal.find_run-left-requires
find_run-left-requires t c =
    record { ready = (able_left c.in-Some.ensures c.in-Both.is c.requires.able).ready; within = c.requires.within }

pub fill-middle-requires : goal.fill-middle-requires
fill-middle-requires t c =
    let at = c.in-Some.ensures in
    (omega (arith, at.there, c.decreases), (able_left at c.in-Both.is c.requires.able, (c.requires.within, c.requires.short)))

pub find_run-right-requires : goal.find_run-right-requires
find_run-right-requires t c =
    record { ready = (able_right c.in-Some.ensures _ c.in-Both.is c.fill-middle.ensures.skips c.requires.able).able.ready; within = c.requires.within }

pub split_at_mut-block-requires : goal.split_at_mut-block-requires
split_at_mut-block-requires t c =
    let a = able_right c.in-Some.ensures _ c.in-Both.is c.fill-middle.ensures.skips c.requires.able in
    omega (arith, a.block)

pub fill-next-requires-in-Own-right : goal.fill-next-requires-in-Own-right
fill-next-requires-in-Own-right t c =
    let at = c.in-Some.ensures in
    let a = able_right at _ c.in-Both.is c.fill-middle.ensures.skips c.requires.able in
    let left = able_left at c.in-Both.is c.requires.able in
    let on = able_further left.ready c.fill-middle.ensures.skips in
    let there = at.there in
    (omega (arith, c.decreases), (able_same a.able (omega arith) (omega arith), (omega arith, omega arith)))

pub overflow_add-result-in_default-right : goal.overflow_add-result-in_default-right
overflow_add-result-in_default-right t c =
    let q = (able_right c.in-Some.ensures _ c.in-Both.is c.fill-middle.ensures.skips c.requires.able).able.ready in
    record { fits = omega (arith, expr_there c.args.env.now.words.now c.fill-middle.result q.expr q.rest q.enc, length_steps_in c.args.env.now.words.now) }

pub find_run-right-requires-in_default-left : goal.find_run-right-requires-in_default-left
find_run-right-requires-in_default-left t c =
    record { ready = (able_right c.in-Some.ensures _ c.in-Both.is (c.find_run-left.ensures.skips c.in_default-left.not-Own) c.requires.able).able.ready; within = c.requires.within }

pub fill-next-requires-in-Own-right-2 : goal.fill-next-requires-in-Own-right-2
fill-next-requires-in-Own-right-2 t c =
    let at = c.in-Some.ensures in
    let a = able_right at (c.args.node + 1 + 1) c.in-Both.is (c.find_run-left.ensures.skips c.in_default-left.not-Own) c.requires.able in
    let there = at.there in
    (omega (arith, c.decreases), (able_whole {j = c.args.node + 1 + 1} a, (c.requires.within, c.requires.short)))

pub returns-in-Own-right : goal.returns-in-Own-right
returns-in-Own-right t c =
    let at = c.in-Some.ensures in
    record {
      skips = skips_both at c.in-Both.is c.fill-middle.ensures.skips c.fill-next-in-Own-right.ensures.skips;
      filled = filled_both at c.in-Both.is c.fill-middle.ensures.filled c.fill-middle.ensures.skips c.fill-next-in-Own-right.ensures.filled c.apply_binary.ensures (omega arith) (omega arith);
    }

pub returns-in_default-right : goal.returns-in_default-right
returns-in_default-right t c =
    let at = c.in-Some.ensures in
    let run = c.find_run-right.ensures in
    let not_own = c.in_default-right.not-Own in
    record {
      skips = skips_both at c.in-Both.is c.fill-middle.ensures.skips (run.skips not_own);
      filled = filled_combined at c.in-Both.is (own_gives c.fill-middle.ensures.filled) c.fill-middle.ensures.skips (run_gives run not_own (omega arith)) c.combine.ensures (omega arith);
    }

pub returns-in-Own-right-2 : goal.returns-in-Own-right-2
returns-in-Own-right-2 t c =
    let at = c.in-Some.ensures in
    let run = c.find_run-left.ensures in
    let not_own = c.in_default-left.not-Own in
    record {
      skips = skips_both at c.in-Both.is (run.skips not_own) c.fill-next-in-Own-right-2.ensures.skips;
      filled = filled_combined at c.in-Both.is (run_gives run not_own (omega arith)) (run.skips not_own) (own_gives c.fill-next-in-Own-right-2.ensures.filled) c.combine-in-Own-right-2.ensures (omega arith);
    }

pub returns-in_default-right-2 : goal.returns-in_default-right-2
returns-in_default-right-2 t c =
    let at = c.in-Some.ensures in
    let left = c.find_run-left.ensures in
    let right = c.find_run-right-in_default-left.ensures in
    let left-not-own = c.in_default-left.not-Own in
    let right-not-own = c.in_default-right-2.not-Own in
    record {
      skips = skips_both at c.in-Both.is (left.skips left-not-own) (right.skips right-not-own);
      filled = filled_combined at c.in-Both.is (run_gives left left-not-own (omega arith)) (left.skips left-not-own) (run_gives right right-not-own (omega arith)) c.combine-in_default-right-2.ensures (omega arith);
    }
