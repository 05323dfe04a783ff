use Rattle.std.proofs.Common.{◌+◌, refl, sym, ap, arith}
use Rattle.program.proofs.Nodes.{stands_there, stands_opens, each_operand}
use Rattle.runtime.specs.Faults.{fault_number}
use Rattle.runtime.proofs.Building.{step_built, built_opens}
use Rattle.runtime.proofs.Planning.{name_at, input_at, constant_at, count_at, each_stop_at, each_at, both_stands, both_stands_second, both_stop_at, both_stop_second_at, both_unlike_at, both_at, plan_exit, skips_further}
use Rattle.runtime.proofs.plan.+plan.Goals as goal

pub unreachable-requires : goal.unreachable-requires
unreachable-requires t c = omega (arith, c.in_default.ensures, stands_there c.args.words.now c.args.node c.requires.stands)

pub unreachable-requires-in_default-step : goal.unreachable-requires-in_default-step
unreachable-requires-in_default-step t c =
    let ws = c.args.words.now in
    let i = c.args.node in
    let x = c.in-Some.step in
    let at = c.in-Some.ensures in
    let no = c.in_default-step in
    built_opens x (step_built ws i x at c.requires.built) (stands_opens ws i x at refl c.requires.stands) no.not-Name no.not-Input no.not-Constant no.not-Count no.not-Each no.not-Both

pub returns-in-Name : goal.returns-in-Name
returns-in-Name t c =
    name_at c.args.words.now c.args.inputs.now c.args.names.now c.args.node c.args.left c.in-Some.step c.in-Some.ensures c.in-Name.is c.plan_name.ensures

pub returns-in-Input : goal.returns-in-Input
returns-in-Input t c =
    input_at c.args.words.now c.args.inputs.now c.args.names.now c.args.node c.args.left c.in-Some.step c.in-Some.ensures c.in-Input.is c.plan_input.ensures

pub returns-in-Constant : goal.returns-in-Constant
returns-in-Constant t c =
    constant_at c.args.words.now c.args.inputs.now c.args.names.now c.args.node c.args.left c.in-Some.step c.in-Some.ensures c.in-Constant.is c.count_array.ensures

pub returns-in-Count : goal.returns-in-Count
returns-in-Count t c =
    count_at c.args.words.now c.args.inputs.now c.args.names.now c.args.node c.args.left c.in-Some.step c.in-Some.ensures c.in-Count.is c.count_array-in-Count.ensures

-- ---- one operand
pub plan-requires : goal.plan-requires
plan-requires t c =
    let there = stands_there c.args.words.now c.args.node c.requires.stands in
    (omega (arith, c.decreases), (each_operand c.args.words.now c.args.node c.in-Some.step c.in-Some.ensures c.in-Each.is c.requires.stands, (c.requires.built, c.requires.small)))

pub returns-in_err-a-in-Each : goal.returns-in_err-a-in-Each
returns-in_err-a-in-Each t c =
    plan_exit c.args.words.now c.args.inputs.now c.args.names.now c.args.node c.args.left c.from_residual.result c.in_err-a-in-Each.field-0.0 c.from_residual.ensures.1
    (each_stop_at c.args.words.now c.args.inputs.now c.args.names.now c.args.node c.args.left c.in-Some.step c.in-Some.ensures c.in-Each.is c.in_err-a-in-Each.ensures)

pub returns-in_ok-a-in-Each : goal.returns-in_ok-a-in-Each
returns-in_ok-a-in-Each t c =
    each_at c.args.words.now c.args.inputs.now c.args.names.now c.args.node c.args.left c.in-Some.step c.in-Some.ensures c.in-Each.is c.in_ok-a-in-Each.ensures c.count_array-in-Each.ensures

-- ---- two operands
pub plan-requires-in-Both : goal.plan-requires-in-Both
plan-requires-in-Both t c =
    let there = stands_there c.args.words.now c.args.node c.requires.stands in
    (omega (arith, c.decreases), (both_stands c.args.words.now c.args.inputs.now c.args.names.now c.args.node c.args.left c.in-Some.step c.in-Some.ensures c.in-Both.is c.requires.stands, (c.requires.built, c.requires.small)))

pub returns-in_err-a-in-Both : goal.returns-in_err-a-in-Both
returns-in_err-a-in-Both t c =
    plan_exit c.args.words.now c.args.inputs.now c.args.names.now c.args.node c.args.left c.from_residual-in_err-a-in-Both.result c.in_err-a-in-Both.field-0.0 c.from_residual-in_err-a-in-Both.ensures.1
    (both_stop_at c.args.words.now c.args.inputs.now c.args.names.now c.args.node c.args.left c.in-Some.step c.in-Some.ensures c.in-Both.is c.in_err-a-in-Both.ensures)

pub plan-requires-in-Both-2 : goal.plan-requires-in-Both-2
plan-requires-in-Both-2 t c =
    let ws = c.args.words.now in
    let first = both_stands ws c.args.inputs.now c.args.names.now c.args.node c.args.left c.in-Some.step c.in-Some.ensures c.in-Both.is c.requires.stands in
    let a = c.in_ok-a-in-Both.ensures in
    let second = both_stands_second ws c.args.inputs.now c.args.names.now c.args.node c.args.left c.in-Some.step c.in-Some.ensures c.in-Both.is a.skips c.requires.stands in
    let there = stands_there ws c.in_ok-a-in-Both.a.next second in
    let further = skips_further ws (c.args.node + 1) c.in_ok-a-in-Both.a.next first a.skips in
    (omega (arith, c.decreases), (second, (c.requires.built, omega (arith, c.requires.small))))

pub returns-in_err-b-in-Both : goal.returns-in_err-b-in-Both
returns-in_err-b-in-Both t c =
    plan_exit c.args.words.now c.args.inputs.now c.args.names.now c.args.node c.args.left c.from_residual-in_err-b-in-Both.result c.in_err-b-in-Both.field-0.0 c.from_residual-in_err-b-in-Both.ensures.1
    (both_stop_second_at c.args.words.now c.args.inputs.now c.args.names.now c.args.node c.args.left c.in-Some.step c.in-Some.ensures c.in-Both.is c.in_ok-a-in-Both.ensures c.in_err-b-in-Both.ensures)

pub returns-in_default-broadcast : goal.returns-in_default-broadcast
returns-in_default-broadcast t c =
    both_unlike_at c.args.words.now c.args.inputs.now c.args.names.now c.args.node c.args.left c.in-Some.step c.in-Some.ensures c.in-Both.is c.in_ok-a-in-Both.ensures c.in_ok-b-in-Both.ensures _ (sym c.in_default-broadcast.ensures) (ap fault_number c.at.ensures.fault)

pub returns-in-Some-broadcast : goal.returns-in-Some-broadcast
returns-in-Some-broadcast t c =
    both_at c.args.words.now c.args.inputs.now c.args.names.now c.args.node c.args.left c.in-Some.step c.in-Some.ensures c.in-Both.is c.in_ok-a-in-Both.ensures c.in_ok-b-in-Both.ensures (sym c.in-Some-broadcast.ensures.0) c.in-Some-broadcast.ensures.1 c.count_array-in-Both.ensures
