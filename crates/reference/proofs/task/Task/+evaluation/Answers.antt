use Rattle.std.proofs.Common.{sym, arith}
use Rattle.program.proofs.Nodes.{stands_there}
use Rattle.reference.proofs.Evaluating.{evaluated, exited, one_stands, one_falls, one_stop, one_skips, one_right, two_stands, two_falls, two_stop, two_stands_second, two_falls_second, two_stop_second, two_skips, two_right, three_stands, three_falls, three_stop, three_stands_second, three_falls_second, three_stop_second, three_stands_third, three_falls_third, three_stop_third, three_skips, three_right}
use Rattle.reference.proofs.task.Task.+evaluation.Goals as goal

pub evaluate-unreachable-requires : goal.evaluate-unreachable-requires
evaluate-unreachable-requires t c = omega (arith, c.in_default.ensures, stands_there c.args.self.now.words.now c.args.node c.requires.stands)

pub evaluate-evaluate_one-requires : goal.evaluate-evaluate_one-requires
evaluate-evaluate_one-requires t c =
    (omega (arith, c.decreases), (c.requires.stands, (c.in-Some.ensures, sym c.in-One.ensures)))

pub evaluate-evaluate_two-requires : goal.evaluate-evaluate_two-requires
evaluate-evaluate_two-requires t c =
    (omega (arith, c.decreases), (c.requires.stands, (c.in-Some.ensures, sym c.in-Two.ensures)))

pub evaluate-evaluate_three-requires : goal.evaluate-evaluate_three-requires
evaluate-evaluate_three-requires t c =
    (omega (arith, c.decreases), (c.requires.stands, (c.in-Some.ensures, sym c.in-Three.ensures)))

-- ---- one operand
pub evaluate_one-evaluate-requires : goal.evaluate_one-evaluate-requires
evaluate_one-evaluate-requires t c =
    (omega (arith, c.decreases, one_falls c.args.self.now.words.now c.args.self.now.inputs.now c.args.names.now c.args.node c.args.self.now.places c.requires.stands c.args.step c.requires.at c.skip_brackets-operand.result c.skip_brackets-operand.ensures.skips c.requires.single), (one_stands c.args.self.now.words.now c.args.self.now.inputs.now c.args.names.now c.args.node c.args.self.now.places c.requires.stands c.args.step c.requires.at c.skip_brackets-operand.result c.skip_brackets-operand.ensures.skips c.requires.single))

pub evaluate_one-returns-in_err-a : goal.evaluate_one-returns-in_err-a
evaluate_one-returns-in_err-a t c =
    exited c.args.self.now.words.now c.args.self.now.inputs.now c.args.names.now c.args.node c.args.self.now.places c.from_residual.result c.in_err-a.field-0.0 c.from_residual.ensures.1
    (one_stop c.args.self.now.words.now c.args.self.now.inputs.now c.args.names.now c.args.node c.args.self.now.places c.requires.stands c.args.step c.requires.at c.skip_brackets-operand.result c.skip_brackets-operand.ensures.skips c.requires.single c.in_err-a.ensures)

pub evaluate_one-returns-in_err-made : goal.evaluate_one-returns-in_err-made
evaluate_one-returns-in_err-made t c =
    exited c.args.self.now.words.now c.args.self.now.inputs.now c.args.names.now c.args.node c.args.self.now.places c.from_residual-in_err-made.result c.in_err-made.field-0.0 c.from_residual-in_err-made.ensures.1
    (one_right c.args.self.now.words.now c.args.self.now.inputs.now c.args.names.now c.args.node c.args.self.now.places c.requires.stands c.args.step c.requires.at c.skip_brackets-operand.result c.skip_brackets-operand.ensures.skips c.requires.single c.in_ok-a.a c.in_ok-a.ensures _ c.in_err-made.ensures)

pub evaluate_one-returns : goal.evaluate_one-returns
evaluate_one-returns t c =
    evaluated c.args.self.now.words.now c.args.self.now.inputs.now c.args.names.now c.args.node c.args.self.now.places _ c.requires.stands
    (one_skips c.args.self.now.words.now c.args.self.now.inputs.now c.args.names.now c.args.node c.args.self.now.places c.requires.stands c.args.step c.requires.at c.skip_brackets-operand.result c.skip_brackets-operand.ensures.skips c.requires.single c.in_ok-a.a c.in_ok-a.ensures)
    (one_right c.args.self.now.words.now c.args.self.now.inputs.now c.args.names.now c.args.node c.args.self.now.places c.requires.stands c.args.step c.requires.at c.skip_brackets-operand.result c.skip_brackets-operand.ensures.skips c.requires.single c.in_ok-a.a c.in_ok-a.ensures _ c.in_ok-made.ensures)

-- ---- two operands
pub evaluate_two-evaluate-requires : goal.evaluate_two-evaluate-requires
evaluate_two-evaluate-requires t c =
    (omega (arith, c.decreases, two_falls c.args.self.now.words.now c.args.self.now.inputs.now c.args.names.now c.args.node c.args.self.now.places c.requires.stands c.args.step c.requires.at c.requires.double), (two_stands c.args.self.now.words.now c.args.self.now.inputs.now c.args.names.now c.args.node c.args.self.now.places c.requires.stands c.args.step c.requires.at c.requires.double))

pub evaluate_two-returns-in_err-a : goal.evaluate_two-returns-in_err-a
evaluate_two-returns-in_err-a t c =
    exited c.args.self.now.words.now c.args.self.now.inputs.now c.args.names.now c.args.node c.args.self.now.places c.from_residual.result c.in_err-a.field-0.0 c.from_residual.ensures.1
    (two_stop c.args.self.now.words.now c.args.self.now.inputs.now c.args.names.now c.args.node c.args.self.now.places c.requires.stands c.args.step c.requires.at c.requires.double c.in_err-a.ensures)

pub evaluate_two-evaluate-requires-2 : goal.evaluate_two-evaluate-requires-2
evaluate_two-evaluate-requires-2 t c =
    (omega (arith, c.decreases, two_falls_second c.args.self.now.words.now c.args.self.now.inputs.now c.args.names.now c.args.node c.args.self.now.places c.requires.stands c.args.step c.requires.at c.requires.double c.in_ok-a.a c.in_ok-a.ensures), (two_stands_second c.args.self.now.words.now c.args.self.now.inputs.now c.args.names.now c.args.node c.args.self.now.places c.requires.stands c.args.step c.requires.at c.requires.double c.in_ok-a.a c.in_ok-a.ensures))

pub evaluate_two-returns-in_err-b : goal.evaluate_two-returns-in_err-b
evaluate_two-returns-in_err-b t c =
    exited c.args.self.now.words.now c.args.self.now.inputs.now c.args.names.now c.args.node c.args.self.now.places c.from_residual-in_err-b.result c.in_err-b.field-0.0 c.from_residual-in_err-b.ensures.1
    (two_stop_second c.args.self.now.words.now c.args.self.now.inputs.now c.args.names.now c.args.node c.args.self.now.places c.requires.stands c.args.step c.requires.at c.requires.double c.in_ok-a.a c.in_ok-a.ensures c.in_err-b.ensures)

pub evaluate_two-returns-in_err-made : goal.evaluate_two-returns-in_err-made
evaluate_two-returns-in_err-made t c =
    exited c.args.self.now.words.now c.args.self.now.inputs.now c.args.names.now c.args.node c.args.self.now.places c.from_residual-in_err-made.result c.in_err-made.field-0.0 c.from_residual-in_err-made.ensures.1
    (two_right c.args.self.now.words.now c.args.self.now.inputs.now c.args.names.now c.args.node c.args.self.now.places c.requires.stands c.args.step c.requires.at c.requires.double c.in_ok-a.a c.in_ok-a.ensures c.in_ok-b.b c.in_ok-b.ensures _ c.in_err-made.ensures)

pub evaluate_two-returns : goal.evaluate_two-returns
evaluate_two-returns t c =
    evaluated c.args.self.now.words.now c.args.self.now.inputs.now c.args.names.now c.args.node c.args.self.now.places _ c.requires.stands
    (two_skips c.args.self.now.words.now c.args.self.now.inputs.now c.args.names.now c.args.node c.args.self.now.places c.requires.stands c.args.step c.requires.at c.requires.double c.in_ok-a.a c.in_ok-a.ensures c.in_ok-b.b c.in_ok-b.ensures)
    (two_right c.args.self.now.words.now c.args.self.now.inputs.now c.args.names.now c.args.node c.args.self.now.places c.requires.stands c.args.step c.requires.at c.requires.double c.in_ok-a.a c.in_ok-a.ensures c.in_ok-b.b c.in_ok-b.ensures _ c.in_ok-made.ensures)

-- ---- three operands
pub evaluate_three-evaluate-requires : goal.evaluate_three-evaluate-requires
evaluate_three-evaluate-requires t c =
    (omega (arith, c.decreases, three_falls c.args.self.now.words.now c.args.self.now.inputs.now c.args.names.now c.args.node c.args.self.now.places c.requires.stands c.args.step c.requires.at c.requires.triple), (three_stands c.args.self.now.words.now c.args.self.now.inputs.now c.args.names.now c.args.node c.args.self.now.places c.requires.stands c.args.step c.requires.at c.requires.triple))

pub evaluate_three-returns-in_err-a : goal.evaluate_three-returns-in_err-a
evaluate_three-returns-in_err-a t c =
    exited c.args.self.now.words.now c.args.self.now.inputs.now c.args.names.now c.args.node c.args.self.now.places c.from_residual.result c.in_err-a.field-0.0 c.from_residual.ensures.1
    (three_stop c.args.self.now.words.now c.args.self.now.inputs.now c.args.names.now c.args.node c.args.self.now.places c.requires.stands c.args.step c.requires.at c.requires.triple c.in_err-a.ensures)

pub evaluate_three-evaluate-requires-2 : goal.evaluate_three-evaluate-requires-2
evaluate_three-evaluate-requires-2 t c =
    (omega (arith, c.decreases, three_falls_second c.args.self.now.words.now c.args.self.now.inputs.now c.args.names.now c.args.node c.args.self.now.places c.requires.stands c.args.step c.requires.at c.requires.triple c.in_ok-a.a c.in_ok-a.ensures), (three_stands_second c.args.self.now.words.now c.args.self.now.inputs.now c.args.names.now c.args.node c.args.self.now.places c.requires.stands c.args.step c.requires.at c.requires.triple c.in_ok-a.a c.in_ok-a.ensures))

pub evaluate_three-returns-in_err-b : goal.evaluate_three-returns-in_err-b
evaluate_three-returns-in_err-b t c =
    exited c.args.self.now.words.now c.args.self.now.inputs.now c.args.names.now c.args.node c.args.self.now.places c.from_residual-in_err-b.result c.in_err-b.field-0.0 c.from_residual-in_err-b.ensures.1
    (three_stop_second c.args.self.now.words.now c.args.self.now.inputs.now c.args.names.now c.args.node c.args.self.now.places c.requires.stands c.args.step c.requires.at c.requires.triple c.in_ok-a.a c.in_ok-a.ensures c.in_err-b.ensures)

pub evaluate_three-evaluate-requires-3 : goal.evaluate_three-evaluate-requires-3
evaluate_three-evaluate-requires-3 t c =
    (omega (arith, c.decreases, three_falls_third c.args.self.now.words.now c.args.self.now.inputs.now c.args.names.now c.args.node c.args.self.now.places c.requires.stands c.args.step c.requires.at c.requires.triple c.in_ok-a.a c.in_ok-a.ensures c.in_ok-b.b c.in_ok-b.ensures), (three_stands_third c.args.self.now.words.now c.args.self.now.inputs.now c.args.names.now c.args.node c.args.self.now.places c.requires.stands c.args.step c.requires.at c.requires.triple c.in_ok-a.a c.in_ok-a.ensures c.in_ok-b.b c.in_ok-b.ensures))

pub evaluate_three-returns-in_err-d : goal.evaluate_three-returns-in_err-d
evaluate_three-returns-in_err-d t c =
    exited c.args.self.now.words.now c.args.self.now.inputs.now c.args.names.now c.args.node c.args.self.now.places c.from_residual-in_err-d.result c.in_err-d.field-0.0 c.from_residual-in_err-d.ensures.1
    (three_stop_third c.args.self.now.words.now c.args.self.now.inputs.now c.args.names.now c.args.node c.args.self.now.places c.requires.stands c.args.step c.requires.at c.requires.triple c.in_ok-a.a c.in_ok-a.ensures c.in_ok-b.b c.in_ok-b.ensures c.in_err-d.ensures)

pub evaluate_three-returns-in_err-made : goal.evaluate_three-returns-in_err-made
evaluate_three-returns-in_err-made t c =
    exited c.args.self.now.words.now c.args.self.now.inputs.now c.args.names.now c.args.node c.args.self.now.places c.from_residual-in_err-made.result c.in_err-made.field-0.0 c.from_residual-in_err-made.ensures.1
    (three_right c.args.self.now.words.now c.args.self.now.inputs.now c.args.names.now c.args.node c.args.self.now.places c.requires.stands c.args.step c.requires.at c.requires.triple c.in_ok-a.a c.in_ok-a.ensures c.in_ok-b.b c.in_ok-b.ensures c.in_ok-d.d c.in_ok-d.ensures _ c.in_err-made.ensures)

pub evaluate_three-returns : goal.evaluate_three-returns
evaluate_three-returns t c =
    evaluated c.args.self.now.words.now c.args.self.now.inputs.now c.args.names.now c.args.node c.args.self.now.places _ c.requires.stands
    (three_skips c.args.self.now.words.now c.args.self.now.inputs.now c.args.names.now c.args.node c.args.self.now.places c.requires.stands c.args.step c.requires.at c.requires.triple c.in_ok-a.a c.in_ok-a.ensures c.in_ok-b.b c.in_ok-b.ensures c.in_ok-d.d c.in_ok-d.ensures)
    (three_right c.args.self.now.words.now c.args.self.now.inputs.now c.args.names.now c.args.node c.args.self.now.places c.requires.stands c.args.step c.requires.at c.requires.triple c.in_ok-a.a c.in_ok-a.ensures c.in_ok-b.b c.in_ok-b.ensures c.in_ok-d.d c.in_ok-d.ensures _ c.in_ok-made.ensures)
