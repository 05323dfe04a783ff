use Rattle.std.proofs.Common.{Err, arith}
use Rattle.program.proofs.Nodes.{again_body}
use Rattle.program.proofs.Closings.{closes_at, again_closed}
use Rattle.reference.proofs.Lining.{lines_start, lines_closed, lines_over, lines_more, lines_stop, rounds_none, rounds_more, rounds_stop, rounds_all, lines_then, lines_then_run, lines_exit, line_there}
use Rattle.reference.proofs.task.Task.+run_lines.Goals as goal

pub returns-in-End : goal.returns-in-End
returns-in-End t c = record { fits = c.loop-step.invariant.fits; lines = lines_closed c.args.self.now.words.now c.args.self.now.inputs.now c.args.self.now.places c.args.node c.loop-step.at c.args.state.now c.loop-step.state c.loop-step.invariant c.in-Some.step c.in-Some.ensures c.in-End.is }

pub returns : goal.returns
returns t c = record { fits = c.loop-step.invariant.fits; lines = lines_over c.args.self.now.words.now c.args.self.now.inputs.now c.args.self.now.places c.args.node c.loop-step.at c.args.state.now c.loop-step.state c.loop-step.invariant c.in_default.ensures }

-- ---- an `again`
pub unreachable-requires : goal.unreachable-requires
unreachable-requires t c =
    again_closed c.args.self.now.words.now c.loop-step.at c.in-Some.step c.in-Some.ensures c.in-Again.is c.loop-step.invariant.runs c.in_default-find_end.ensures

pub loop-i-init : goal.loop-i-init
loop-i-init t c =
    rounds_none c.args.self.now.words.now c.args.self.now.inputs.now c.args.self.now.places c.loop-step.at c.loop-step.at c.in-Again.count c.loop-step.state c.in-Some.step c.in-Some.ensures c.in-Again.is c.loop-step.state (lines_start c.args.self.now.words.now c.args.self.now.inputs.now c.args.self.now.places c.loop-step.at c.loop-step.state c.loop-step.invariant.runs c.loop-step.invariant.fits)

pub run_lines-requires : goal.run_lines-requires
run_lines-requires t c =
    let there = line_there c.args.self.now.words.now c.loop-step.at c.in-Some.step c.in-Some.ensures in
    (omega (arith, c.decreases, there, c.loop-step.invariant.further), (again_body c.args.self.now.words.now c.loop-step.at c.in-Some.step c.in-Some.ensures c.in-Again.is c.loop-step.invariant.runs, c.loop-i.invariant.fits))

pub returns-in_err-run_lines-in-Again : goal.returns-in_err-run_lines-in-Again
returns-in_err-run_lines-in-Again t c =
    let h = c.in_err-run_lines-in-Again.ensures in
    record {
      fits = h.fits;
      lines = lines_exit c.args.self.now.words.now c.args.self.now.inputs.now c.args.self.now.places c.args.node c.args.state.now c.run_lines.new.state c.from_residual.result c.in_err-run_lines-in-Again.field-0.0 c.from_residual.ensures.1
          (lines_then_run c.args.self.now.words.now c.args.self.now.inputs.now c.args.self.now.places c.args.node c.loop-step.at c.args.state.now c.loop-step.state c.loop-step.invariant c.run_lines.new.state (Err c.in_err-run_lines-in-Again.field-0.0) (rounds_stop c.args.self.now.words.now c.args.self.now.inputs.now c.args.self.now.places c.loop-step.at c.loop-step.at c.in-Again.count c.loop-step.state c.in-Some.step c.in-Some.ensures c.in-Again.is c.loop-i.i c.loop-i.state c.run_lines.new.state c.in_err-run_lines-in-Again.field-0.0 c.loop-i-test.true c.loop-i.invariant h.lines));
    }

pub loop-i-preserved : goal.loop-i-preserved
loop-i-preserved t c =
    let h = c.in_ok-run_lines-in-Again.ensures in
    rounds_more c.args.self.now.words.now c.args.self.now.inputs.now c.args.self.now.places c.loop-step.at c.loop-step.at c.in-Again.count c.loop-step.state c.in-Some.step c.in-Some.ensures c.in-Again.is c.loop-i.i c.loop-i.state c.run_lines.new.state c.in_ok-run_lines-in-Again.field-0 c.loop-i-test.true h.fits c.loop-i.invariant h.lines

pub loop-step-preserved-in-Again : goal.loop-step-preserved-in-Again
loop-step-preserved-in-Again t c =
    let e = c.in-Some-find_end.ensures in
    lines_then c.args.self.now.words.now c.args.self.now.inputs.now c.args.self.now.places c.args.node c.loop-step.at c.args.state.now c.loop-step.state c.loop-step.invariant c.in-Some-find_end.behind c.loop-i.state
    (rounds_all c.args.self.now.words.now c.args.self.now.inputs.now c.args.self.now.places c.loop-step.at c.loop-step.at c.in-Again.count c.loop-step.state c.in-Some.step c.in-Some.ensures c.in-Again.is c.loop-i.i c.loop-i.state c.in-Some-find_end.behind c.loop-i-test.false (omega arith) c.loop-step.invariant.runs (closes_at c.args.self.now.words.now _ c.in-Some-find_end.behind e) (omega (arith, e.further)) c.loop-i.invariant)

pub returns-in_err-at-in_default-step : goal.returns-in_err-at-in_default-step
returns-in_err-at-in_default-step t c =
    let h = c.in_err-at-in_default-step.ensures in
    record {
      fits = h.fits;
      lines = lines_exit c.args.self.now.words.now c.args.self.now.inputs.now c.args.self.now.places c.args.node c.args.state.now c.run_line.new.state c.from_residual-in_err-at-in_default-step.result c.in_err-at-in_default-step.field-0.0 c.from_residual-in_err-at-in_default-step.ensures.1 (lines_stop c.args.self.now.words.now c.args.self.now.inputs.now c.args.self.now.places c.args.node c.loop-step.at c.args.state.now c.loop-step.state c.loop-step.invariant c.run_line.new.state c.in_err-at-in_default-step.field-0.0 h.lines);
    }

pub loop-step-preserved : goal.loop-step-preserved
loop-step-preserved t c =
    let h = c.in_ok-at-in_default-step.ensures in
    lines_more c.args.self.now.words.now c.args.self.now.inputs.now c.args.self.now.places c.args.node c.loop-step.at c.args.state.now c.loop-step.state c.loop-step.invariant c.run_line.new.state c.in_ok-at-in_default-step.at h.fits h.lines
