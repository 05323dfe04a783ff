use Rattle.std.proofs.Common.{◌+◌, length, Ok, Err, sym, refl, ◌∙◌, subst, arith}
use Rattle.program.proofs.Nodes.{let_operand, let_lines, show_operand, show_lines, runs_opens}
use Rattle.runtime.proofs.Building.{step_built, built_lines}
use Rattle.runtime.proofs.Planning.{skips_further}
use Rattle.runtime.proofs.Running.{LinesAt, runs_same, lines_start, lines_standing, lines_over, let_more, let_stops, show_more, show_stops}
use Rattle.runtime.proofs.Stops.{handed_on}
use Rattle.runtime.proofs.run.run_lines.Goals as goal

pub loop-step-init : goal.loop-step-init
loop-step-init c =
    let m = c.no_names-memory.ensures in
    subst (λ s. LinesAt c.args.words.now c.args.inputs.now (length c.args.area.now) 0 s c.args.area.now c.no_names-memory.result c.args.room.now c.args.room.now c.args.scratch.now) (sym c.requires.first)
    (lines_start c.args.words.now c.args.inputs.now c.args.area.now c.no_names-memory.result c.args.room.now c.args.scratch.now c.requires.stands
    (record { each = λ i. (c.type_inv.inputs i).fits })
    (record { neat = m.neat; counted = m.counted; fills = m.fills; room = omega (arith, m.zero); within = omega (arith, m.zero) })
    m.tabled c.requires.scratch)

pub run_let-requires : goal.run_let-requires
run_let-requires c =
    let inv = c.loop-step.invariant in
    record {
      stands = let_operand c.args.words.now c.loop-step.at c.in-Some.step c.in-Some.ensures c.in-Let.is inv.runs;
      runnable = c.requires.runnable;
      standing = lines_standing c.args.words.now c.args.inputs.now _ c.loop-step.at c.loop-step.shown c.loop-step.area c.loop-step.memory c.args.room.now c.loop-step.room c.loop-step.scratch inv c.requires.stands;
      keeps = inv.keeps;
      small = omega (arith, inv.long, c.requires.small);
      scratch = inv.blocks;
    }

pub run_show-requires : goal.run_show-requires
run_show-requires c =
    let inv = c.loop-step.invariant in
    record {
      stands = show_operand c.args.words.now c.loop-step.at c.in-Some.step c.in-Some.ensures c.in-Show.is inv.runs;
      runnable = c.requires.runnable;
      standing = lines_standing c.args.words.now c.args.inputs.now _ c.loop-step.at c.loop-step.shown c.loop-step.area c.loop-step.memory c.args.room.now c.loop-step.room c.loop-step.scratch inv c.requires.stands;
      keeps = inv.keeps;
      small = omega (arith, inv.long, c.requires.small);
      behind = omega (arith, inv.behind, inv.wide);
      scratch = inv.blocks;
    }

pub returns : goal.returns
returns c =
    λ ran e f.
    runs_same ran c.loop-step.shown (Ok tt) e f
    (lines_over c.args.words.now c.args.inputs.now _ c.loop-step.at c.loop-step.shown c.loop-step.area c.loop-step.memory c.args.room.now c.loop-step.room c.loop-step.scratch c.loop-step.invariant c.requires.stands c.in_default.ensures)

pub unreachable-requires : goal.unreachable-requires
unreachable-requires c =
    let ws = c.args.words.now in
    let at = c.in-Some.ensures in
    built_lines c.in-Some.step (step_built ws c.loop-step.at c.in-Some.step at c.requires.runnable.built) (runs_opens ws c.loop-step.at c.in-Some.step at refl c.loop-step.invariant.runs) c.in_default-step.not-Let c.in_default-step.not-Show

-- ---- lets
pub loop-step-smaller-in-Let : goal.loop-step-smaller-in-Let
loop-step-smaller-in-Let c =
    let ws = c.args.words.now in
    let at = c.in-Some.ensures in
    let st = let_operand ws c.loop-step.at c.in-Some.step at c.in-Let.is c.loop-step.invariant.runs in
    let further = skips_further ws (c.loop-step.at + 1) c.in_ok-at-in-Let.at st c.in_ok-at-in-Let.ensures.skips in
    omega (arith, at.there)

pub loop-step-preserved-in-Let : goal.loop-step-preserved-in-Let
loop-step-preserved-in-Let c =
    let ws = c.args.words.now in
    let at = c.in-Some.ensures in
    let inv = c.loop-step.invariant in
    let h = c.in_ok-at-in-Let.ensures in
    let_more ws c.args.inputs.now _ c.loop-step.at c.loop-step.shown c.loop-step.area c.loop-step.memory c.args.room.now c.loop-step.room c.loop-step.scratch inv c.requires.stands c.in-Some.step at c.in-Let.is
    c.run_let.new.area c.run_let.new.memory c.in_ok-at-in-Let.at c.run_let.new.scratch (omega (arith, inv.blocks, c.run_let.auto.scratch)) c.run_let.auto.area (let_lines ws c.loop-step.at c.in-Some.step at c.in-Let.is inv.runs c.in_ok-at-in-Let.at h.skips) h.skips h.keeps h.right

pub returns-in_err-at-in-Let : goal.returns-in_err-at-in-Let
returns-in_err-at-in-Let c =
    let x = c.in_err-at-in-Let.field-0.0 in
    λ ran e f.
    runs_same ran c.loop-step.shown (Err x) e (f ∙ handed_on c.from_residual.result x c.from_residual.ensures.1)
    (let_stops c.args.words.now c.args.inputs.now _ c.loop-step.at c.loop-step.shown c.loop-step.area c.loop-step.memory c.args.room.now c.loop-step.room c.loop-step.scratch c.loop-step.invariant c.requires.stands c.in-Some.step c.in-Some.ensures c.in-Let.is
    c.run_let.new.area c.run_let.new.memory x c.in_err-at-in-Let.ensures.right)

-- ---- shows
pub loop-step-smaller : goal.loop-step-smaller
loop-step-smaller c =
    let ws = c.args.words.now in
    let at = c.in-Some.ensures in
    let st = show_operand ws c.loop-step.at c.in-Some.step at c.in-Show.is c.loop-step.invariant.runs in
    let further = skips_further ws (c.loop-step.at + 1) c.in_ok-behind-in-Show.behind.next st c.in_ok-behind-in-Show.ensures.skips in
    omega (arith, at.there)

pub loop-step-preserved : goal.loop-step-preserved
loop-step-preserved c =
    let ws = c.args.words.now in
    let at = c.in-Some.ensures in
    let inv = c.loop-step.invariant in
    let h = c.in_ok-behind-in-Show.ensures in
    show_more ws c.args.inputs.now _ c.loop-step.at c.loop-step.shown c.loop-step.area c.loop-step.memory c.args.room.now c.loop-step.room c.loop-step.scratch inv c.requires.stands c.in-Some.step at c.in-Show.is
    c.run_show.new.room c.in_ok-behind-in-Show.behind c.run_show.new.scratch (omega (arith, inv.blocks, c.run_show.auto.scratch)) c.run_show.auto.room (show_lines ws c.loop-step.at c.in-Some.step at c.in-Show.is inv.runs c.in_ok-behind-in-Show.behind.next h.skips) h.skips h.right

pub returns-in_err-behind-in-Show : goal.returns-in_err-behind-in-Show
returns-in_err-behind-in-Show c =
    let x = c.in_err-behind-in-Show.field-0.0 in
    λ ran e f.
    runs_same ran c.loop-step.shown (Err x) e (f ∙ handed_on c.from_residual-in_err-behind-in-Show.result x c.from_residual-in_err-behind-in-Show.ensures.1)
    (show_stops c.args.words.now c.args.inputs.now _ c.loop-step.at c.loop-step.shown c.loop-step.area c.loop-step.memory c.args.room.now c.loop-step.room c.loop-step.scratch c.loop-step.invariant c.requires.stands c.in-Some.step c.in-Some.ensures c.in-Show.is
    c.run_show.new.room x c.in_err-behind-in-Show.ensures.right)
