use Rattle.std.proofs.Common.{◌+◌, [], sym, refl, ◌∙◌, arith}
use Rattle.program.specs.Standing.{steps_from}
use Rattle.writer.specs.StepTexts.{more_text}
use Rattle.writer.proofs.Overlays.{laid_more, left_more, left_laid, left_as, left_all}
use Rattle.writer.proofs.Bracketed.{list_past, list_ends, list_goes_on}
use Rattle.writer.proofs.texts.heads.write_more.Goals as goal

pub returns-then-not-is_listed : goal.returns-then-not-is_listed
returns-then-not-is_listed c =
    let ws = c.args.words.now in
    let none = list_ends ws c.loop-step.next c.in-Some.step c.in-Some.ensures (sym c.is_listed.ensures ∙ c.if-not-is_listed.true) in
    record {
      laid = left_all (left_as (more_text (steps_from ws c.args.node)) [] refl none.more c.loop-step.invariant.0);
      on = sym none.on ∙ c.loop-step.invariant.1;
      passed = c.loop-step.invariant.2;
    }

pub loop-step-preserved : goal.loop-step-preserved
loop-step-preserved c =
    let ws = c.args.words.now in
    let i = c.loop-step.next in
    let at = c.in-Some.ensures in
    let some = list_goes_on ws i c.in-Some.step at (sym c.is_listed.ensures ∙ c.if-not-is_listed.false) in
    let laid = laid_more c.put_bytes-gap.ensures c.put_step-behind.ensures.laid in
    let rest = more_text (steps_from ws (i + 1)) in
    let was = c.loop-step.invariant.2 in (
      left_more c.loop-step.invariant.0 (left_as (more_text (steps_from ws i)) rest (sym some.more) refl (left_laid laid rest)),
      sym some.on ∙ c.loop-step.invariant.1,
      record {
        further = omega (arith, was.further);
        within = omega (arith, at.there);
        short = omega (arith, was.short, c.put_bytes-gap.ensures.ends, c.put_step-behind.ensures.short);
      },
    )

pub returns : goal.returns
returns c =
    let ws = c.args.words.now in
    let none = list_past ws c.loop-step.next c.in_default.ensures in
    record {
      laid = left_all (left_as (more_text (steps_from ws c.args.node)) [] refl none.more c.loop-step.invariant.0);
      on = sym none.on ∙ c.loop-step.invariant.1;
      passed = c.loop-step.invariant.2;
    }
