use Rattle.std.proofs.Common.{sym, ◌∙◌, arith}
use Rattle.program.specs.Standing.{steps_from}
use Rattle.writer.specs.StepTexts.{list_text}
use Rattle.writer.proofs.Overlays.{laid_none, laid_more, laid_as}
use Rattle.writer.proofs.Bracketed.{list_past, list_ends, list_goes_on}
use Rattle.writer.proofs.texts.heads.write_list.Goals as goal

pub returns-in_default : goal.returns-in_default
returns-in_default c =
    let ws = c.args.words.now in
    let none = list_past ws c.args.node c.in_default.ensures in
    record {
      laid = laid_as (list_text (steps_from ws c.args.node)) (sym none.list) (laid_none c.args.room.now c.args.at);
      on = sym none.on;
      passed = record { further = omega arith; within = c.requires.inside; short = omega arith };
    }

pub returns-then-not-is_listed : goal.returns-then-not-is_listed
returns-then-not-is_listed c =
    let ws = c.args.words.now in
    let none = list_ends ws c.args.node c.in-Some.step c.in-Some.ensures (sym c.is_listed.ensures ∙ c.if-not-is_listed.true) in
    record {
      laid = laid_as (list_text (steps_from ws c.args.node)) (sym none.list) (laid_none c.args.room.now c.args.at);
      on = sym none.on;
      passed = record { further = omega arith; within = c.requires.inside; short = omega arith };
    }

pub returns : goal.returns
returns c =
    let ws = c.args.words.now in
    let some = list_goes_on ws c.args.node c.in-Some.step c.in-Some.ensures (sym c.is_listed.ensures ∙ c.if-not-is_listed.false) in
    let more = c.write_more.ensures in
    record {
      laid = laid_as (list_text (steps_from ws c.args.node)) (sym some.list) (laid_more c.put_step-first.ensures.laid more.laid);
      on = more.on ∙ sym some.on;
      passed = record {
        further = omega (arith, more.passed.further);
        within = more.passed.within;
        short = omega (arith, more.passed.short, c.put_step-first.ensures.short);
      };
    }
