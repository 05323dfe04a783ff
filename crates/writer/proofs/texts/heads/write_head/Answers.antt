use Rattle.std.proofs.Common.{◌≡◌, ◌<◌, length, sym, ap, ◌∙◌, arith}
use Rattle.std.proofs.lemmas.Bool.Decides.{nat_tests}
use Rattle.program.specs.Standing.{steps_from}
use Rattle.program.proofs.Storing.{length_steps_in}
use Rattle.writer.specs.StepTexts.{closer, step_text, head_text, head_behind}
use Rattle.writer.proofs.Overlays.{laid_more, laid_as}
use Rattle.writer.proofs.Bracketed.{with_none, with_some, closed_none, closed_some, closer_short}
use Rattle.writer.proofs.texts.heads.write_head.Goals as goal

pub put_step-head-requires : goal.put_step-head-requires
put_step-head-requires c = omega (arith, c.requires.few, c.requires.inside, c.requires.low, length_steps_in c.args.words.now)

pub returns-then-is_empty : goal.returns-then-is_empty
unfolding head_text head_behind
returns-then-is_empty c =
    let t = steps_from c.args.words.now c.args.node in
    let s = c.args.step in
    let here : length c.find_closer-close.result.now ≡ 0 = grind (arith, nat_tests, c.is_empty.ensures, c.if-is_empty.true) in
    let none : length (closer s) ≡ 0 = sym (ap length c.find_closer-close.ensures) ∙ here in
    record {
      laid = laid_as (head_text s t) (sym (with_none (closer s) (step_text s) t none)) c.put_step-head.ensures.laid;
      on = sym (closed_none (closer s) t none);
      further = omega arith;
      within = c.requires.inside;
      short = omega (arith, c.put_step-head.ensures.short);
    }

pub put_bytes-requires : goal.put_bytes-requires
put_bytes-requires c =
    let list = c.write_list-list.ensures.passed in
    omega (arith, list.short, list.within, list.further, c.requires.few, c.requires.low, c.put_step-head.ensures.short, length_steps_in c.args.words.now, ap length c.find_closer-close.ensures, closer_short c.args.step)

pub returns : goal.returns
unfolding head_text head_behind
returns c =
    let t = steps_from c.args.words.now c.args.node in
    let s = c.args.step in
    let here : 0 < length c.find_closer-close.result.now = grind (arith, nat_tests, c.is_empty.ensures, c.if-is_empty.false) in
    let some : 0 < length (closer s) = omega (arith, ap length c.find_closer-close.ensures) in
    let close = laid_as (closer s) c.find_closer-close.ensures c.put_bytes.ensures in
    let list = c.write_list-list.ensures in
    record {
      laid = laid_as (head_text s t) (sym (with_some (closer s) (step_text s) t some)) (laid_more (laid_more c.put_step-head.ensures.laid list.laid) close);
      on = list.on ∙ sym (closed_some (closer s) t some);
      further = list.passed.further;
      within = list.passed.within;
      short = omega (arith, list.passed.short, c.put_step-head.ensures.short, close.ends, closer_short s);
    }
