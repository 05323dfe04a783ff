use Rattle.std.proofs.Common.{◌-◌, ap, ◌∙◌, arith}
use Rattle.program.proofs.Closings.{past_again, past_last, past_end, past_other, past_all, neither_other}
use Rattle.program.proofs.words.find_end.Goals as goal

pub loop-step-preserved-in-Again : goal.loop-step-preserved-in-Again
loop-step-preserved-in-Again c =
    let ws = c.args.words.now in
    let (found, same, further) = c.in-Some.ensures.steps in
    let at = rw c.loop-step.invariant.same_words at found in
    record {
      same_words = ap (λ w. w.now) same ∙ c.loop-step.invariant.same_words;
      closes_same = rw further (c.loop-step.invariant.closes_same ∙ past_again ws c.loop-step.steps.node c.in-Some.step at c.loop-step.inside c.in-Again.is);
      few_inside = omega (arith, further);
    }

pub returns-then-inside-eq0 : goal.returns-then-inside-eq0
returns-then-inside-eq0 c =
    let ws = c.args.words.now in
    let (found, same, further) = c.in-Some.ensures.steps in
    let at = rw c.loop-step.invariant.same_words at found in
    record {
      further = omega (arith, further, c.loop-step.invariant.few_inside);
      within = omega (arith, further, at.there);
      is = rw further (c.loop-step.invariant.closes_same ∙ past_last ws c.loop-step.steps.node c.in-Some.step at c.loop-step.inside c.in-End.is c.if-inside-eq0.true);
    }

pub loop-step-preserved-in-End : goal.loop-step-preserved-in-End
loop-step-preserved-in-End c =
    let ws = c.args.words.now in
    let (found, same, further) = c.in-Some.ensures.steps in
    let at = rw c.loop-step.invariant.same_words at found in
    record {
      same_words = ap (λ w. w.now) same ∙ c.loop-step.invariant.same_words;
      closes_same =
          rw further (c.loop-step.invariant.closes_same ∙ past_end ws c.loop-step.steps.node c.in-Some.step at c.loop-step.inside (c.loop-step.inside - 1) (omega arith) c.in-End.is);
      few_inside = omega (arith, further);
    }

pub loop-step-preserved : goal.loop-step-preserved
loop-step-preserved c =
    let ws = c.args.words.now in
    let (found, same, further) = c.in-Some.ensures.steps in
    let at = rw c.loop-step.invariant.same_words at found in
    record {
      same_words = ap (λ w. w.now) same ∙ c.loop-step.invariant.same_words;
      closes_same =
          rw further (c.loop-step.invariant.closes_same ∙ past_other ws c.loop-step.steps.node c.in-Some.step at c.loop-step.inside (neither_other c.in-Some.step c.in_default-step.not-End c.in_default-step.not-Again));
      few_inside = omega (arith, further);
    }

pub returns : goal.returns
returns c =
    let past = rw c.loop-step.invariant.same_words at c.in_default.ensures.steps.0 in
    c.loop-step.invariant.closes_same ∙ past_all c.args.words.now c.loop-step.steps.node c.loop-step.inside past
