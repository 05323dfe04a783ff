use Rattle.std.proofs.Common.{◌≡◌, ◌+◌, ◌-◌, ap, ◌∙◌, inr, arith}
use Rattle.program.specs.Standing.{steps_from}
use Rattle.program.proofs.Behinds.{behind_step, behind_past, behind_none, awaits_few}
use Rattle.program.proofs.words.find_behind.Goals as goal

pub returns-in_err-next : goal.returns-in_err-next
returns-in_err-next c =
    let past = rw c.loop-wanted.invariant.same_words at c.in_err-next.ensures.steps.0 in
    rw c.from_residual.ensures
    (c.loop-wanted.invariant.behind_same ∙ behind_past c.args.words.now c.loop-wanted.steps.node c.loop-wanted.wanted (omega arith) past)

pub loop-wanted-preserved : goal.loop-wanted-preserved
loop-wanted-preserved c =
    let ws = c.args.words.now in
    let step = c.in_ok-next.field-0 in
    let (found, same, further) = c.in_ok-next.ensures.steps in
    let at = rw c.loop-wanted.invariant.same_words at found in
    let few = awaits_few step in
    record {
      same_words = ap (λ w. w.now) same ∙ c.loop-wanted.invariant.same_words;
      behind_same =
          rw further (c.loop-wanted.invariant.behind_same ∙ behind_step ws c.loop-wanted.steps.node step c.loop-wanted.wanted _ at (omega arith) (ap (λ n. c.loop-wanted.wanted - 1 + n) c.awaited.ensures));
      few_wanted = omega (arith, c.awaited.ensures, further);
      within = inr (omega (arith, further, c.loop-wanted.invariant.within), omega (arith, further, at.there));
    }

pub returns : goal.returns
returns c =
    let none : c.loop-wanted.wanted ≡ 0 = omega arith in
    record {
      further = omega (arith, c.loop-wanted.invariant.within);
      within = omega (arith, c.loop-wanted.invariant.within);
      is = c.loop-wanted.invariant.behind_same ∙ behind_none (steps_from c.args.words.now c.loop-wanted.steps.node) c.loop-wanted.wanted none;
    }
