use Rattle.std.proofs.Common.{◌+◌, ◌≤◌, sym, ◌∙◌, subst, arith}
use Rattle.std.proofs.lemmas.Bool.{not-false}
use Rattle.semantics.specs.Shapes.{size}
use Rattle.semantics.proofs.Inside.{same_true}
use Rattle.kernels.specs.Operands.{ViewRun}
use Rattle.kernels.proofs.runs.view_run.Goals as goal

pub packed_run-requires : goal.packed_run-requires
packed_run-requires c =
    record {
      good = c.requires.good;
      there = c.requires.there;
      packed = c.is_packed.ensures.0 c.if-not-is_packed.false;
      within = subst (λ w. c.args.first + c.args.count ≤ size w) (sym (same_true _ _ (not-false _ (sym c.ne.ensures ∙ c.if-ne.false)))) c.requires.within;
      any = omega arith;
    }

pub returns : goal.returns
returns c =
    subst (λ w. ViewRun c.args.env.now.lent.area.now c.args.env.now.lent.bytes.now c.args.view.now w c.args.first c.args.count c.packed_run.result) (same_true _ _ (not-false _ (sym c.ne.ensures ∙ c.if-ne.false))) c.packed_run.ensures
