use Rattle.std.proofs.Common.{ap, subst}
use Rattle.semantics.specs.Shapes.{pick}
use Rattle.numbers.specs.Standing.{StandsFor}
use Rattle.kernels.proofs.blocks.choose_float.Goals as goal

pub returns-then-truth_of : goal.returns-then-truth_of
returns-then-truth_of c = record { on = λ a b d s t u. subst (StandsFor c.args.x) (ap (λ v. pick v b d) (c.if-truth_of.ensures a s)) t }

pub returns-else-truth_of : goal.returns-else-truth_of
returns-else-truth_of c = record { on = λ a b d s t u. subst (StandsFor c.args.y) (ap (λ v. pick v b d) (c.if-truth_of.ensures a s)) u }
