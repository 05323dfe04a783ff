use Rattle.std.proofs.Common.{sym}
use lib.Ieee.{lt}
use Rattle.std.proofs.lemmas.Bool.{cond-true, cond-false}
use Rattle.numbers.proofs.Floated.{made_most}
use Rattle.numbers.proofs.operators.GreaterOnTwo.apply.Goals as goal

pub returns-then-y-x : goal.returns-then-y-x
returns-then-y-x c = made_most (sym (cond-true (lt c.args.y c.args.x) c.args.x c.args.y c.if-y-x.true))

pub returns-else-y-x : goal.returns-else-y-x
returns-else-y-x c = made_most (sym (cond-false (lt c.args.y c.args.x) c.args.x c.args.y c.if-y-x.false))
