use Rattle.std.proofs.Common.{sym}
use lib.Ieee.{lt}
use Rattle.std.proofs.lemmas.Bool.{cond-true, cond-false}
use Rattle.numbers.proofs.Floated.{made_least}
use Rattle.numbers.proofs.operators.LesserOnTwo.apply.Goals as goal

pub returns-then-x-y : goal.returns-then-x-y
returns-then-x-y c = made_least (sym (cond-true (lt c.args.x c.args.y) c.args.x c.args.y c.if-x-y.true))

pub returns-else-x-y : goal.returns-else-x-y
returns-else-x-y c = made_least (sym (cond-false (lt c.args.x c.args.y) c.args.x c.args.y c.if-x-y.false))
