use Rattle.std.proofs.Common.{refl, arith}
use Rattle.runtime.proofs.Planning.{counts_over, counts_made}
use Rattle.runtime.proofs.plan.count_array.Goals as goal

pub returns-then-size-left : goal.returns-then-size-left
returns-then-size-left c = counts_over c.args.shape c.args.left c.args.before c.args.next c.size-size.result c.size-size.ensures c.requires.small c.requires.within _ c.at.ensures.fault (omega arith)

pub returns : goal.returns
returns c = counts_made c.args.shape c.args.left c.args.before c.args.next c.size-size.result c.size-size.ensures c.requires.small c.requires.within (omega arith)
