use Rattle.std.proofs.Common.{◌+◌, ap, ◌∙◌, arith}
use Rattle.kernels.proofs.Feeding.{mod_round, mod_next}
use Rattle.kernels.proofs.leaves.next_index.Goals as goal

pub returns-then-index-len : goal.returns-then-index-len
returns-then-index-len c n e = mod_round n c.args.len (omega arith)

pub returns-else-index-len : goal.returns-else-index-len
returns-else-index-len c n e = ap (λ i. i + 1) e ∙ mod_next n c.args.len (omega arith)
