use Rattle.std.proofs.Common.{sym, ap, ◌∙◌, arith}
use Rattle.grammar.specs.Moves.{operands_move}
use Rattle.reader.proofs.Turnings.{operands_more}
use Rattle.reader.proofs.turns.operands_turn.Goals as goal

pub returns-then-more-eq0 : goal.returns-then-more-eq0
unfolding operands_move
returns-then-more-eq0 c t e = c.push_when.ensures t e ∙ sym (ap (λ n. operands_move n c.args.b) c.if-more-eq0.true)

pub returns : goal.returns
returns c t e = c.push_when-2.ensures t e ∙ operands_more c.args.more c.args.b (omega arith)
