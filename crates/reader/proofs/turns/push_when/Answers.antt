use Rattle.std.proofs.Common.{sym, ap}
use Rattle.grammar.specs.Moves.{when, push}
use Rattle.reader.specs.Pushed.{symbols_of}
use Rattle.reader.proofs.turns.push_when.Goals as goal

pub returns-then-not-ok : goal.returns-then-not-ok
unfolding when
returns-then-not-ok c t e = sym (ap (λ x. when x (push (symbols_of c.args.pushes))) c.if-not-ok.true)

pub returns : goal.returns
unfolding when push
returns c t e = sym (ap (λ x. when x (push (symbols_of c.args.pushes))) c.if-not-ok.false)
