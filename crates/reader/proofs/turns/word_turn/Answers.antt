use Rattle.std.proofs.Common.{[], ◌∷◌, sym, ap}
use Rattle.grammar.specs.Moves.{when, move}
use Rattle.reader.specs.Names.{part}
use Rattle.reader.specs.Turning.{flag_of}
use Rattle.reader.proofs.turns.word_turn.Goals as goal

pub returns-then-not-ok : goal.returns-then-not-ok
unfolding when
returns-then-not-ok c t e = sym (ap (λ x. when x (move (flag_of c.args.mark) [] (c.args.symbol ∷ []) (part t c.args.from e) 0)) c.if-not-ok.true)

pub returns : goal.returns
unfolding when
returns c t e = sym (ap (λ x. when x (move (flag_of c.args.mark) [] (c.args.symbol ∷ []) (part t c.args.from e) 0)) c.if-not-ok.false)
