use Rattle.std.proofs.Common.{◌≡◌, [], ◌∷◌, codes, sym, ap, ◌∙◌, arith}
use Rattle.grammar.specs.declared.symbol.Symbol.{Symbol}
use Rattle.grammar.specs.Letters.{closes}
use Rattle.program.specs.declared.step.Step.{Step}
use Rattle.grammar.specs.Moves.{moves, line_move, when, stop, spelled, move}
use Rattle.std.proofs.lemmas.Bool.{ne_eqb}
use Rattle.reader.proofs.turns.body_turn.Goals as goal

pub returns-in-101 : goal.returns-in-101
unfolding moves line_move
returns-in-101 c t e ns w v = sym (ap (moves ns Symbol.Body w v) c.in-101.is)

pub returns-in_default : goal.returns-in_default
unfolding moves
returns-in_default c t e ns w v =
    c.line_turn.ensures t e stop
    ∙ sym (ap (λ x. line_move Symbol.Body (when x (move closes (Step.End ∷ []) (spelled (codes "nd") []) [] 0)) c.args.b) (ne_eqb c.args.b 101 (λ (e : c.args.b ≡ 101). omega arith)))
