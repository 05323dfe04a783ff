use Rattle.std.proofs.Common.{◌-◌, [], ◌∷◌, sym, ap, ◌∙◌}
use Rattle.grammar.specs.Letters.{begins}
use Rattle.grammar.specs.declared.symbol.Symbol.{Symbol}
use Rattle.semantics.specs.Shapes.{pick}
use Rattle.grammar.specs.Words.{is_digit}
use Rattle.grammar.specs.Moves.{when, push, move, moves, digit_move, item_number}
use Rattle.std.proofs.lemmas.Bool.{ne_eqb}
use Rattle.reader.proofs.turns.first_turn.Goals as goal

pub returns-then-b-eq93 : goal.returns-then-b-eq93
unfolding moves
returns-then-b-eq93 c t e ns w v = c.push_when.ensures t e ∙ sym (ap (λ x. moves ns (Symbol.First c.args.kind) w v x) c.if-b-eq93.true)

pub returns : goal.returns
unfolding moves
returns c t e ns w v =
    c.digit_turn.ensures t e
    ∙ (ap (λ s. when (is_digit c.args.b) (move begins [] s [] (c.args.b - 48))) (ap (λ p. Symbol.Digits p ∷ Symbol.More c.args.kind ∷ []) c.item_number.ensures)
    ∙ sym (ap (λ x. pick x (push []) (digit_move begins (item_number c.args.kind) (Symbol.More c.args.kind ∷ []) c.args.b)) (ne_eqb c.args.b 93 c.if-b-eq93.false)))
