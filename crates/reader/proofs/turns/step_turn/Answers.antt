use Rattle.std.proofs.Common.{refl, ◌-◌, true, false, [], ◌∷◌, sym, ap, ◌∙◌}
use Rattle.grammar.specs.Letters.{inside}
use Rattle.grammar.specs.declared.symbol.Symbol.{Symbol}
use Rattle.semantics.specs.Shapes.{pick}
use Rattle.grammar.specs.declared.symbol.Number.{Number}
use Rattle.grammar.specs.Words.{is_digit}
use Rattle.grammar.specs.Moves.{when, push, move, moves, digit_move}
use Rattle.std.proofs.lemmas.Bool.{ne_eqb}
use Rattle.reader.proofs.turns.step_turn.Goals as goal

pub returns-then-b-eq45 : goal.returns-then-b-eq45
unfolding moves
returns-then-b-eq45 c t e ns w v = c.push_when.ensures t e ∙ sym (ap (λ x. moves ns (Symbol.Step c.args.from) w v x) c.if-b-eq45.true)

pub returns : goal.returns
unfolding moves
returns c t e ns w v =
    c.digit_turn.ensures t e
    ∙ (ap (λ s. when (is_digit c.args.b) (move inside [] s [] (c.args.b - 48))) refl
    ∙ sym (ap (λ x. pick x (push (Symbol.Number (Number.Step c.args.from true) ∷ [])) (digit_move inside (Number.Step c.args.from false) [] c.args.b)) (ne_eqb c.args.b 45 c.if-b-eq45.false)))
