use Rattle.std.proofs.Common.{◌+◌, [], ◌∷◌, get_or, sym, ap, ◌∙◌}
use Rattle.grammar.specs.Letters.{begins}
use Rattle.grammar.specs.declared.symbol.Symbol.{Symbol}
use Rattle.semantics.specs.Shapes.{pick}
use Rattle.grammar.specs.Moves.{when, move, moves, viable}
use Rattle.std.proofs.lemmas.Bool.{ne_eqb}
use Rattle.reader.specs.Names.{part, spellings}
use Rattle.reader.proofs.Turnings.{part_one}
use Rattle.reader.proofs.turns.expr_turn.Goals as goal

pub returns-then-text-at-eq35 : goal.returns-then-text-at-eq35
unfolding moves
returns-then-text-at-eq35 c w v = sym (ap (λ x. moves (spellings c.args.text.now c.args.names.now) Symbol.Expr w v x) c.if-text-at-eq35.true)

pub returns : goal.returns
unfolding moves
returns c w v =
    let b = (get_or c.args.text.now c.args.at 0) in
    let one = part_one c.args.text.now c.args.at c.requires.inside in
    c.word_turn.ensures c.args.text.now (c.args.at + 1)
    ∙ (ap (λ x. when x (move begins [] (Symbol.Word ∷ []) (part c.args.text.now c.args.at (c.args.at + 1)) 0)) (c.is_viable-ok.ensures ∙ ap (viable (spellings c.args.text.now c.args.names.now)) c.part_of-word.ensures)
    ∙ (ap (λ u. when (viable (spellings c.args.text.now c.args.names.now) u) (move begins [] (Symbol.Word ∷ []) u 0)) one
    ∙ sym (ap (λ x. pick x (move begins [] (Symbol.Hex 16 ∷ []) [] 0) (when (viable (spellings c.args.text.now c.args.names.now) (b ∷ [])) (move begins [] (Symbol.Word ∷ []) (b ∷ []) 0))) (ne_eqb b 35 c.if-text-at-eq35.false))))
