use Rattle.std.proofs.Common.{refl, eqb, [], ◌∷◌, sym, ap, ◌∙◌}
use Rattle.grammar.specs.declared.symbol.Symbol.{Symbol}
use Rattle.semantics.specs.Shapes.{pick}
use Rattle.grammar.specs.Moves.{when, push, moves}
use Rattle.std.proofs.lemmas.Bool.{ne_eqb}
use Rattle.reader.proofs.turns.more_turn.Goals as goal

pub returns-then-b-eq93 : goal.returns-then-b-eq93
unfolding moves
returns-then-b-eq93 c t e ns w v = c.push_when.ensures t e ∙ sym (ap (λ x. moves ns (Symbol.More c.args.kind) w v x) c.if-b-eq93.true)

pub returns : goal.returns
unfolding moves
returns c t e ns w v =
    c.push_when-2.ensures t e
    ∙ (ap (λ s. when (eqb c.args.b 44) (push s)) refl
    ∙ sym (ap (λ x. pick x (push []) (when (eqb c.args.b 44) (push (Symbol.Byte 32 ∷ Symbol.Item c.args.kind ∷ Symbol.More c.args.kind ∷ [])))) (ne_eqb c.args.b 93 c.if-b-eq93.false)))
