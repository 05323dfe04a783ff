use Rattle.std.proofs.Common.{refl, ◌+◌, ◌-◌, eqb, [], ◌∷◌, ◌++◌, get_or, sym, ap, ◌∙◌}
use Rattle.grammar.specs.Letters.{inside, begins}
use Rattle.grammar.specs.declared.symbol.Symbol.{Symbol}
use Rattle.grammar.specs.Words.{is_digit, begins_some, binary_word, binaries}
use Rattle.grammar.specs.Moves.{stop, when, push, move, moves, viable, viable_name}
use Rattle.reader.specs.Names.{part, spellings}
use Rattle.reader.proofs.Turnings.{part_more}
use Rattle.reader.proofs.turns.turn_symbol.Goals as goal

pub returns-in-Lines : goal.returns-in-Lines
unfolding moves
returns-in-Lines c = c.line_turn.ensures c.args.text.now (c.args.at + 1) stop ∙ sym (ap (λ s. moves (spellings c.args.text.now c.args.names.now) s (part c.args.text.now c.args.from c.args.at) c.args.value (get_or c.args.text.now c.args.at 0)) c.in-Lines.is)

pub returns-in-Body : goal.returns-in-Body
returns-in-Body c = c.body_turn.ensures c.args.text.now (c.args.at + 1) (spellings c.args.text.now c.args.names.now) (part c.args.text.now c.args.from c.args.at) c.args.value ∙ sym (ap (λ s. moves (spellings c.args.text.now c.args.names.now) s (part c.args.text.now c.args.from c.args.at) c.args.value (get_or c.args.text.now c.args.at 0)) c.in-Body.is)

pub returns-in-Byte : goal.returns-in-Byte
unfolding moves
returns-in-Byte c = c.push_when.ensures c.args.text.now (c.args.at + 1) ∙ (ap (λ s. when (eqb (get_or c.args.text.now c.args.at 0) c.in-Byte.c) (push s)) refl ∙ sym (ap (λ s. moves (spellings c.args.text.now c.args.names.now) s (part c.args.text.now c.args.from c.args.at) c.args.value (get_or c.args.text.now c.args.at 0)) c.in-Byte.is))

pub returns-in-Target : goal.returns-in-Target
unfolding moves
returns-in-Target c =
    c.word_turn.ensures c.args.text.now (c.args.at + 1)
    ∙ (ap (λ x. when x (move inside [] (c.args.symbol ∷ []) (part c.args.text.now c.args.from (c.args.at + 1)) 0)) (c.is_viable_name.ensures ∙ ap (viable_name (spellings c.args.text.now c.args.names.now)) c.part_of-word.ensures)
    ∙ (ap (λ u. when (viable_name (spellings c.args.text.now c.args.names.now) u) (move inside [] (c.args.symbol ∷ []) u 0)) (part_more c.args.text.now c.args.from c.args.at c.requires.begun c.requires.inside)
    ∙ (ap (λ s. when (viable_name (spellings c.args.text.now c.args.names.now) ((part c.args.text.now c.args.from c.args.at) ++ (get_or c.args.text.now c.args.at 0) ∷ [])) (move inside [] (s ∷ []) ((part c.args.text.now c.args.from c.args.at) ++ (get_or c.args.text.now c.args.at 0) ∷ []) 0)) c.in-Target.is ∙ sym (ap (λ s. moves (spellings c.args.text.now c.args.names.now) s (part c.args.text.now c.args.from c.args.at) c.args.value (get_or c.args.text.now c.args.at 0)) c.in-Target.is))))

pub returns-in-Expr : goal.returns-in-Expr
returns-in-Expr c = c.expr_turn.ensures (part c.args.text.now c.args.from c.args.at) c.args.value ∙ sym (ap (λ s. moves (spellings c.args.text.now c.args.names.now) s (part c.args.text.now c.args.from c.args.at) c.args.value (get_or c.args.text.now c.args.at 0)) c.in-Expr.is)

pub returns-in-Word : goal.returns-in-Word
unfolding moves
returns-in-Word c =
    c.word_turn-in-Word.ensures c.args.text.now (c.args.at + 1)
    ∙ (ap (λ x. when x (move inside [] (c.args.symbol ∷ []) (part c.args.text.now c.args.from (c.args.at + 1)) 0)) (c.is_viable.ensures ∙ ap (viable (spellings c.args.text.now c.args.names.now)) c.part_of-word.ensures)
    ∙ (ap (λ u. when (viable (spellings c.args.text.now c.args.names.now) u) (move inside [] (c.args.symbol ∷ []) u 0)) (part_more c.args.text.now c.args.from c.args.at c.requires.begun c.requires.inside)
    ∙ (ap (λ s. when (viable (spellings c.args.text.now c.args.names.now) ((part c.args.text.now c.args.from c.args.at) ++ (get_or c.args.text.now c.args.at 0) ∷ [])) (move inside [] (s ∷ []) ((part c.args.text.now c.args.from c.args.at) ++ (get_or c.args.text.now c.args.at 0) ∷ []) 0)) c.in-Word.is ∙ sym (ap (λ s. moves (spellings c.args.text.now c.args.names.now) s (part c.args.text.now c.args.from c.args.at) c.args.value (get_or c.args.text.now c.args.at 0)) c.in-Word.is))))

pub returns-in-Binary : goal.returns-in-Binary
unfolding moves
returns-in-Binary c =
    c.word_turn-in-Binary.ensures c.args.text.now (c.args.at + 1)
    ∙ (ap (λ x. when x (move inside [] (c.args.symbol ∷ []) (part c.args.text.now c.args.from (c.args.at + 1)) 0)) (c.begins_binary.ensures ∙ ap (begins_some binary_word binaries) c.part_of-word.ensures)
    ∙ (ap (λ u. when (begins_some binary_word binaries u) (move inside [] (c.args.symbol ∷ []) u 0)) (part_more c.args.text.now c.args.from c.args.at c.requires.begun c.requires.inside)
    ∙ (ap (λ s. when (begins_some binary_word binaries ((part c.args.text.now c.args.from c.args.at) ++ (get_or c.args.text.now c.args.at 0) ∷ [])) (move inside [] (s ∷ []) ((part c.args.text.now c.args.from c.args.at) ++ (get_or c.args.text.now c.args.at 0) ∷ []) 0)) c.in-Binary.is ∙ sym (ap (λ s. moves (spellings c.args.text.now c.args.names.now) s (part c.args.text.now c.args.from c.args.at) c.args.value (get_or c.args.text.now c.args.at 0)) c.in-Binary.is))))

pub returns-in-Number : goal.returns-in-Number
unfolding moves
returns-in-Number c = c.digit_turn.ensures c.args.text.now (c.args.at + 1) ∙ (ap (λ s. when (is_digit (get_or c.args.text.now c.args.at 0)) (move inside [] s [] ((get_or c.args.text.now c.args.at 0) - 48))) refl ∙ sym (ap (λ s. moves (spellings c.args.text.now c.args.names.now) s (part c.args.text.now c.args.from c.args.at) c.args.value (get_or c.args.text.now c.args.at 0)) c.in-Number.is))

pub returns-in-Digits : goal.returns-in-Digits
returns-in-Digits c = c.digits_turn.ensures c.args.text.now (c.args.at + 1) (spellings c.args.text.now c.args.names.now) (part c.args.text.now c.args.from c.args.at) ∙ sym (ap (λ s. moves (spellings c.args.text.now c.args.names.now) s (part c.args.text.now c.args.from c.args.at) c.args.value (get_or c.args.text.now c.args.at 0)) c.in-Digits.is)

pub returns-in-Hex : goal.returns-in-Hex
returns-in-Hex c = c.hex_turn.ensures c.args.text.now (c.args.at + 1) (spellings c.args.text.now c.args.names.now) (part c.args.text.now c.args.from c.args.at) ∙ sym (ap (λ s. moves (spellings c.args.text.now c.args.names.now) s (part c.args.text.now c.args.from c.args.at) c.args.value (get_or c.args.text.now c.args.at 0)) c.in-Hex.is)

pub returns-in-Operands : goal.returns-in-Operands
unfolding moves
returns-in-Operands c = c.operands_turn.ensures c.args.text.now (c.args.at + 1) ∙ sym (ap (λ s. moves (spellings c.args.text.now c.args.names.now) s (part c.args.text.now c.args.from c.args.at) c.args.value (get_or c.args.text.now c.args.at 0)) c.in-Operands.is)

pub returns-in-First : goal.returns-in-First
returns-in-First c = c.first_turn.ensures c.args.text.now (c.args.at + 1) (spellings c.args.text.now c.args.names.now) (part c.args.text.now c.args.from c.args.at) c.args.value ∙ sym (ap (λ s. moves (spellings c.args.text.now c.args.names.now) s (part c.args.text.now c.args.from c.args.at) c.args.value (get_or c.args.text.now c.args.at 0)) c.in-First.is)

pub returns-in-More : goal.returns-in-More
returns-in-More c = c.more_turn.ensures c.args.text.now (c.args.at + 1) (spellings c.args.text.now c.args.names.now) (part c.args.text.now c.args.from c.args.at) c.args.value ∙ sym (ap (λ s. moves (spellings c.args.text.now c.args.names.now) s (part c.args.text.now c.args.from c.args.at) c.args.value (get_or c.args.text.now c.args.at 0)) c.in-More.is)

pub returns-in-Item : goal.returns-in-Item
unfolding moves
returns-in-Item c = c.digit_turn-in-Item.ensures c.args.text.now (c.args.at + 1) ∙ (ap (λ s. when (is_digit (get_or c.args.text.now c.args.at 0)) (move begins [] s [] ((get_or c.args.text.now c.args.at 0) - 48))) (ap (λ p. Symbol.Digits p ∷ []) c.item_number.ensures) ∙ sym (ap (λ s. moves (spellings c.args.text.now c.args.names.now) s (part c.args.text.now c.args.from c.args.at) c.args.value (get_or c.args.text.now c.args.at 0)) c.in-Item.is))

pub returns-in-Step : goal.returns-in-Step
returns-in-Step c = c.step_turn.ensures c.args.text.now (c.args.at + 1) (spellings c.args.text.now c.args.names.now) (part c.args.text.now c.args.from c.args.at) c.args.value ∙ sym (ap (λ s. moves (spellings c.args.text.now c.args.names.now) s (part c.args.text.now c.args.from c.args.at) c.args.value (get_or c.args.text.now c.args.at 0)) c.in-Step.is)
