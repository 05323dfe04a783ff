use Rattle.std.proofs.Common.{◌+◌, ◌-◌, ◌*◌, [], ◌∷◌, ap, ◌∙◌, arith}
use Rattle.grammar.specs.Letters.{inside}
use Rattle.grammar.specs.declared.symbol.Symbol.{Symbol}
use Rattle.grammar.specs.Moves.{move}
use Rattle.grammar.specs.Constants.{canonical}
use Rattle.reader.proofs.Turnings.{hex_room, hex_other, hex_none, hex_last, hex_more, canonical_same}
use Rattle.reader.proofs.turns.hex_turn.Goals as goal

pub overflow_mul-more : goal.overflow_mul-more
overflow_mul-more c = omega (arith, hex_room c.args.left c.args.value (omega arith) c.requires.fit)

pub overflow_add-more : goal.overflow_add-more
overflow_add-more c = omega (arith, hex_room c.args.left c.args.value (omega arith) c.requires.fit, c.hex_value.ensures.1)

pub returns-then-not-is_hex : goal.returns-then-not-is_hex
returns-then-not-is_hex c t e ns w = hex_other ns w c.args.left c.args.value c.args.b c.if-not-is_hex.ensures

pub returns-then-left-eq0 : goal.returns-then-left-eq0
returns-then-left-eq0 c t e ns w = hex_none ns w c.args.left c.args.value c.args.b c.if-not-is_hex.ensures c.if-left-eq0.true

pub returns-then-left-eq1 : goal.returns-then-left-eq1
returns-then-left-eq1 c t e ns w = hex_last ns w c.args.left c.args.value c.args.b c.if-not-is_hex.ensures c.if-left-eq1.true c.canonical.result (c.canonical.ensures ∙ canonical_same _ ∙ ap (λ n. canonical (c.args.value * 16 + n)) c.hex_value.ensures.0)

pub returns : goal.returns
returns c t e ns w = (ap (λ n. move inside [] (Symbol.Hex (c.args.left - 1) ∷ []) [] (c.args.value * 16 + n)) c.hex_value.ensures.0 ∙ hex_more ns w c.args.left c.args.value c.args.b c.if-not-is_hex.ensures (omega arith))
