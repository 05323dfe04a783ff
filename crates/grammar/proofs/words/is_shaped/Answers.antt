use Rattle.std.proofs.Common.{◌≡◌, ◌-◌, length, drop, true, false, sym, ◌∙◌, length-drop, arith}
use Rattle.std.proofs.lemmas.Bool.{le-ltb}
use Rattle.std.proofs.lemmas.List.{length-take-le}
use Rattle.grammar.proofs.Sought.{shaped_none, shaped_first, shaped_long, shaped_rest}
use Rattle.grammar.proofs.words.is_shaped.Goals.{then-rest-lt8, else-rest-lt8}
use Rattle.grammar.proofs.words.is_shaped.Goals as goal

apart : true ≡ false → ⊥
apart e = cc

pub returns-in_default : goal.returns-in_default
returns-in_default c = shaped_none c.args.word.now (omega arith)

pub returns-then-is_letter : goal.returns-then-is_letter
returns-then-is_letter c =
    let w = c.args.word.now in
    let others = length-take-le (length w - 1) (drop 1 w) (omega (arith, length-drop 1 w)) in
    elim c.if-rest-lt8.branch [
      | then-rest-lt8 b ↦
          let letter = sym c.if-is_letter.true ∙ (b.value-is ∙ b.is_letter.ensures) in
          c.all_in_word.ensures ∙ shaped_rest w letter (omega arith) (omega (arith, b.if-rest-lt8.true, others))
      | else-rest-lt8 b ↦ absurd (apart (sym c.if-is_letter.true ∙ (b.value-is ∙ le-ltb _ 8 b.if-rest-lt8.false)))
    ]

pub returns-else-is_letter : goal.returns-else-is_letter
returns-else-is_letter c =
    let w = c.args.word.now in
    let others = length-take-le (length w - 1) (drop 1 w) (omega (arith, length-drop 1 w)) in
    elim c.if-rest-lt8.branch [
      | then-rest-lt8 b ↦ c.if-is_letter.false ∙ shaped_first w (sym c.if-is_letter.false ∙ (b.value-is ∙ b.is_letter.ensures))
      | else-rest-lt8 b ↦ c.if-is_letter.false ∙ shaped_long w (omega (arith, b.if-rest-lt8.false, others))
    ]
