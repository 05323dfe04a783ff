use Rattle.std.proofs.Common.{sym, ap, ◌∙◌, arith}
use Rattle.grammar.specs.Words.{find, head_word, heads}
use Rattle.reader.proofs.Known.{head_settled}
use Rattle.reader.proofs.stepping.known.end_head.Goals as goal

pub replace_top-requires : goal.replace_top-requires
replace_top-requires c = let top = (rw c.in-Some-Word.field-0-is at c.in-Some-Word.ensures) in record { there = top.there; room = omega (arith, c.requires.good.room) }

pub returns : goal.returns
returns c =
    head_settled c.args.text.now c.args.i c.args.b c.args.machine.now c.requires (sym c.if-in_word.ensures) c.in_ok-head.head c.in_ok-more.more c.head_step.result _ (rw c.in-Some-Word.field-0-is at c.in-Some-Word.ensures)
    (c.in_ok-head.ensures ∙ ap (find head_word heads) c.part_of.ensures) c.in_ok-more.ensures c.head_step.ensures c.replace_top.ensures
