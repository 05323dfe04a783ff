use Rattle.std.proofs.Common.{sym, arith}
use Rattle.reader.proofs.Settling.{few_used}
use Rattle.reader.proofs.Known.{name_settled}
use Rattle.reader.proofs.stepping.known.end_name.Goals as goal

pub replace_top-requires : goal.replace_top-requires
replace_top-requires c = let top = (rw c.in-Some-Word.field-0-is at c.in-Some-Word.ensures) in record { there = top.there; room = omega (arith, c.requires.good.room) }

pub overflow_cast-result : goal.overflow_cast-result
overflow_cast-result c = omega (arith, c.in_ok-k.ensures.low, few_used c.args.text.now c.args.i 16 c.args.machine.now c.requires.good, c.requires.good.few)

pub returns : goal.returns
returns c = name_settled c.args.text.now c.args.i c.args.b c.args.machine.now c.requires (sym c.if-in_word.ensures) c.in_ok-k.k _ (rw c.in-Some-Word.field-0-is at c.in-Some-Word.ensures) c.in_ok-k.ensures c.replace_top.ensures
