use Rattle.std.proofs.Common.{arith}
use Rattle.reader.proofs.Skimming.{last_read, comma_read}
use Rattle.reader.proofs.stepping.skimming.take_operand.Goals as goal

pub replace_top-requires : goal.replace_top-requires
replace_top-requires c = let top = (rw c.in-Some-Operands.field-0-is at c.in-Some-Operands.ensures) in record { there = top.there; room = omega (arith, c.requires.good.room) }

pub replace_top-requires-2 : goal.replace_top-requires-2
replace_top-requires-2 c = let top = (rw c.in-Some-Operands.field-0-is at c.in-Some-Operands.ensures) in record { there = top.there; room = omega (arith, c.requires.good.room) }

pub returns-then-more-eq0 : goal.returns-then-more-eq0
returns-then-more-eq0 c = last_read c.args.text.now c.args.i c.args.machine.now c.requires c.in-Some-Operands.more _ (rw c.in-Some-Operands.field-0-is at c.in-Some-Operands.ensures) c.if-more-eq0.true c.if-text-i-ne41.false c.replace_top.ensures

pub returns : goal.returns
returns c = comma_read c.args.text.now c.args.i c.args.machine.now c.requires c.in-Some-Operands.more _ (rw c.in-Some-Operands.field-0-is at c.in-Some-Operands.ensures) (omega (arith, c.if-more-eq0.false)) c.if-text-i-ne44.false c.replace_top-2.ensures
