use Rattle.std.proofs.Common.{get_or, sym, arith}
use Rattle.reader.proofs.Turnings.{digit_low}
use Rattle.reader.proofs.Figures.{first_read}
use Rattle.reader.proofs.stepping.figures.take_first.Goals as goal

pub replace_top-requires : goal.replace_top-requires
replace_top-requires c = let top = (rw c.in-Some-Number.field-0-is at c.in-Some-Number.ensures) in record { there = top.there; room = omega (arith, c.requires.good.room) }

pub overflow_sub-machine : goal.overflow_sub-machine
overflow_sub-machine c = (digit_low (get_or c.args.text.now c.args.i 0) (sym c.if-not-is_digit.ensures)).0

pub returns : goal.returns
returns c = first_read c.args.text.now c.args.i c.args.machine.now c.requires c.in-Some-Number.number _ (rw c.in-Some-Number.field-0-is at c.in-Some-Number.ensures) c.if-not-is_digit.ensures c.replace_top.ensures
