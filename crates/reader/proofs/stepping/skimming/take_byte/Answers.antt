use Rattle.std.proofs.Common.{arith}
use Rattle.reader.proofs.Skimming.{byte_read}
use Rattle.reader.proofs.stepping.skimming.take_byte.Goals as goal

pub replace_top-requires : goal.replace_top-requires
replace_top-requires c = let top = (rw c.in-Some-Byte.field-0-is at c.in-Some-Byte.ensures) in record { there = top.there; room = omega (arith, c.requires.good.room) }

pub returns : goal.returns
returns c = byte_read c.args.text.now c.args.i c.args.machine.now c.requires c.in-Some-Byte.c _ (rw c.in-Some-Byte.field-0-is at c.in-Some-Byte.ensures) c.if-text-i.false c.replace_top.ensures
