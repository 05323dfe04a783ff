use Rattle.std.proofs.Common.{sym, arith}
use Rattle.reader.proofs.Skimming.{letter_read}
use Rattle.reader.proofs.stepping.skimming.begin_word.Goals as goal

pub replace_top-requires : goal.replace_top-requires
replace_top-requires c = let top = (rw c.in-Some-Expr.field-0-is at c.in-Some-Expr.ensures) in record { there = top.there; room = omega (arith, c.requires.good.room) }

pub returns : goal.returns
returns c = letter_read c.args.text.now c.args.i c.args.machine.now c.requires _ (rw c.in-Some-Expr.field-0-is at c.in-Some-Expr.ensures) c.if-machine-ge-MOST_NAMES.false (sym c.if-not-is_letter.ensures) c.replace_top.ensures
