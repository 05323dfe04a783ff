use Rattle.std.proofs.Common.{arith}
use Rattle.grammar.specs.declared.symbol.Symbol.{Symbol}
use Rattle.reader.proofs.Turnings.{hex_room}
use Rattle.reader.proofs.Figures.{fits_top, hex_read}
use Rattle.reader.proofs.stepping.figures.take_hex.Goals as goal

pub overflow_mul-more : goal.overflow_mul-more
overflow_mul-more c =
    let fit = fits_top c.args.text.now c.args.i c.args.machine.now c.requires (Symbol.Hex c.in-Some-Hex.left) (rw c.in-Some-Hex.field-0-is at c.in-Some-Hex.ensures) in
    omega (arith, hex_room c.in-Some-Hex.left c.args.machine.now.value (omega (arith, c.if-left-lt2.false)) fit)

pub overflow_add-more : goal.overflow_add-more
overflow_add-more c =
    let fit = fits_top c.args.text.now c.args.i c.args.machine.now c.requires (Symbol.Hex c.in-Some-Hex.left) (rw c.in-Some-Hex.field-0-is at c.in-Some-Hex.ensures) in
    omega (arith, hex_room c.in-Some-Hex.left c.args.machine.now.value (omega (arith, c.if-left-lt2.false)) fit, c.hex_value.ensures.1)

pub replace_top-requires : goal.replace_top-requires
replace_top-requires c = let top = (rw c.in-Some-Hex.field-0-is at c.in-Some-Hex.ensures) in record { there = top.there; room = omega (arith, c.requires.good.room) }

pub returns : goal.returns
returns c = hex_read c.args.text.now c.args.i c.args.machine.now c.requires c.in-Some-Hex.left c.hex_value.result _ (rw c.in-Some-Hex.field-0-is at c.in-Some-Hex.ensures) c.if-left-lt2.false c.if-not-is_hex.ensures c.hex_value.ensures.0 c.replace_top.ensures
