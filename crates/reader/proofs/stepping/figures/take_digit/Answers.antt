use Rattle.std.proofs.Common.{get_or, sym, arith}
use Rattle.grammar.specs.declared.symbol.Symbol.{Symbol}
use Rattle.reader.proofs.Turnings.{digit_low}
use Rattle.reader.proofs.Figures.{fits_top, digit_read}
use Rattle.reader.proofs.stepping.figures.take_digit.Goals as goal

pub overflow_mul-more : goal.overflow_mul-more
overflow_mul-more c =
    let fit = fits_top c.args.text.now c.args.i c.args.machine.now c.requires (Symbol.Digits c.in-Some-Digits.field-0-0) (rw c.in-Some-Digits.field-0-is at c.in-Some-Digits.ensures) in
    omega (arith, fit)

pub overflow_sub-more : goal.overflow_sub-more
overflow_sub-more c = (digit_low (get_or c.args.text.now c.args.i 0) (sym c.if-not-is_digit.ensures)).0

pub overflow_add-more : goal.overflow_add-more
overflow_add-more c =
    let fit = fits_top c.args.text.now c.args.i c.args.machine.now c.requires (Symbol.Digits c.in-Some-Digits.field-0-0) (rw c.in-Some-Digits.field-0-is at c.in-Some-Digits.ensures) in
    let low = digit_low (get_or c.args.text.now c.args.i 0) (sym c.if-not-is_digit.ensures) in
    omega (arith, fit)

pub returns : goal.returns
returns c = digit_read c.args.text.now c.args.i c.args.machine.now c.requires c.in-Some-Digits.field-0-0 (rw c.in-Some-Digits.field-0-is at c.in-Some-Digits.ensures) c.if-not-is_digit.ensures c.if-value-lt1.false c.if-more-ge4294967296.false
