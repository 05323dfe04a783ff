use Rattle.std.proofs.Common.{sym, arith}
use Rattle.reader.proofs.Turnings.{digit_low, digits_other, digits_zero, digits_large, digits_more}
use Rattle.reader.proofs.turns.digits_turn.Goals as goal

pub overflow_sub-more : goal.overflow_sub-more
overflow_sub-more c = (digit_low c.args.b (sym c.if-not-is_digit.ensures)).0

pub returns-then-not-is_digit : goal.returns-then-not-is_digit
returns-then-not-is_digit c t e ns w = digits_other ns w c.args.number c.args.value c.args.b c.if-not-is_digit.ensures

pub returns-then-value-lt1 : goal.returns-then-value-lt1
returns-then-value-lt1 c t e ns w = digits_zero ns w c.args.number c.args.value c.args.b c.if-value-lt1.true

pub returns-then-more-ge4294967296 : goal.returns-then-more-ge4294967296
returns-then-more-ge4294967296 c t e ns w = digits_large ns w c.args.number c.args.value c.args.b c.if-more-ge4294967296.true

pub returns : goal.returns
returns c t e ns w = digits_more ns w c.args.number c.args.value c.args.b c.if-not-is_digit.ensures (omega arith) (omega arith)
