use Rattle.std.proofs.Common.{◌-◌, [], sym, ap}
use Rattle.grammar.specs.Moves.{when, move}
use Rattle.reader.specs.Turning.{flag_of}
use Rattle.reader.specs.Pushed.{symbols_of}
use Rattle.reader.proofs.Turnings.{digit_low}
use Rattle.reader.proofs.turns.digit_turn.Goals as goal

pub overflow_sub-result : goal.overflow_sub-result
overflow_sub-result c = (digit_low c.args.b (sym c.if-not-is_digit.ensures)).0

pub returns-then-not-is_digit : goal.returns-then-not-is_digit
unfolding when
returns-then-not-is_digit c t e = ap (λ x. when x (move (flag_of c.args.mark) [] (symbols_of c.args.pushes) [] (c.args.b - 48))) c.if-not-is_digit.ensures

pub returns : goal.returns
unfolding when
returns c t e = ap (λ x. when x (move (flag_of c.args.mark) [] (symbols_of c.args.pushes) [] (c.args.b - 48))) c.if-not-is_digit.ensures
