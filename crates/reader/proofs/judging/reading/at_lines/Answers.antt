use Rattle.std.proofs.Common.{◌∙◌}
use Rattle.reader.proofs.Lines.{no_lines_past, no_lines_more, lines_last}
use Rattle.reader.proofs.judging.reading.at_lines.Goals as goal

pub returns-then-top-len : goal.returns-then-top-len
returns-then-top-len c = no_lines_past c.args.stack.now c.args.top c.if-top-len.true

pub returns-then-len-top-gt1 : goal.returns-then-len-top-gt1
returns-then-len-top-gt1 c = no_lines_more c.args.stack.now c.args.top c.if-len-top-gt1.true

pub returns : goal.returns
returns c = c.is_lines.ensures ∙ lines_last c.args.stack.now c.args.top c.if-top-len.false c.if-len-top-gt1.false
