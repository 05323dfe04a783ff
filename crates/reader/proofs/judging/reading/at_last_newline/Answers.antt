use Rattle.std.proofs.Common.{◌+◌, ◌&&◌, drop, sym, ap, ◌∙◌}
use Rattle.reader.specs.Judging.{only_lines}
use Rattle.reader.proofs.Lines.{no_end_past, end_is}
use Rattle.reader.proofs.judging.reading.at_last_newline.Goals as goal

pub returns-then-top-stack : goal.returns-then-top-stack
returns-then-top-stack c = no_end_past c.args.stack.now c.args.top c.if-top-stack.true

pub returns-then-not-is_newline : goal.returns-then-not-is_newline
returns-then-not-is_newline c = ap (λ x. x && only_lines (drop (c.args.top + 1) c.args.stack.now)) c.if-not-is_newline.ensures ∙ sym (end_is c.args.stack.now c.args.top c.if-top-stack.false)

pub returns : goal.returns
returns c = c.at_lines.ensures ∙ (ap (λ x. x && only_lines (drop (c.args.top + 1) c.args.stack.now)) c.if-not-is_newline.ensures ∙ sym (end_is c.args.stack.now c.args.top c.if-top-stack.false))
