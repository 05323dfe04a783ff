use Rattle.std.proofs.Common.{sym, arith}
use Rattle.writer.specs.StepTexts.{wants}
use Rattle.writer.proofs.Exprs.{stand_as, writes_as}
use Rattle.writer.proofs.LineViews.{line_stands, line_written}
use Rattle.writer.proofs.texts.lines.write_line.Goals as goal

pub write_exprs-requires : goal.write_exprs-requires
write_exprs-requires c =
    let at = c.in-Some.ensures in
    let head = c.write_head-head.ensures in
    record {
      few = c.requires.few;
      stand = stand_as c.count_wanted.result (sym c.count_wanted.ensures) (line_stands c.args.words.now c.args.node c.in-Some.step at c.requires.stand head);
      inside = head.within;
      low = omega (arith, head.short, c.requires.low);
    }

pub returns : goal.returns
returns c =
    line_written c.args.words.now c.args.node c.in-Some.step c.in-Some.ensures c.write_head-head.ensures (writes_as (wants c.in-Some.step) c.count_wanted.ensures c.write_exprs.ensures)
