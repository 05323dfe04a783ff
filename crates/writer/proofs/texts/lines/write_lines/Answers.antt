use Rattle.std.proofs.Common.{◌≤◌, length, arith}
use Rattle.program.specs.Words.{steps_in}
use Rattle.writer.proofs.LineViews.{all_to_write, to_write_more, all_written}
use Rattle.writer.proofs.texts.lines.write_lines.Goals as goal

pub loop-node-init : goal.loop-node-init
loop-node-init c = (omega arith, λ p h. all_to_write c.args.words.now p c.args.room.now h)

pub write_line-line-requires : goal.write_line-line-requires
write_line-line-requires c =
    let now = c.loop-node.invariant.1 c.requires.stands.program c.requires.stands.steps in
    record {
      few = c.requires.few;
      stand = record { lines = now.lines; open_lines = now.open_lines; enc = now.enc };
      there = omega (arith, c.count_steps-count.ensures.steps);
      low = c.loop-node.invariant.0;
    }

pub loop-node-preserved : goal.loop-node-preserved
loop-node-preserved c =
    let line = c.write_line-line.ensures in
    (omega (arith, line.passed.short, c.loop-node.invariant.0), λ p h. to_write_more (c.loop-node.invariant.1 p h) line)

pub returns : goal.returns
returns c = λ p h.
    let past : length (steps_in c.args.words.now) ≤ c.loop-node.node = omega (arith, c.count_steps-count.ensures.steps) in
    all_written past (c.loop-node.invariant.1 p h)
