use Rattle.std.proofs.Common.{arith}
use Rattle.encoding.proofs.Rows.{next_at_after, good_at_parts}
use Rattle.writer.proofs.console.prints.print_shown.Goals as goal

pub loop-text-smaller : goal.loop-text-smaller
loop-text-smaller c =
    let listed = rw c.in-Some.is at c.in_ok-next.ensures in
    let bytes = c.args.bytes.now in
    let further = next_at_after bytes c.loop-text.at in
    let within = (good_at_parts bytes c.loop-text.at listed.0).1 in
    omega (arith, listed.1)
