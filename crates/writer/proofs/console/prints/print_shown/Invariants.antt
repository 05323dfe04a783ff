use Rattle.std.proofs.Common.{◌-◌, length}
use Rattle.writer.proofs.console.prints.print_shown.Given as goal

abbrev pub decreases-loop-text : goal.decreases-loop-text
decreases-loop-text l = length l.bytes - l.at
