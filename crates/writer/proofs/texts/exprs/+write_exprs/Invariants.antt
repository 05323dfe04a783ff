use Rattle.std.proofs.Common.{◌-◌, length}
use Rattle.program.specs.Words.{steps_in}
use Rattle.writer.proofs.texts.exprs.+write_exprs.Given as goal

abbrev pub decreases-write_exprs : goal.decreases-write_exprs
decreases-write_exprs l = length (steps_in l.words.now) - l.node
