use Rattle.program.proofs.Leadings.{slice_in_other}
use Rattle.program.specs.Leading.{slice_in}
use Rattle.std.proofs.Common.{sym, ap}
use Rattle.program.proofs.step.Step.slice.Goals as goal

pub returns-in-Slice : goal.returns-in-Slice
unfolding slice_in
returns-in-Slice c = sym (ap slice_in c.in-Slice.is)

pub returns-in_default : goal.returns-in_default
returns-in_default c = sym (slice_in_other c.args.self c.in_default.not-Slice)
