use Rattle.std.proofs.Common.{map}
use Rattle.semantics.specs.Slices.{part_of}
use Rattle.program.specs.Leading.{slice_in}
use Rattle.reference.proofs.Leading.{ReadSoFar}
use Rattle.reference.proofs.brackets.read_slices.Given as goal

abbrev pub invariant-loop-step : goal.invariant-loop-step
invariant-loop-step l = ReadSoFar slice_in l.words l.node (map part_of l.list.items) l.step-iterator
