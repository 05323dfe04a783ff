use Rattle.program.specs.Leading.{item_in}
use Rattle.reference.proofs.Leading.{ReadSoFar}
use Rattle.reference.proofs.brackets.read_items.Given as goal

abbrev pub invariant-loop-step : goal.invariant-loop-step
invariant-loop-step l = ReadSoFar item_in l.words l.node l.list.items l.step-iterator
