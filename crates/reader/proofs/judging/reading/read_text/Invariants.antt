use Rattle.reader.specs.Machines.{Hinted}
use Rattle.reader.proofs.OnWay.{OnWay}
use Rattle.reader.proofs.judging.reading.read_text.Given as goal

abbrev pub invariant-loop-i : goal.invariant-loop-i
invariant-loop-i l = record { way : OnWay l.text l.i l.machine l.count l.said l.steps l.places; hinted : Hinted l.text l.i l.machine }
