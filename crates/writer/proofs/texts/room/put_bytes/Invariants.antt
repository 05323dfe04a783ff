use Rattle.std.proofs.Common.{drop}
use Rattle.writer.specs.Overlay.{Left}
use Rattle.writer.proofs.texts.room.put_bytes.Given as goal

abbrev pub invariant-loop-b : goal.invariant-loop-b
invariant-loop-b l = Left l.initial.room l.initial.behind l.text l.room l.behind (drop l.b-index l.text)
