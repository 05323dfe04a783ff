use Rattle.std.proofs.Common.{◌≡◌, ℕ, ◌-◌, ◌*◌, ◌≤◌, []}
use Rattle.semantics.specs.Programs.{Program}
use Rattle.program.specs.Spelling.{spell_program}
use Rattle.program.specs.Words.{steps_in}
use Rattle.writer.specs.WrittenAs.{text_of}
use Rattle.writer.specs.Writes.{ToWrite}
use Rattle.writer.proofs.texts.lines.write_lines.Given as goal

abbrev pub invariant-loop-node : goal.invariant-loop-node
invariant-loop-node l =
    (l.at ≤ 64 * l.node) × ((p : Program ℕ) → steps_in l.words ≡ spell_program p [] → ToWrite (text_of p) l.words l.node l.initial.room 0 l.room l.at)

abbrev pub decreases-loop-node : goal.decreases-loop-node
decreases-loop-node l = l.count - l.node
