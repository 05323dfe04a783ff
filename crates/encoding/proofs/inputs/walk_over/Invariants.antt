use Rattle.std.proofs.Common.{◌≡◌, ◌≤◌, length, drop}
use Rattle.encoding.specs.Format.{row_at, offsets, stop}
use Rattle.encoding.proofs.inputs.walk_over.Given as goal

abbrev pub invariant-loop-count : goal.invariant-loop-count
invariant-loop-count l =
    (l.at ≤ length l.bytes) × (l.count ≤ length (offsets l.bytes)) × ((row_at l.bytes l.at).offsets ≡ drop l.count (offsets l.bytes)) × ((row_at l.bytes l.at).stop ≡ stop l.bytes)
