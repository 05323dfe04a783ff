use Rattle.std.proofs.Common.{◌≡◌, ◌+◌, ◌*◌, ◌≤◌, length, take}
use Rattle.encoding.specs.Format.{words_at}
use Rattle.encoding.proofs.header.read_lens.Given as goal

abbrev pub invariant-loop-k : goal.invariant-loop-k
invariant-loop-k l = (l.at + 4 * l.k ≤ length l.bytes) × (take l.k l.len-items ≡ words_at l.bytes l.at l.k)
