use Rattle.std.proofs.Common.{ℕ, ◌+◌, ◌*◌, ◌<◌}
use Rattle.encoding.specs.Words.{word8}
use Rattle.numbers.specs.Plain.{NoNan, Clear}
use Rattle.kernels.proofs.rows.no_nan_bytes.Given as goal

abbrev pub invariant-loop-k : goal.invariant-loop-k
invariant-loop-k l = Clear l.seen → (j : ℕ) → j < l.k → NoNan (word8 l.bytes (l.base + 8 * j))
