use Rattle.std.proofs.Common.{◌≡◌, ◌+◌, take}
use Rattle.std.specs.List.{flat_map}
use Rattle.encoding.specs.Words.{bytes4, written}
use Rattle.encoding.proofs.writing.write_head.Given as goal

abbrev pub invariant-loop-k : goal.invariant-loop-k
invariant-loop-k l = l.room ≡ written l.initial.room (l.at + 1) (flat_map bytes4 (take l.k l.len-items))
