use Rattle.std.proofs.Common.{◌≡◌, take}
use Rattle.std.specs.List.{flat_map}
use Rattle.encoding.specs.Words.{bytes8, written}
use Rattle.encoding.proofs.writing.write_numbers.Given as goal

abbrev pub invariant-loop-k : goal.invariant-loop-k
invariant-loop-k l = l.room ≡ written l.initial.room l.at (flat_map bytes8 (take l.k l.numbers))
