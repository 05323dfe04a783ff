use Rattle.std.proofs.Common.{◌≡◌, ◌++◌, drop, vec_items}
use Rattle.semantics.specs.Programs.{listed}
use Rattle.encoding.specs.Format.{array_at}
use Rattle.writer.specs.Listing.{numbers_text}
use Rattle.writer.proofs.listing.list_numbers.Given as goal

abbrev pub invariant-loop-k : goal.invariant-loop-k
invariant-loop-k l =
    vec_items l.out ++ numbers_text l.row l.k (drop l.k (listed (array_at l.bytes l.at)).numbers)
    ≡ vec_items l.initial.out ++ numbers_text l.row 0 (listed (array_at l.bytes l.at)).numbers
