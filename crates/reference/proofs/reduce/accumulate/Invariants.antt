use Rattle.std.proofs.Common.{◌≡◌, set}
use Rattle.semantics.specs.Arrays.{folded}
use Rattle.numbers.specs.Operations.{binary64}
use Rattle.reference.specs.ArrayOf.{array_of}
use Rattle.reference.specs.IndicesOf.{indices_of}
use Rattle.reference.proofs.reduce.accumulate.Given as goal

abbrev pub invariant-loop-j : goal.invariant-loop-j
invariant-loop-j l = l.total ≡ folded (binary64.two l.op) (binary64.empty l.op) (λ j. (array_of l.array).at (set (indices_of l.place) l.axis j)) l.j
