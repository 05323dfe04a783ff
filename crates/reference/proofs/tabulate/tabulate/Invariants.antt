use Rattle.std.proofs.Common.{◌≡◌, ℕ, ◌<◌, get_or, vec_items, vec_len}
use Rattle.semantics.specs.Shapes.{unflat}
use Rattle.encoding.specs.ShapeOf.{shape_of}
use Rattle.reference.proofs.tabulate.tabulate.Given as goal

abbrev pub invariant-loop-n : goal.invariant-loop-n
invariant-loop-n g l =
    (vec_len l.numbers ≡ l.n)
    × ((m : ℕ) → m < l.n → get_or (vec_items l.numbers) m 0 ≡ g.S.Source.at l.source (unflat (shape_of l.shape) m))
