use Rattle.std.proofs.Common.{ℕ, ◌+◌, ◌-◌, ◌<◌, ◌≤◌, length}
use Rattle.semantics.specs.Shapes.{unflat}
use Rattle.encoding.specs.ShapeOf.{shape_of}
use Rattle.numbers.specs.Standing.{StandsFor}
use Rattle.views.specs.Views.{seen}
use Rattle.kernels.specs.Blocks.{at}
use Rattle.kernels.proofs.leaves.fill_rows.Given as goal

abbrev pub invariant-loop-done : goal.invariant-loop-done
invariant-loop-done l =
    (l.done ≤ length l.out) × ((k : ℕ) → k < l.done → StandsFor (at l.out k) (seen l.lent.area.now l.lent.bytes.now l.view (unflat (shape_of l.view.shape) (l.first + k))))

abbrev pub decreases-loop-done : goal.decreases-loop-done
decreases-loop-done l = length l.initial.out - l.done
