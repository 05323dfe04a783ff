use Rattle.std.proofs.Common.{◌≡◌, ℕ, ◌+◌, ◌-◌, ◌<◌, ◌≤◌, length, get_or, take, drop}
use Rattle.semantics.specs.Shapes.{unflat}
use Rattle.encoding.specs.ShapeOf.{shape_of}
use Rattle.encoding.specs.Format.{inputs_of}
use Rattle.kernels.specs.Trees.{tree}
use Rattle.kernels.specs.Filling.{Ready}
use Rattle.kernels.proofs.storing.store_with.Given as goal

abbrev pub invariant-loop-done : goal.invariant-loop-done
invariant-loop-done l =
    (length l.block ≡ 256)
    × (4096 ≤ length l.spare)
    × (take l.to l.area ≡ take l.to l.initial.area)
    × (drop (l.to + l.count) l.area ≡ drop (l.to + l.count) l.initial.area)
    × ((q : Ready l.words l.node l.names (take l.to l.initial.area) l.bytes (shape_of l.shape)) (n : ℕ) → n < l.done →
    get_or l.area (l.to + n) 0 ≡ tree (inputs_of l.bytes) q.names q.expr (unflat (shape_of l.shape) n))
    × (l.done ≤ l.count)

abbrev pub decreases-loop-done : goal.decreases-loop-done
decreases-loop-done l = l.count - l.done
