use Rattle.std.proofs.Common.{◌≡◌, ◌-◌, ◌≤◌, length}
use Rattle.encoding.specs.ShapeOf.{shape_of}
use Rattle.kernels.specs.Filling.{Shown}
use Rattle.kernels.proofs.showing.show_with.Given as goal

abbrev pub invariant-loop-done : goal.invariant-loop-done
invariant-loop-done l =
    (length l.block ≡ 256)
    × (4096 ≤ length l.spare)
    × (length l.patterns ≡ 256)
    × Shown l.env.words.now l.node l.env.names.now l.env.lent.area.now l.env.lent.bytes.now (shape_of l.env.shape) l.index l.done l.initial.room l.room
    × (l.done ≤ l.count)

abbrev pub decreases-loop-done : goal.decreases-loop-done
decreases-loop-done l = l.count - l.done
