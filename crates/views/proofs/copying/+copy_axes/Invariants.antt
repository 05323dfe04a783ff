use Rattle.std.proofs.Common.{◌≡◌, ℕ, ◌+◌, ◌-◌, ◌*◌, ◌<◌, List, length, get_or, take, drop, pos, ◌+ℤ◌, ◌*ℤ◌, nat_abs}
use Rattle.semantics.specs.Shapes.{In, flat}
use Rattle.semantics.specs.OrderLaws.{dot}
use Rattle.views.specs.Views.{number_from}
use Rattle.views.proofs.copying.+copy_axes.Given as goal

abbrev pub decreases-copy_axes : goal.decreases-copy_axes
decreases-copy_axes l = length l.lens.now

abbrev pub invariant-loop-i : goal.invariant-loop-i
invariant-loop-i l =
    (j : ℕ) → j < l.i → (is : List ℕ) → In l.inner is →
    get_or l.out (j * l.below + flat l.inner is) 0
    ≡ number_from l.source l.lent.area.now l.lent.bytes.now (nat_abs (pos l.from +ℤ get_or l.strides 0 (pos 0) *ℤ pos j +ℤ dot (take (length l.strides - 1) (drop 1 l.strides)) is))
