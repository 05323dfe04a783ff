use Rattle.std.proofs.Common.{◌≡◌, ℕ, ◌<◌, get_or, pos, ◌+ℤ◌, ◌*ℤ◌, nat_abs}
use Rattle.views.proofs.copying.copy_words.Given as goal

abbrev pub invariant-loop-index : goal.invariant-loop-index
invariant-loop-index l = (j : ℕ) → j < l.index → get_or l.out j 0 ≡ get_or l.area (nat_abs (pos l.from +ℤ l.stride *ℤ pos j)) 0
