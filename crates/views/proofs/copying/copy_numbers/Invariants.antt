use Rattle.std.proofs.Common.{◌≡◌, ℕ, ◌<◌, [], get_or, pos, ◌+ℤ◌, ◌*ℤ◌, nat_abs}
use Rattle.views.specs.declared.view.Source.TheVariants.{Input}
use Rattle.views.specs.Views.{number_from}
use Rattle.views.proofs.copying.copy_numbers.Given as goal

abbrev pub invariant-loop-index : goal.invariant-loop-index
invariant-loop-index l = (j : ℕ) → j < l.index → get_or l.out j 0 ≡ number_from (Input l.base) [] l.bytes (nat_abs (pos l.from +ℤ l.stride *ℤ pos j))
