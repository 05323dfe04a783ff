-- The last place of a slice.
use Rattle.std.specs.Prelude.{ℕ, ◌+◌, ◌-◌, ◌*◌, Bool, nat_le, nat_lt}
use Rattle.semantics.specs.Shapes.{pick}
use Rattle.semantics.specs.Parts.{Part}

-- whether the last place of a part is a place of an axis
abbrev pub last_inside : Part → ℕ → Bool
last_inside p d = pick p.backward (nat_le (p.step * (p.many - 1)) p.from) (nat_lt (p.from + p.step * (p.many - 1)) d)
