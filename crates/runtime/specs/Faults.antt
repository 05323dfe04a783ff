-- The numbers of faults.
use Rattle.std.specs.Prelude.{ℕ}
use Rattle.runtime.specs.declared.fault.Fault.{Fault}
use Rattle.runtime.specs.declared.fault.Fault.TheVariants.{Shapes, Places, Nothing, Room}

-- 1 shapes that cannot be broadcast together, 5 places, 6 a name or input that has nothing, 10 no room for what is shown
abbrev pub fault_number : Fault → ℕ
fault_number (Shapes s t) = 1
fault_number Places = 5
fault_number Nothing = 6
fault_number Room = 10
