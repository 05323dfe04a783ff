-- The numbers of faults.
use Rattle.std.specs.Prelude.{ℕ}
use Rattle.reference.specs.declared.fault.Fault.{Fault}
use Rattle.reference.specs.declared.fault.Fault.TheVariants.{Shapes, Axes, Count, Range, Places, Nothing}

abbrev pub fault_number : Fault → ℕ
fault_number Shapes = 1
fault_number Axes = 2
fault_number Count = 3
fault_number Range = 4
fault_number Places = 5
fault_number Nothing = 6
