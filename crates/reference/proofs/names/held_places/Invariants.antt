use Rattle.std.proofs.Common.{◌≡◌, ◌-◌, ◌^◌, min, map, take, vec_items}
use Rattle.semantics.specs.Programs.{in_names}
use Rattle.reference.specs.CellsOf.{cell_of}
use Rattle.reference.proofs.names.held_places.Given as goal

abbrev pub invariant-loop-cell : goal.invariant-loop-cell
invariant-loop-cell l = l.places ≡ min (in_names (take l.cell-index (map cell_of (vec_items l.names)))) (2 ^ 64 - 1)
