-- What names stand for.
use Rattle.std.specs.Prelude.{◌≡◌, ℕ, ◌<◌, ◌≤◌, List, map, length, vec_items, Option, Some, None, Ok, Err, Result, Vec, slice_set}
use Rattle.std.specs.declared.alloc.Global.{Global}
use Rattle.semantics.specs.Values as meaning
use Rattle.reference.specs.declared.array.Array.{Array}
use Rattle.reference.specs.declared.fault.Fault.{Fault}
use Rattle.reference.specs.declared.fault.Fault.TheVariants.{Nothing}
use Rattle.reference.specs.ArrayOf.{array_of}

abbrev pub cell_of : Option Array → meaning.Cell ℕ
cell_of None = meaning.none
cell_of (Some a) = meaning.some (array_of a)

abbrev pub cells_of : Vec (Option Array) Global → List (meaning.Cell ℕ)
cells_of names = map cell_of (vec_items names)

-- at most 64 names, 8 axes, and so many places
abbrev pub sizes : ℕ → meaning.Sizes
sizes p = record { names = 64; axes = 8; places = p }

-- a name gets an array; one past the last has nothing, and nothing changes
abbrev pub Puts : Vec (Option Array) Global → Vec (Option Array) Global → ℕ → Array → Result (Unit {0}) Fault → Type 0
Puts old new k a (Err f) = (length (vec_items old) ≤ k) × (f ≡ Nothing) × (new ≡ old)
Puts old new k a (Ok u) = (k < length (vec_items old)) × (vec_items new ≡ slice_set (vec_items old) k (Some a))
