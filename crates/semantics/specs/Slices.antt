-- The part of the meaning that a slice by value stands for.
use Rattle.std.specs.Prelude.{false, List, map}
use Rattle.semantics.specs.declared.slice.Slice.{Slice}
use Rattle.semantics.specs.Parts.{Part}

abbrev pub part_of : Slice → Part
part_of s = record { from = s.from; backward = s.backward; step = s.step; many = s.many }

abbrev pub parts_of : List Slice → List Part
parts_of = map part_of

-- what stands where there is no slice
abbrev pub no_part : Part
no_part = record { from = 0; backward = false; step = 0; many = 0 }

-- and the slice by value that a part of the meaning stands for
abbrev pub slice_of : Part → Slice
slice_of p = record { from = p.from; backward = p.backward; step = p.step; many = p.many }
