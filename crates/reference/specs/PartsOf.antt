-- What slices by value are asked.
use Rattle.std.specs.Prelude.{ℕ, ◌<◌, List, map, length, slice_index}
use Rattle.semantics.specs.declared.slice.Slice.{Slice}

-- no step is 0
abbrev pub Stepping : List Slice → Type 0
Stepping xs = (k : ℕ) → k < length xs → 0 < slice_index (map (λ s. s.step) xs) k
