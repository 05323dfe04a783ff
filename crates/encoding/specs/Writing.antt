-- The bytes of an array, and what writing them leaves.
use Rattle.std.specs.Prelude.{◌≡◌, ℕ, ◌+◌, ◌<◌, ◌≤◌, List, ◌∷◌, ◌++◌, length, Some, None, Option}
use Rattle.std.specs.List.{flat_map}
use Rattle.encoding.specs.Words.{bytes4, bytes8, written}

unfoldable pub head_bytes : List ℕ → List ℕ
unfolding bytes4
head_bytes s = length s ∷ flat_map bytes4 s

unfoldable pub number_bytes : List ℕ → List ℕ
unfolding bytes8
number_bytes ns = flat_map bytes8 ns

unfoldable pub array_bytes : List ℕ → List ℕ → List ℕ
unfolding head_bytes number_bytes
array_bytes s ns = head_bytes s ++ number_bytes ns

-- ws stands at an index and the other bytes are as they were; or it does not fit, and all bytes are as they were
abbrev pub Writes : List ℕ → List ℕ → ℕ → List ℕ → Option ℕ → Type 0
Writes old new at ws None = (length old < at + length ws) × (new ≡ old)
Writes old new at ws (Some e) = (e ≡ at + length ws) × (e ≤ length old) × (new ≡ written old at ws)
