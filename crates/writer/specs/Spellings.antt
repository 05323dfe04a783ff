-- How names are spelled, in the order of their numbers: a to z, a1 to z1, a2 to l2.
use Rattle.std.specs.Prelude.{◌≡◌, ℕ, ◌+◌, ◌/◌, ◌%◌, true, List, [], ◌∷◌, map, take, nat_lt}
use Rattle.std.specs.List.{range_with_len}
use Rattle.semantics.specs.Shapes.{pick}
use Rattle.grammar.specs.Words.{Word, are_names}

unfoldable pub spelled : ℕ → Word
spelled k = (97 + k % 26) ∷ pick (nat_lt k 26) [] ((48 + k / 26) ∷ [])

unfoldable pub spellings : List Word
unfolding spelled
spellings = map spelled (range_with_len 0 64)

-- the first of them are names, however many, and no two alike
abbrev pub SpellingsAreNames : Type 0
SpellingsAreNames = (n : ℕ) → are_names (take n spellings) ≡ true
