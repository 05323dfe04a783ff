-- Words of four and eight bytes, low byte first: the word that stands at an index, and the bytes of a word.
use Rattle.std.specs.Prelude.{ℕ, ◌+◌, ◌*◌, ◌/◌, ◌%◌, List, [], ◌∷◌, ◌++◌, length, take, drop, slice_index}

unfoldable pub word4 : List ℕ → ℕ → ℕ
word4 bs i = slice_index bs i + slice_index bs (i + 1) * 256 + slice_index bs (i + 2) * 65536 + slice_index bs (i + 3) * 16777216

unfoldable pub word8 : List ℕ → ℕ → ℕ
word8 bs i =
    slice_index bs i + slice_index bs (i + 1) * 256 + slice_index bs (i + 2) * 65536 + slice_index bs (i + 3) * 16777216 + slice_index bs (i + 4) * 4294967296 + slice_index bs (i + 5) * 1099511627776
    + slice_index bs (i + 6) * 281474976710656
    + slice_index bs (i + 7) * 72057594037927936

unfoldable pub bytes4 : ℕ → List ℕ
bytes4 x = x % 256 ∷ x / 256 % 256 ∷ x / 65536 % 256 ∷ x / 16777216 % 256 ∷ []

unfoldable pub bytes8 : ℕ → List ℕ
bytes8 x =
    x % 256 ∷ x / 256 % 256 ∷ x / 65536 % 256 ∷ x / 16777216 % 256 ∷ x / 4294967296 % 256 ∷ x / 1099511627776 % 256 ∷ x / 281474976710656 % 256 ∷ x / 72057594037927936 % 256 ∷ []

-- the bytes ws in bs from an index on, the others as they were
unfoldable pub written : List ℕ → ℕ → List ℕ → List ℕ
written bs at ws = take at bs ++ (ws ++ drop (at + length ws) bs)
