-- An array as text: a line `shape` with the lengths after single spaces, then the numbers, a line for each row of the last axis,
-- 16 hexadecimal digits each, parted by single spaces. An array without axes is one line, one without numbers has none.
use Rattle.std.specs.Prelude.{◌≡◌, ℕ, ◌+◌, ◌-◌, ◌%◌, true, false, ◌&&◌, List, [], ◌∷◌, ◌++◌, length, Some, None, codes, decimal, Option, ◌==◌, nat_lt, slice_index_or}
use Rattle.std.specs.List.{flat_map}
use Rattle.semantics.specs.Shapes.{pick}
use Rattle.semantics.specs.Programs.{Shown, listed}
use Rattle.encoding.specs.Format.{good_at, next_at, array_at}
use Rattle.writer.specs.Digits.{hex16}

unfoldable pub shape_text : List ℕ → List ℕ
shape_text s = codes "shape" ++ flat_map (λ d. 32 ∷ decimal d) s ++ 10 ∷ []

-- how many numbers a line has
abbrev pub row_length : List ℕ → ℕ
row_length s = slice_index_or s (length s - 1) 1

-- behind k numbers comes a line's end or a space
abbrev pub gap : ℕ → ℕ → ℕ
gap row k = pick (nat_lt 0 row && k % row == 0) 10 32

unfoldable pub numbers_text : ℕ → ℕ → List ℕ → List ℕ
unfolding hex16
numbers_text row k [] = []
numbers_text row k (x ∷ xs) = hex16 x ++ gap row (k + 1) ∷ numbers_text row (k + 1) xs

unfoldable pub array_text : Shown ℕ → List ℕ
unfolding shape_text numbers_text
array_text h = shape_text h.shape ++ numbers_text (row_length h.shape) 0 h.numbers

-- what listing the array at i does to a text: nothing where there is none
abbrev pub Lists : List ℕ → ℕ → List ℕ → List ℕ → Option ℕ → Type 0
Lists bs i old new None = (good_at bs i ≡ false) × (new ≡ old)
Lists bs i old new (Some n) = (good_at bs i ≡ true) × (n ≡ next_at bs i) × (new ≡ old ++ array_text (listed (array_at bs i)))
