-- An array in bytes, from an index on: the number of axes (one byte), the lengths (four bytes each), the numbers (eight bytes each, rows first).
use Rattle.std.specs.Prelude.{ℕ, zero, suc, ◌+◌, ◌*◌, Bool, ◌&&◌, List, [], ◌∷◌, ◌++◌, map, length, nat_le, slice_index}
use Rattle.semantics.specs.Shapes.{pick, size, flat}
use Rattle.semantics.specs.Arrays.{Array}
use Rattle.numbers.specs.Binary64.{canonical_bits}
use Rattle.encoding.specs.Words.{word4, word8}

unfoldable pub rank_at : List ℕ → ℕ → ℕ
rank_at bs i = slice_index bs i

-- the first k words of four bytes from i on
unfoldable pub words_at : List ℕ → ℕ → ℕ → List ℕ
unfolding word4
words_at bs i zero = []
words_at bs i (suc k) = words_at bs i k ++ word4 bs (i + 4 * k) ∷ []

unfoldable pub shape_at : List ℕ → ℕ → List ℕ
unfolding words_at rank_at
shape_at bs i = words_at bs (i + 1) (rank_at bs i)

-- where the numbers begin, and what lies behind them
unfoldable pub start_at : List ℕ → ℕ → ℕ
unfolding rank_at
start_at bs i = i + 1 + 4 * rank_at bs i

unfoldable pub next_at : List ℕ → ℕ → ℕ
unfolding start_at shape_at size
next_at bs i = start_at bs i + 8 * size (shape_at bs i)

-- at most 8 axes, and all of it is there
unfoldable pub good_at : List ℕ → ℕ → Bool
unfolding rank_at next_at
good_at bs i = nat_le (rank_at bs i) 8 && nat_le (next_at bs i) (length bs)

-- a number: eight bytes, a NaN of any bits as the one
unfoldable pub number_at : List ℕ → ℕ → ℕ
unfolding word8 canonical_bits
number_at bs i = canonical_bits (word8 bs i)

unfoldable pub array_at : List ℕ → ℕ → Array ℕ
unfolding shape_at start_at number_at flat
array_at bs i = record { shape = shape_at bs i; at = λ is. number_at bs (start_at bs i + 8 * flat (shape_at bs i) is) }

-- inputs one after another: where the good ones begin, and where reading stops, at the end of the bytes or at the first that is not good
pub record Row : Type 0 where
  pub offsets : List ℕ
  pub stop : ℕ

unfoldable pub behind : ℕ → Row → Row
behind i r = record { offsets = i ∷ r.offsets; stop = r.stop }

unfoldable pub row_from : ℕ → List ℕ → ℕ → Row
unfolding good_at next_at behind
row_from zero bs i = record { offsets = []; stop = i }
row_from (suc f) bs i = pick (good_at bs i) (behind i (row_from f bs (next_at bs i))) (record { offsets = []; stop = i })

-- an input takes a byte at least, so there are no more of them than bytes
unfoldable pub row_at : List ℕ → ℕ → Row
unfolding row_from
row_at bs i = row_from (length bs) bs i

unfoldable pub offsets : List ℕ → List ℕ
unfolding row_at
offsets bs = (row_at bs 0).offsets

unfoldable pub stop : List ℕ → ℕ
unfolding row_at
stop bs = (row_at bs 0).stop

-- the arrays that the inputs are
unfoldable pub inputs_of : List ℕ → List (Array ℕ)
unfolding array_at offsets
inputs_of bs = map (array_at bs) (offsets bs)
