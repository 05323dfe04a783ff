-- The numbers of inputs are patterns: an input's bytes are bytes, and a NaN of any bits is read as the one.
use Rattle.std.proofs.Common.{◌≡◌, ℕ, zero, suc, ◌+◌, ◌^◌, ◌<◌, List, [], ◌∷◌, map, get_or, subst, arith}
use Rattle.semantics.specs.Shapes.{In}
use Rattle.semantics.specs.Arrays.{Array}
use Rattle.semantics.specs.Values.{some, given}
use Rattle.numbers.specs.Patterns.{Pattern}
use Rattle.numbers.proofs.Written.{canonical_pattern}
use Rattle.encoding.specs.Words.{word8}
use Rattle.encoding.specs.Format.{number_at, array_at, offsets, inputs_of}

-- each byte is one
pub record Bytes (bs : List ℕ) : Type 0 where
  pub each : (i : ℕ) → get_or bs i 0 < 256

word8_below : (bs : List ℕ) (i : ℕ) → Bytes bs → word8 bs i < 2 ^ 64
unfolding word8
word8_below bs i b =
    omega (arith, b.each i, b.each (i + 1), b.each (i + 2), b.each (i + 3), b.each (i + 4), b.each (i + 5), b.each (i + 6), b.each (i + 7))

record From (bs : List ℕ) (a : Array ℕ) : Type 0 where
  offset : ℕ
  is : array_at bs offset ≡ a

given_from : (bs xs : List ℕ) (k : ℕ) (a : Array ℕ) → given (map (array_at bs) xs) k ≡ some a → From bs a
unfolding given
given_from bs [] k a e = absurd (let z : ◌≡◌ {A = ℕ} 0 1 = cc in omega arith)
given_from bs (x ∷ xs) zero a e = record { offset = x; is = cc }
given_from bs (x ∷ xs) (suc k) a e = given_from bs xs k a e

array_pattern : (bs : List ℕ) (o : ℕ) → Bytes bs → (is : List ℕ) → Pattern ((array_at bs o).at is)
unfolding array_at number_at
array_pattern bs o b is = canonical_pattern _ (word8_below bs _ b)

pub inputs_plain : (bs : List ℕ) → Bytes bs → (k : ℕ) (a : Array ℕ) → given (inputs_of bs) k ≡ some a → (is : List ℕ) → In a.shape is → Pattern (a.at is)
unfolding inputs_of
inputs_plain bs b k a e is h =
    let f = given_from bs (offsets bs) k a e in
    subst (λ x. Pattern (x.at is)) f.is (array_pattern bs f.offset b is)
