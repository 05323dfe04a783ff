-- Numbers are binary64, written as patterns of 64 bits. An operation reads its patterns, works on the numbers that they stand for, and writes a pattern.
-- Reading knows one NaN, whatever its bits, and writing has one pattern for it, so no operation gives another.
use Rattle.std.specs.Prelude.{ℕ, ◌^◌, Bool, false, cond, not, ◌||◌, pos, from_bits, is_nan, to_bits, Float}
use Rattle.std.specs.Float.{binary64}
use Rattle.std.specs.Float.Ieee.{nan_bits, neg, add, sub, mul, div, lt, eq, of_int, to_unsigned}
use Rattle.std.specs.Float as Floats

abbrev pub read : ℕ → Float
read = from_bits binary64

abbrev pub write : Float → ℕ
write = to_bits binary64

-- ---- the patterns that have a name

abbrev pub bits_zero : ℕ
bits_zero = 0

abbrev pub bits_one : ℕ
bits_one = 0x3ff0_0000_0000_0000

abbrev pub bits_infinity : ℕ
bits_infinity = 0x7ff0_0000_0000_0000

abbrev pub bits_minus_infinity : ℕ
bits_minus_infinity = 0xfff0_0000_0000_0000

abbrev pub bits_nan : ℕ
bits_nan = 0x7ff8_0000_0000_0000

-- 1 for yes, 0 for no
abbrev pub flag : Bool → ℕ
flag b = cond b bits_one bits_zero

-- ---- on one number

unfoldable pub neg_bits : ℕ → ℕ
neg_bits a = write (neg (read a))

unfoldable pub abs_bits : ℕ → ℕ
abs_bits a = write (Floats.float_with_sign false (read a))

-- the root, rounded once to nearest, ties to even; a NaN below zero, and −0 of −0
unfoldable pub sqrt_bits : ℕ → ℕ
sqrt_bits a = write (Floats.sqrt binary64 (read a))

-- the greatest whole number that is not above; −0 stays
unfoldable pub floor_bits : ℕ → ℕ
floor_bits a = write (Floats.floor binary64 (read a))

-- 0, −0 and NaN are not true
unfoldable pub truth_bits : ℕ → Bool
truth_bits a = not (eq (read a) (read 0) || is_nan (read a))

unfoldable pub not_bits : ℕ → ℕ
unfolding truth_bits
not_bits a = flag (not (truth_bits a))

-- ---- on two numbers: sums, products and quotients round to nearest, ties to even

unfoldable pub add_bits : ℕ → ℕ → ℕ
add_bits a b = write (add binary64 (read a) (read b))

unfoldable pub sub_bits : ℕ → ℕ → ℕ
sub_bits a b = write (sub binary64 (read a) (read b))

unfoldable pub mul_bits : ℕ → ℕ → ℕ
mul_bits a b = write (mul binary64 (read a) (read b))

unfoldable pub div_bits : ℕ → ℕ → ℕ
div_bits a b = write (div binary64 (read a) (read b))

-- no NaN is less than a number, greater, or the same; 0 and −0 are the same
unfoldable pub less_bits : ℕ → ℕ → ℕ
less_bits a b = flag (lt (read a) (read b))

unfoldable pub same_bits : ℕ → ℕ → ℕ
same_bits a b = flag (eq (read a) (read b))

-- the first where it is less, else the second: so the second where they are the same or one is a NaN
unfoldable pub least_bits : ℕ → ℕ → ℕ
least_bits a b = write (cond (lt (read a) (read b)) (read a) (read b))

-- the first where the second is less, else the second
unfoldable pub most_bits : ℕ → ℕ → ℕ
most_bits a b = write (cond (lt (read b) (read a)) (read a) (read b))

-- ---- numbers and indices

-- the number nearest to a whole number: that number itself up to 2^53
unfoldable pub whole_bits : ℕ → ℕ
whole_bits n = write (of_int binary64 (pos n))

-- a whole number below 2^32 as an index, −0 as 0; any other gives 2^32, which is out of every range
unfoldable pub index_bits : ℕ → ℕ
index_bits a = cond (eq (read a) (of_int binary64 (pos (to_unsigned 32 (read a))))) (to_unsigned 32 (read a)) (2 ^ 32)

-- ---- the one pattern for a NaN

unfoldable pub canonical_bits : ℕ → ℕ
canonical_bits a = cond (nan_bits binary64 a) bits_nan a
