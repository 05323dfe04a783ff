-- The operations on bit patterns as the record that the meaning of programs takes.
use Rattle.std.specs.Prelude.{ℕ}
use Rattle.semantics.specs.declared.operation.Unary.{Unary}
use Rattle.semantics.specs.declared.operation.Unary.TheVariants.{Neg, Abs, Sqrt, Floor, Not}
use Rattle.semantics.specs.declared.operation.Binary.{Binary}
use Rattle.semantics.specs.declared.operation.Binary.TheVariants.{Add, Sub, Mul, Div, Less, Same, Least, Most}
use Rattle.semantics.specs.Arrays.{Numbers}
use Rattle.numbers.specs.Binary64.{bits_zero, bits_one, bits_infinity, bits_minus_infinity, neg_bits, abs_bits, sqrt_bits, floor_bits, truth_bits, not_bits, add_bits, sub_bits, mul_bits, div_bits, less_bits, same_bits, least_bits, most_bits, whole_bits, index_bits}

unfoldable pub unary_bits : Unary → ℕ → ℕ
unary_bits Neg = neg_bits
unary_bits Abs = abs_bits
unary_bits Sqrt = sqrt_bits
unary_bits Floor = floor_bits
unary_bits Not = not_bits

unfoldable pub binary_bits : Binary → ℕ → ℕ → ℕ
binary_bits Add = add_bits
binary_bits Sub = sub_bits
binary_bits Mul = mul_bits
binary_bits Div = div_bits
binary_bits Less = less_bits
binary_bits Same = same_bits
binary_bits Least = least_bits
binary_bits Most = most_bits

-- what a fold along a length of 0 gives
unfoldable pub empty_bits : Binary → ℕ
empty_bits Add = bits_zero
empty_bits Sub = bits_zero
empty_bits Mul = bits_one
empty_bits Div = bits_one
empty_bits Less = bits_zero
empty_bits Same = bits_one
empty_bits Least = bits_infinity
empty_bits Most = bits_minus_infinity

unfoldable pub binary64 : Numbers ℕ
binary64 =
    record {
      one = unary_bits;
      two = binary_bits;
      truth = truth_bits;
      index = index_bits;
      of = whole_bits;
      empty = empty_bits;
    }
