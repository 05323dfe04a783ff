-- What the fields of the record are.
use Rattle.std.proofs.Common.{◌≡◌, ℕ, refl}
use Rattle.semantics.specs.declared.operation.Unary.TheVariants.{Neg, Abs, Sqrt, Floor, Not}
use Rattle.semantics.specs.declared.operation.Binary.{Binary}
use Rattle.semantics.specs.declared.operation.Binary.TheVariants.{Add, Sub, Mul, Div, Less, Same, Least, Most}
use Rattle.numbers.specs.Binary64.{neg_bits, abs_bits, sqrt_bits, floor_bits, truth_bits, not_bits, add_bits, sub_bits, mul_bits, div_bits, less_bits, same_bits, least_bits, most_bits, whole_bits, index_bits}
use Rattle.numbers.specs.Operations.{binary64, unary_bits, binary_bits, empty_bits}

pub one_neg : (a : ℕ) → binary64.one Neg a ≡ neg_bits a
unfolding binary64 unary_bits
one_neg a = refl

pub one_abs : (a : ℕ) → binary64.one Abs a ≡ abs_bits a
unfolding binary64 unary_bits
one_abs a = refl

pub one_sqrt : (a : ℕ) → binary64.one Sqrt a ≡ sqrt_bits a
unfolding binary64 unary_bits
one_sqrt a = refl

pub one_floor : (a : ℕ) → binary64.one Floor a ≡ floor_bits a
unfolding binary64 unary_bits
one_floor a = refl

pub one_not : (a : ℕ) → binary64.one Not a ≡ not_bits a
unfolding binary64 unary_bits
one_not a = refl

pub two_add : (a b : ℕ) → binary64.two Add a b ≡ add_bits a b
unfolding binary64 binary_bits
two_add a b = refl

pub two_sub : (a b : ℕ) → binary64.two Sub a b ≡ sub_bits a b
unfolding binary64 binary_bits
two_sub a b = refl

pub two_mul : (a b : ℕ) → binary64.two Mul a b ≡ mul_bits a b
unfolding binary64 binary_bits
two_mul a b = refl

pub two_div : (a b : ℕ) → binary64.two Div a b ≡ div_bits a b
unfolding binary64 binary_bits
two_div a b = refl

pub two_less : (a b : ℕ) → binary64.two Less a b ≡ less_bits a b
unfolding binary64 binary_bits
two_less a b = refl

pub two_same : (a b : ℕ) → binary64.two Same a b ≡ same_bits a b
unfolding binary64 binary_bits
two_same a b = refl

pub two_least : (a b : ℕ) → binary64.two Least a b ≡ least_bits a b
unfolding binary64 binary_bits
two_least a b = refl

pub two_most : (a b : ℕ) → binary64.two Most a b ≡ most_bits a b
unfolding binary64 binary_bits
two_most a b = refl

pub truth_is : (a : ℕ) → binary64.truth a ≡ truth_bits a
unfolding binary64
truth_is a = refl

pub index_is : (a : ℕ) → binary64.index a ≡ index_bits a
unfolding binary64
index_is a = refl

pub of_is : (n : ℕ) → binary64.of n ≡ whole_bits n
unfolding binary64
of_is n = refl

pub empty_is : (k : Binary) → binary64.empty k ≡ empty_bits k
unfolding binary64
empty_is k = refl
