-- How long the words and numbers of a step are.
use Rattle.std.proofs.Common.{◌≡◌, ℕ, zero, suc, ◌^◌, ◌<◌, ◌≤◌, length, decimal, refl, ap, arith}
use Rattle.std.proofs.lemmas.Fmt.{length-decimal-le}
use Rattle.semantics.specs.declared.operation.Unary.{Unary}
use Rattle.semantics.specs.declared.operation.Unary.TheVariants.{Neg, Abs, Sqrt, Floor, Not}
use Rattle.semantics.specs.declared.operation.Binary.{Binary}
use Rattle.semantics.specs.declared.operation.Binary.TheVariants.{Add, Sub, Mul, Div, Less, Same, Least, Most}
use Rattle.grammar.specs.Words.{unary_word, binary_word}
use Rattle.writer.specs.Digits.{hex_last, hex16}

pub unary_short : (k : Unary) → length (unary_word k) ≤ 5
unfolding unary_word
unary_short Neg = omega arith
unary_short Abs = omega arith
unary_short Sqrt = omega arith
unary_short Floor = omega arith
unary_short Not = omega arith

pub binary_short : (k : Binary) → length (binary_word k) ≤ 5
unfolding binary_word
binary_short Add = omega arith
binary_short Sub = omega arith
binary_short Mul = omega arith
binary_short Div = omega arith
binary_short Less = omega arith
binary_short Same = omega arith
binary_short Least = omega arith
binary_short Most = omega arith

pub decimal_short : (n : ℕ) → n < 2 ^ 32 → length (decimal n) ≤ 10
decimal_short n h =
    let few : n < 10 ^ 10 = omega arith in
    let fits : n < 2 ^ 64 = omega arith in length-decimal-le 10 n (omega arith) few fits

hex_last_long : (n x : ℕ) → length (hex_last n x) ≡ n
unfolding hex_last
hex_last_long zero x = refl
hex_last_long (suc n) x = ap suc (hex_last_long n x)

pub hex16_long : (x : ℕ) → length (hex16 x) ≡ 16
unfolding hex16
hex16_long x = hex_last_long 16 x
