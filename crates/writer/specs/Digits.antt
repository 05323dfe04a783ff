-- Words as hexadecimal digits, the highest first: 0 to 9, then a to f.
use Rattle.std.specs.Prelude.{ℕ, zero, suc, ◌+◌, ◌-◌, ◌/◌, ◌%◌, ◌^◌, List, [], ◌∷◌, nat_lt}
use Rattle.semantics.specs.Shapes.{pick}

abbrev pub hex_digit : ℕ → ℕ
hex_digit n = pick (nat_lt n 10) (48 + n) (97 + (n - 10))

-- the last n digits of x
unfoldable pub hex_last : ℕ → ℕ → List ℕ
hex_last zero x = []
hex_last (suc n) x = hex_digit (x / 16 ^ n % 16) ∷ hex_last n x

unfoldable pub hex16 : ℕ → List ℕ
unfolding hex_last
hex16 x = hex_last 16 x
