-- What the patterns that have a name stand for.
use Rattle.std.specs.Prelude.{◌≡◌, true, false, pos}
use Rattle.std.specs.Float.{nan, inf, fin}
use Rattle.numbers.specs.Binary64.{read, write, bits_zero, bits_one, bits_infinity, bits_minus_infinity, bits_nan}

pub record Named : Type 0 where
  pub zero : read bits_zero ≡ fin false 0 (pos 0)
  pub one : read bits_one ≡ fin false 1 (pos 0)
  pub infinity : read bits_infinity ≡ inf false
  pub minus_infinity : read bits_minus_infinity ≡ inf true
  pub not_a_number : write nan ≡ bits_nan
