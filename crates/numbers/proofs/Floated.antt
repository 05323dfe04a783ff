-- What the operations do to numbers, through the patterns that these stand for.
use Rattle.std.proofs.Common.{◌≡◌, ℕ, Bool, false, cond, not, ◌||◌, T, pos, sym, ap, ◌∙◌, ap₂}
use lib.Ieee.{Float, binary64, fits, is_nan, neg, add, sub, mul, div, lt, eq, of_int}
use lib.Ieee.Fits.{cond-fits, neg-fits, add-fits, sub-fits, mul-fits, div-fits, of_int-fits}
use Rattle.std.specs.Float as Floats
use Rattle.semantics.specs.declared.operation.Unary.{Unary}
use Rattle.semantics.specs.declared.operation.Unary.TheVariants.{Neg, Abs, Sqrt, Floor, Not}
use Rattle.semantics.specs.declared.operation.Binary.{Binary}
use Rattle.semantics.specs.declared.operation.Binary.TheVariants.{Add, Sub, Mul, Div, Less, Same, Least, Most}
use Rattle.numbers.specs.Binary64.{read, write, flag, neg_bits, abs_bits, sqrt_bits, floor_bits, truth_bits, not_bits, add_bits, sub_bits, mul_bits, div_bits, less_bits, same_bits, least_bits, most_bits, whole_bits}
use Rattle.numbers.specs.Operations.{unary_bits, binary_bits, binary64 as numbers}
use Rattle.numbers.specs.Patterns.{Pattern}
use Rattle.numbers.specs.Standing.{StandsFor, MadeOfOne, MadeOfTwo}
use Rattle.numbers.proofs.Written.{read_write, write_read, read_fits, abs_fits, sqrt_fits, floor_fits}

-- the value that an operation writes stands for its pattern
pub stands_written : (v : Float) → T (fits binary64 v) → StandsFor v (write v)
stands_written v h = record { is = sym (read_write v h) }

pub stands_same : {x y : Float} {a : ℕ} → x ≡ y → StandsFor y a → StandsFor x a
stands_same e s = record { is = e ∙ s.is }

pub stands_write : {x : Float} (a : ℕ) → StandsFor x a → Pattern a → write x ≡ a
stands_write a s p = ap write s.is ∙ (write_read a p.below ∙ p.plain)

pub stands_of : (n : ℕ) → StandsFor (of_int binary64 (pos n)) (numbers.of n)
unfolding numbers whole_bits
stands_of n = stands_written _ (of_int-fits binary64 (pos n))

made_of_one : (k : Unary) (f : Float → Float) → ((a : ℕ) → StandsFor (f (read a)) (numbers.one k a)) → {x r : Float} → r ≡ f x → MadeOfOne k x r
made_of_one k f h e = record { on = λ a s. stands_same (e ∙ ap f s.is) (h a) }

made_of_two : (k : Binary) (f : Float → Float → Float) → ((a b : ℕ) → StandsFor (f (read a) (read b)) (numbers.two k a b)) → {x y r : Float} → r ≡ f x y → MadeOfTwo k x y r
made_of_two k f h e = record { on = λ a b s t. stands_same (e ∙ ap₂ f s.is t.is) (h a b) }

pub made_neg : {x r : Float} → r ≡ neg x → MadeOfOne Neg x r
unfolding numbers unary_bits neg_bits
made_neg e = made_of_one Neg neg (λ a. stands_written _ (neg-fits binary64 (read a) (read_fits a))) e

pub made_abs : {x r : Float} → r ≡ Floats.float_with_sign false x → MadeOfOne Abs x r
unfolding numbers unary_bits abs_bits
made_abs e = made_of_one Abs (Floats.float_with_sign false) (λ a. stands_written _ (abs_fits (read a) (read_fits a))) e

pub made_sqrt : {x r : Float} → r ≡ Floats.sqrt binary64 x → MadeOfOne Sqrt x r
unfolding numbers unary_bits sqrt_bits
made_sqrt e = made_of_one Sqrt (Floats.sqrt binary64) (λ a. stands_written _ (sqrt_fits (read a) (read_fits a))) e

pub made_floor : {x r : Float} → r ≡ Floats.floor binary64 x → MadeOfOne Floor x r
unfolding numbers unary_bits floor_bits
made_floor e = made_of_one Floor (Floats.floor binary64) (λ a. stands_written _ (floor_fits (read a))) e

-- through a truth, or a comparison, of what they stand for
pub made_not : {x r : Float} {b : Bool} → ((a : ℕ) → StandsFor x a → b ≡ numbers.truth a) → StandsFor r (flag (not b)) → MadeOfOne Not x r
unfolding numbers unary_bits not_bits
made_not e s = record { on = λ a t. record { is = s.is ∙ ap (λ c. read (flag (not c))) (e a t) } }

pub truth_stands : {x : Float} (a : ℕ) → StandsFor x a → not (eq x (read 0) || is_nan x) ≡ numbers.truth a
unfolding numbers truth_bits
truth_stands a s = ap (λ y. not (eq y (read 0) || is_nan y)) s.is

pub made_add : {x y r : Float} → r ≡ add binary64 x y → MadeOfTwo Add x y r
unfolding numbers binary_bits add_bits
made_add e = made_of_two Add (add binary64) (λ a b. stands_written _ (add-fits binary64 (read a) (read b))) e

pub made_sub : {x y r : Float} → r ≡ sub binary64 x y → MadeOfTwo Sub x y r
unfolding numbers binary_bits sub_bits
made_sub e = made_of_two Sub (sub binary64) (λ a b. stands_written _ (sub-fits binary64 (read a) (read b))) e

pub made_mul : {x y r : Float} → r ≡ mul binary64 x y → MadeOfTwo Mul x y r
unfolding numbers binary_bits mul_bits
made_mul e = made_of_two Mul (mul binary64) (λ a b. stands_written _ (mul-fits binary64 (read a) (read b))) e

pub made_div : {x y r : Float} → r ≡ div binary64 x y → MadeOfTwo Div x y r
unfolding numbers binary_bits div_bits
made_div e = made_of_two Div (div binary64) (λ a b. stands_written _ (div-fits binary64 (read a) (read b))) e

pub made_less : {x y r : Float} → StandsFor r (flag (lt x y)) → MadeOfTwo Less x y r
unfolding numbers binary_bits less_bits
made_less s = record { on = λ a b t u. record { is = s.is ∙ ap₂ (λ v w. read (flag (lt v w))) t.is u.is } }

pub made_same : {x y r : Float} → StandsFor r (flag (eq x y)) → MadeOfTwo Same x y r
unfolding numbers binary_bits same_bits
made_same s = record { on = λ a b t u. record { is = s.is ∙ ap₂ (λ v w. read (flag (eq v w))) t.is u.is } }

pub made_least : {x y r : Float} → r ≡ cond (lt x y) x y → MadeOfTwo Least x y r
unfolding numbers binary_bits least_bits
made_least e =
    made_of_two Least (λ x y. cond (lt x y) x y) (λ a b. stands_written _ (cond-fits binary64 (lt (read a) (read b)) (read a) (read b) (read_fits a) (read_fits b))) e

pub made_most : {x y r : Float} → r ≡ cond (lt y x) x y → MadeOfTwo Most x y r
unfolding numbers binary_bits most_bits
made_most e =
    made_of_two Most (λ x y. cond (lt y x) x y) (λ a b. stands_written _ (cond-fits binary64 (lt (read b) (read a)) (read a) (read b) (read_fits a) (read_fits b))) e
