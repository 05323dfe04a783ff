-- A number as the code holds it between reading patterns and writing one: which pattern it stands for. Where numbers stand for patterns, what an operation makes of them stands for what it makes of the patterns; so no proof above opens an operation.
use Rattle.std.specs.Prelude.{◌≡◌, ℕ, Float}
use Rattle.semantics.specs.declared.operation.Unary.{Unary}
use Rattle.semantics.specs.declared.operation.Binary.{Binary}
use Rattle.numbers.specs.Binary64.{read}
use Rattle.numbers.specs.Operations.{binary64}

pub record StandsFor (x : Float) (a : ℕ) : Type 0 where
  pub is : x ≡ read a

-- r is what an operation makes of x, or of x and y
pub record MadeOfOne (k : Unary) (x r : Float) : Type 0 where
  pub on : (a : ℕ) → StandsFor x a → StandsFor r (binary64.one k a)

pub record MadeOfTwo (k : Binary) (x y r : Float) : Type 0 where
  pub on : (a b : ℕ) → StandsFor x a → StandsFor y b → StandsFor r (binary64.two k a b)
