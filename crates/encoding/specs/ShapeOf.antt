-- A shape by value stands for its first `rank` lengths.
use Rattle.std.specs.Prelude.{ℕ, List, take}
use Rattle.encoding.specs.declared.shape.Shape.{Shape}

abbrev pub shape_of : Shape → List ℕ
shape_of v = take v.rank v.lens
