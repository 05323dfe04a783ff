-- The array of the meaning that an owned array stands for.
use Rattle.std.specs.Prelude.{ℕ, List, vec_items, slice_index}
use Rattle.semantics.specs.Shapes.{flat}
use Rattle.semantics.specs.Broadcast.{narrow}
use Rattle.semantics.specs.Arrays as meaning
use Rattle.encoding.specs.ShapeOf.{shape_of}
use Rattle.reference.specs.declared.array.Array.{Array}

-- a shape, and a number for each place
abbrev pub array_with : List ℕ → (List ℕ → ℕ) → meaning.Array ℕ
array_with s f = record { shape = s; at = f }

abbrev pub array_of : Array → meaning.Array ℕ
array_of a = array_with (shape_of a.shape) (λ is. slice_index (vec_items a.numbers) (flat (shape_of a.shape) is))

-- the number at a place of a wider shape
abbrev pub narrow_at : Array → List ℕ → ℕ
narrow_at a is = (array_of a).at (narrow (shape_of a.shape) is)
