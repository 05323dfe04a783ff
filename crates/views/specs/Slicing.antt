-- The strides of a part, and its first place.
use Rattle.std.specs.Prelude.{ℕ, ◌<◌, List, [], ◌∷◌, length, ℤ, pos, ◌*ℤ◌, neg_ℤ, FitsSigned, nat_lt, slice_index_or}
use Rattle.std.specs.Int.{w64}
use Rattle.semantics.specs.Shapes.{pick}
use Rattle.semantics.specs.declared.slice.Slice.{Slice}
use Rattle.semantics.specs.Parts.{Part}

-- the first place of each axis
unfoldable pub froms : List Part → List ℕ
froms [] = []
froms (p ∷ ps) = p.from ∷ froms ps

-- one place further in a part is a step further in the array, back in a part that goes backward; along one place no stride counts
unfoldable pub part_stride : Part → ℤ → ℤ
part_stride p z = pick (nat_lt 1 p.many) (pick p.backward (neg_ℤ (z *ℤ pos p.step)) (z *ℤ pos p.step)) (pos 0)

unfoldable pub part_strides : List Part → List ℤ → List ℤ
unfolding part_stride
part_strides [] zs = []
part_strides (p ∷ ps) [] = []
part_strides (p ∷ ps) (z ∷ zs) = part_stride p z ∷ part_strides ps zs

-- a step is no longer than the largest word
pub record Steps (p : Slice) (z : ℤ) : Type 0 where
  pub forth : 1 < p.many → FitsSigned w64 (z *ℤ pos p.step)
  pub back : 1 < p.many → FitsSigned w64 (neg_ℤ (z *ℤ pos p.step))

pub record AllSteps (ps : List Slice) (zs : List ℤ) : Type 0 where
  pub each : (k : ℕ) (e : Slice) → k < length ps → Steps (slice_index_or ps k e) (slice_index_or zs k (pos 0))
