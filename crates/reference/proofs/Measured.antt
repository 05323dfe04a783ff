-- How long shapes and slices are.
use Rattle.std.proofs.Common.{◌≡◌, ℕ, suc, ◌≤◌, true, List, [], ◌∷◌, length, refl, ap, arith, length-take}
use Rattle.std.proofs.lemmas.Bool.{and_parts}
use Rattle.semantics.specs.Parts.{Part, parts_fit}
use Rattle.encoding.specs.declared.shape.Shape.{Shape}
use Rattle.encoding.specs.ShapeOf.{shape_of}

pub length_shape : (s : Shape) → length (shape_of s) ≤ 8
length_shape s = omega (arith, length-take s.rank s.lens, s.few)

pub length_fit : (ps : List Part) (s : List ℕ) → parts_fit ps s ≡ true → length ps ≡ length s
unfolding parts_fit
length_fit [] [] e = refl
length_fit [] (d ∷ s) e = absurd (let z : ◌≡◌ {A = ℕ} 0 1 = cc in omega arith)
length_fit (p ∷ ps) [] e = absurd (let z : ◌≡◌ {A = ℕ} 0 1 = cc in omega arith)
length_fit (p ∷ ps) (d ∷ s) e = ap suc (length_fit ps s (and_parts _ _ e).1)
