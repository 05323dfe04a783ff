-- Whether two shapes are the same is read off their lengths alone.
use Rattle.std.specs.Prelude.{◌≡◌, ℕ, List, [], ◌∷◌, refl, nat_eq, ◌&&◌}
use Rattle.std.specs.Cmp.{IsPartialEquivalence}
use Rattle.std.specs.Cmp.Lexicographic.{pointwise}
use Rattle.std.proofs.Common.{sym, ap, ◌∙◌}
use Rattle.std.proofs.lemmas.Cmp.{nat_list_eq_equiv}
use Rattle.semantics.specs.Shapes.{same}
use Rattle.encoding.specs.declared.shape.Shape.{Shape}
use Rattle.encoding.specs.ShapeOf.{shape_of}

pub same_pointwise : (xs ys : List ℕ) → pointwise nat_eq xs ys ≡ same xs ys
unfolding same
same_pointwise [] [] = refl
same_pointwise [] (b ∷ ys) = refl
same_pointwise (a ∷ xs) [] = refl
same_pointwise (a ∷ xs) (b ∷ ys) = ap (λ t. nat_eq a b && t) (same_pointwise xs ys)

pub same_shape_laws : IsPartialEquivalence (λ (s t : Shape). same (shape_of s) (shape_of t))
same_shape_laws =
    record {
      symm = λ s t. sym (same_pointwise (shape_of s) (shape_of t)) ∙ (nat_list_eq_equiv.symm (shape_of s) (shape_of t) ∙ same_pointwise (shape_of t) (shape_of s));
      trans = λ s t u p q.
          sym (same_pointwise (shape_of s) (shape_of u))
          ∙ (nat_list_eq_equiv.congr (shape_of s) (shape_of t) (shape_of u) (same_pointwise (shape_of s) (shape_of t) ∙ p) ∙ (same_pointwise (shape_of t) (shape_of u) ∙ q));
    }
