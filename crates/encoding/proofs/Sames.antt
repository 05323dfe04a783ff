-- Shapes that compare as the same have the same lengths, and the other way round.
use Rattle.std.proofs.Common.{◌≡◌, ℕ, true, List, ◌∙◌, sym, subst}
use Rattle.std.proofs.lemmas.Cmp.{nat_list_eq_equiv}
use Rattle.semantics.specs.Shapes.{same}
use Rattle.semantics.proofs.Inside.{same_true}
use Rattle.encoding.specs.SameShape.{same_pointwise}

pub same_from : (xs ys : List ℕ) → xs ≡ ys → same xs ys ≡ true
same_from xs ys e = subst (λ zs. same xs zs ≡ true) e (sym (same_pointwise xs xs) ∙ nat_list_eq_equiv.refl xs)

pub same_decides : (xs ys : List ℕ) → (same xs ys ≡ true → xs ≡ ys) × (xs ≡ ys → same xs ys ≡ true)
same_decides xs ys = (same_true xs ys, same_from xs ys)
