-- Whether indices are those of a place, axis by axis.
use Rattle.std.proofs.Common.{◌≡◌, ℕ, ltb, List, [], ◌∷◌, length, refl, arith}
use Rattle.std.specs.Bool.{Decides}
use Rattle.std.specs.List.{list_all, zip}
use Rattle.std.proofs.lemmas.Bool.{and_parts, and_from, ltb-true, lt-ltb}
use Rattle.semantics.specs.Shapes.{In}
use Rattle.semantics.proofs.Places.{Inside, no_axes, axis, inside_in, in_inside}

-- each index below its length
below_each : (s is : List ℕ) → length is ≡ length s → Decides (list_all (λ q. ltb q.0 q.1) (zip is s)) (Inside s is)
below_each [] [] e = (λ h. no_axes, λ h. refl)
below_each [] (i ∷ is) e = absurd (omega arith)
below_each (d ∷ s) [] e = absurd (omega arith)
below_each (d ∷ s) (i ∷ is) e =
    let rest = below_each s is (omega arith) in (
      λ h. let both = and_parts (ltb i d) _ h in axis (ltb-true i d both.0) (rest.0 both.1),
      λ h. elim h [ axis l r ↦ and_from (ltb i d) _ (lt-ltb i d l) (rest.1 r) ],
    )

pub place_decided : (s is : List ℕ) → length is ≡ length s → Decides (list_all (λ q. ltb q.0 q.1) (zip is s)) (In s is)
place_decided s is e = let each = below_each s is e in (λ h. in_inside (each.0 h), λ h. each.1 (inside_in s is h))
