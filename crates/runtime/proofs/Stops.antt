-- Results that a `?` hands on, and options that become results.
use Rattle.std.proofs.Common.{◌≡◌, ℕ, Option, Some, None, Result, Ok, Err, IsErrAnd, sym, refl, ap, ◌∙◌, subst, arith}
use Rattle.std.proofs.lemmas.Result.{err_from_is_err_and}
use Rattle.std.specs.Option.{ok_or}
use Rattle.runtime.specs.declared.fault.Stop.{Stop}

pub handed_on : {A E : Type 0} (r : Result A E) (x : E) → IsErrAnd r (λ y. y ≡ x) → r ≡ Err x
handed_on r x b = let q = err_from_is_err_and r b in q.1 ∙ ap Err q.2

pub exits : {A E : Type 0} (P : Result A E → Type 0) (r : Result A E) (x : E) → IsErrAnd r (λ y. y ≡ x) → P (Err x) → P r
exits P r x b h = subst P (sym (handed_on r x b)) h

pub found : {A : Type 0} (o : Option A) (x : Stop) (v : A) → ok_or o x ≡ Ok v → o ≡ Some v
found None x v h = absurd (let z : ◌≡◌ {A = ℕ} 0 1 = cc in omega arith)
found (Some u) x v h = cc

pub missed : {A : Type 0} (o : Option A) (x y : Stop) → ok_or o x ≡ Err y → (o ≡ None) × (y ≡ x)
missed None x y h = (refl, cc)
missed (Some u) x y h = absurd (let z : ◌≡◌ {A = ℕ} 0 1 = cc in omega arith)
