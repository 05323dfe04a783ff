-- An array made of another shape that is the same.
use Rattle.std.proofs.Common.{◌≡◌, ℕ, List, IfOk, Result, subst}
use Rattle.std.specs.declared.alloc.AllocError.{AllocError}
use Rattle.semantics.specs.Arrays.{Alike}
use Rattle.reference.specs.declared.array.Array.{Array}
use Rattle.reference.specs.ArrayOf.{array_of, array_with}

pub made_shaped : {s t : List ℕ} (r : Result Array AllocError) (f : List ℕ → ℕ) → s ≡ t → IfOk r (λ a. Alike (array_of a) (array_with s f)) → IfOk r (λ a. Alike (array_of a) (array_with t f))
made_shaped r f e h = subst (λ u. IfOk r (λ a. Alike (array_of a) (array_with u f))) e h
