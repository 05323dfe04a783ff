-- What holds of both ways holds of the one that is picked.
use Rattle.std.proofs.Common.{◌≡◌, ℕ, Bool, true, false, eqb, refl}
use Rattle.std.proofs.lemmas.Bool.{ne_eqb}
use Rattle.semantics.specs.Shapes.{pick}

pub pick_both : {A : Type 0} (P : A → Type 0) (b : Bool) {x y : A} → P x → P y → P (pick b x y)
pick_both P true p q = p
pick_both P false p q = q

-- each way with what the test told
pub pick_told : {A : Type 0} (P : A → Type 0) (b : Bool) {x y : A} → (b ≡ true → P x) → (b ≡ false → P y) → P (pick b x y)
pick_told P true p q = p refl
pick_told P false p q = q refl

pub pick_two : {A B : Type 0} (R : A → B → Type 0) (b : Bool) {x y : A} {v w : B} → R x v → R y w → R (pick b x y) (pick b v w)
pick_two R true p q = p
pick_two R false p q = q

pub pick_two_told : {A : Type 0} (R : A → A → Type 0) (b : Bool) {x y v w : A} → (b ≡ true → R x v) → (b ≡ false → R y w) → R (pick b x y) (pick b v w)
pick_two_told R true p q = p refl
pick_two_told R false p q = q refl

pub pick_other : {A : Type 0} (n m : ℕ) (x y : A) → (n ≡ m → ⊥) → pick (eqb n m) x y ≡ y
pick_other n m x y h = rw (ne_eqb n m h)
