-- From the steps of a function, what it read and wrote, to the definition.
use Rattle.std.proofs.Common.{◌≡◌, ℕ, ◌^◌, cond, pos, sym, ap, ◌∙◌}
use lib.Ieee.{Float, binary64, eq, of_int, to_unsigned}
use Rattle.numbers.specs.Binary64.{read, write, index_bits}

pub on_one : (f : Float → Float) (a : ℕ) {r : ℕ} {x y : Float} → x ≡ read a → y ≡ f x → r ≡ write y → r ≡ write (f (read a))
on_one f a p q w = w ∙ ap write (q ∙ ap f p)

pub at_two : {A : Type 0} (f : Float → Float → A) (a b : ℕ) {x y : Float} → x ≡ read a → y ≡ read b → f x y ≡ f (read a) (read b)
at_two f a b {x} {y} p q = ap (λ (z : Float). f z y) p ∙ ap (f (read a)) q

pub on_two : (f : Float → Float → Float) (a b : ℕ) {r : ℕ} {x y z : Float} → x ≡ read a → y ≡ read b → z ≡ f x y → r ≡ write z → r ≡ write (f (read a) (read b))
on_two f a b p q v w = w ∙ ap write (v ∙ at_two f a b p q)

pub at_index : (a : ℕ) {n : ℕ} {x y : Float} → x ≡ read a → n ≡ to_unsigned 32 x → y ≡ of_int binary64 (pos n) → index_bits a ≡ cond (eq x y) n (2 ^ 32)
unfolding index_bits
at_index a {n} {x} {y} p q r =
    ap (λ (z : Float). cond (eq z (of_int binary64 (pos (to_unsigned 32 z)))) (to_unsigned 32 z) (2 ^ 32)) (sym p)
    ∙ ap (λ (k : ℕ). cond (eq x (of_int binary64 (pos k))) k (2 ^ 32)) (sym q)
    ∙ ap (λ (z : Float). cond (eq x z) n (2 ^ 32)) (sym r)
