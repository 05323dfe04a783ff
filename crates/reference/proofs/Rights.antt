-- Answers that are right: of what is made, of a value that goes on, and of one like another.
use Rattle.std.proofs.Common.{◌≡◌, ℕ, ◌+◌, ◌<◌, ◌≤◌, Bool, true, false, Option, None, IsErrAnd, Ok, Err, Result, ok_or, sym, ap, ◌∙◌, subst, arith}
use Rattle.std.proofs.lemmas.Result.{err_from_is_err_and}
use Rattle.std.proofs.lemmas.Bool.{le-leb, lt-leb}
use Rattle.semantics.specs.Shapes.{pick, size}
use Rattle.semantics.specs.Arrays.{Array, Alike}
use Rattle.semantics.specs.Values.{Value, fault, val, then, made}
use Rattle.semantics.specs.ValueLaws.{LikeValues, like_fault, like_val}
use Rattle.semantics.proofs.Likes.{Twins, twins, alike_twins, twins_alike}
use Rattle.reference.specs.declared.fault.Fault.{Fault}
use Rattle.reference.specs.declared.fault.Fault.TheVariants.{Places}
use Rattle.reference.specs.declared.fault.Stop.{Stop}
use Rattle.reference.specs.declared.fault.Stop.TheVariants.{Fault as Faulty, Memory}
use Rattle.reference.specs.declared.made.Made.{Made}
use Rattle.reference.specs.ArrayOf.{array_of}
use Rattle.reference.specs.Right.{Right, right_made, right_fault, right_memory}

pub twins_trans : {Num : Type 0} {a b c : Array Num} → Twins a b → Twins b c → Twins a c
twins_trans (twins s f g h) (twins _ _ k i) = twins s f k (λ is j. h is j ∙ i is j)

twins_back : {Num : Type 0} {a b : Array Num} → Twins a b → Twins b a
twins_back (twins s f g h) = twins s g f (λ is j. sym (h is j))

pub alike_back : {Num : Type 0} (a b : Array Num) → Alike a b → Alike b a
alike_back a b h = alike_twins (twins_back (twins_alike a b h))

pub like_trans : {Num : Type 0} {u v w : Value Num} → LikeValues u v → LikeValues v w → LikeValues u w
like_trans (like_fault e) (like_fault _) = like_fault e
like_trans (like_val a b c h) (like_val _ d _ k) = like_val a d c (alike_twins (twins_trans (twins_alike a b h) (twins_alike b d k)))

like_is_fault : {v w : Value ℕ} {e : ℕ} → LikeValues v w → w ≡ fault e → v ≡ fault e
like_is_fault (like_fault x) h = h
like_is_fault {e = e} (like_val a b c x) h = absurd (let z : ◌≡◌ {A = ℕ} 0 1 = cc in omega arith)

pub right_like : {v w : Value ℕ} {r : Result Made Stop} → LikeValues v w → Right w r → Right v r
right_like l (right_made h) = right_made (like_trans l h)
right_like l (right_fault e) = right_fault (like_is_fault l e)
right_like l right_memory = right_memory

-- one more array: too many places, or made
pub right_too_many : (n c : ℕ) (a : Array ℕ) → n < c + size a.shape → Right (made n c a) (Err (Faulty Places))
unfolding made
right_too_many n c a h = right_fault (ap (λ b. pick b (val a (c + size a.shape)) (fault 5)) (lt-leb (c + size a.shape) n h))

made_val : (n c t : ℕ) (a : Array ℕ) → t ≡ c + size a.shape → t ≤ n → made n c a ≡ val a t
unfolding made
made_val n c t a e h =
    ap (λ b. pick b (val a (c + size a.shape)) (fault 5)) (le-leb (c + size a.shape) n (omega arith)) ∙ ap (val a) (sym e)

pub right_taken : (n c : ℕ) (a : Array ℕ) (m : Made) → Alike (array_of m.array) a → m.count ≡ c + size a.shape → m.count ≤ n → Right (made n c a) (Ok m)
right_taken n c a m h e l =
    right_made (subst (λ v. LikeValues v (val (array_of m.array) m.count)) (sym (made_val n c m.count a e l)) (like_val _ _ m.count (alike_back (array_of m.array) a h)))

-- a value that goes on
pub right_stopped : {v : Value ℕ} {s : Stop} (f : Array ℕ → ℕ → Value ℕ) → Right v (Err s) → Right (then v f) (Err s)
unfolding then
right_stopped f (right_fault e) = right_fault (ap (λ w. then w f) e)
right_stopped f right_memory = right_memory

pub right_on : {v : Value ℕ} {a : Array ℕ} {c : ℕ} {r : Result Made Stop} (f : Array ℕ → ℕ → Value ℕ) → LikeValues v (val a c) → ((b : Array ℕ) → Twins b a → LikeValues (f b c) (f a c)) → Right (f a c) r → Right (then v f) r
unfolding then
right_on f (like_val b a c h) k r = right_like (k b (twins_alike b a h)) r

pub right_ok : {v : Value ℕ} {m : Made} → Right v (Ok m) → LikeValues v (val (array_of m.array) m.count)
right_ok (right_made h) = h

-- in place of an equal value
pub right_is : {v w : Value ℕ} {r : Result Made Stop} → v ≡ w → Right w r → Right v r
right_is {r = r} e h = subst (λ x. Right x r) (sym e) h

-- the exits of a `?`: a stop of another call, a fault, no memory
pub right_exit : {v : Value ℕ} (r : Result Made Stop) {x : Stop} → IsErrAnd r (λ y. y ≡ x) → Right v (Err x) → Right v r
right_exit {v} r b h = let q = err_from_is_err_and r b in subst (λ z. Right v z) (sym (q.1 ∙ ap Err q.2)) h

pub right_refusal : {v : Value ℕ} (r : Result Made Stop) {x f : Fault} → IsErrAnd r (λ y. y ≡ Faulty x) → x ≡ f → Right v (Err (Faulty f)) → Right v r
right_refusal {v} r b e h = right_exit r b (subst (λ f. Right v (Err (Faulty f))) (sym e) h)

pub right_wanting : {v : Value ℕ} (r : Result Made Stop) → IsErrAnd r (λ y. y ≡ Memory) → Right v r
right_wanting r b = right_exit r b right_memory

-- the error of an `ok_or`
pub refused_as : {A : Type 0} (o : Option A) (x f : Fault) → o ≡ None → ◌≡◌ {A = Result A Fault} (Err x) (ok_or o f) → x ≡ f
refused_as o x f n e = let h = rw n at e in cc

-- a test and its fault
pub right_if : (b : Bool) (v w : Value ℕ) {r : Result Made Stop} → b ≡ true → Right v r → Right (pick b v w) r
right_if b v w {r} e h = subst (λ x. Right (pick x v w) r) (sym e) h

pub right_else : (b : Bool) (v w : Value ℕ) {r : Result Made Stop} → b ≡ false → Right w r → Right (pick b v w) r
right_else b v w {r} e h = subst (λ x. Right (pick x v w) r) (sym e) h
