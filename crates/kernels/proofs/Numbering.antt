-- Numbers of places, with the last axis taken off.
use Rattle.std.proofs.Common.{◌≡◌, ℕ, zero, suc, ◌+◌, ◌-◌, ◌*◌, ◌/◌, ◌%◌, ◌<◌, ◌≤◌, List, [], ◌∷◌, ◌++◌, length, get_or, take, ℤ, pos, ◌+ℤ◌, ◌*ℤ◌, sym, refl, ap, ◌∙◌, subst, ap₂, add_assoc, mul-le-mul_right, mul_assoc, add-mul, one-mul, mul-zero, div-add-mod', arith}
use lib.IntN.{+ℤ_assoc, zero-*ℤ}
use Rattle.std.proofs.lemmas.Nat.{div-mul-add, mod-mul-add, div_below, mod_below}
use Rattle.std.proofs.lemmas.List.{take_more, take_all}
use Rattle.std.proofs.lemmas.Int.{ints}
use Rattle.semantics.specs.Shapes.{size, flat, unflat}
use Rattle.semantics.specs.OrderLaws.{dot}
use Rattle.semantics.proofs.Places.{Inside, no_axes, axis, inside_unflat, flat_unflat, unflat_flat}
use Rattle.views.proofs.Integers.{times_add}

pub size_last : (t : List ℕ) (d : ℕ) → size (t ++ d ∷ []) ≡ size t * d
unfolding size
size_last [] d = omega arith
size_last (a ∷ t) d = ap (λ n. a * n) (size_last t d) ∙ sym (mul_assoc a (size t) d)

flat_last : {t is : List ℕ} (d i : ℕ) → Inside t is → flat (t ++ d ∷ []) (is ++ i ∷ []) ≡ flat t is * d + i
unfolding flat size
flat_last d i no_axes = omega arith
flat_last d i (axis {d = a} {i = j} {ds = t} {is = is} l h) =
    ap₂ (λ m n. j * m + n) (size_last t d) (flat_last d i h)
    ∙ (sym (add_assoc (j * (size t * d)) (flat t is * d) i)
    ∙ ap (λ n. n + i) (ap (λ n. n + flat t is * d) (sym (mul_assoc j (size t) d)) ∙ sym (add-mul (j * size t) (flat t is) d)))

inside_last : {t is : List ℕ} {d i : ℕ} → Inside t is → i < d → Inside (t ++ d ∷ []) (is ++ i ∷ [])
inside_last no_axes l = axis l no_axes
inside_last (axis m h) l = axis m (inside_last h l)

-- where there is a number, the last length is above 0
some_last : (n m d : ℕ) → n < m * d → 0 < d
some_last n m zero h = absurd (omega (arith, mul-zero m))
some_last n m (suc d) h = omega arith

pub last_some : (t : List ℕ) (d n : ℕ) → n < size (t ++ d ∷ []) → 0 < d
last_some t d n h = some_last n (size t) d (subst (λ m. n < m) (size_last t d) h)

pub unflat_last : (t : List ℕ) (d n : ℕ) → n < size (t ++ d ∷ []) → unflat (t ++ d ∷ []) n ≡ unflat t (n / d) ++ n % d ∷ []
unflat_last t d n h =
    let below : n < size t * d = subst (λ m. n < m) (size_last t d) h in
    let some = some_last n (size t) d below in
    let front = inside_unflat t (n / d) (div_below n d (size t) some below) in
    let here = inside_last front (mod_below n d some) in
    let is-n : flat (t ++ d ∷ []) (unflat t (n / d) ++ n % d ∷ []) ≡ n
    = flat_last d (n % d) front ∙ (ap (λ m. m * d + n % d) (flat_unflat t (n / d) (div_below n d (size t) some below)) ∙ div-add-mod' n d)
    in
    ap (unflat (t ++ d ∷ [])) (sym is-n) ∙ unflat_flat here

pub rest_below : (t : List ℕ) (d n : ℕ) → n < size (t ++ d ∷ []) → n / d < size t
rest_below t d n h =
    let below : n < size t * d = subst (λ m. n < m) (size_last t d) h in
    div_below n d (size t) (some_last n (size t) d below) below

-- one further along the last axis
pub row_inside : (t : List ℕ) (d n j : ℕ) → n < size (t ++ d ∷ []) → j < d - n % d → n + j < size (t ++ d ∷ [])
row_inside t d n j h l =
    let below : n < size t * d = subst (λ m. n < m) (size_last t d) h in
    let some = some_last n (size t) d below in
    let q = rest_below t d n h in
    let e = div-add-mod' n d in
    let more = mul_le (n / d) (size t) d q in
    subst (λ m. n + j < m) (sym (size_last t d)) (omega arith)
  where
    mul_le : (a b d : ℕ) → a < b → a * d + d ≤ b * d
    mul_le a b d h = let k = add_mul_le (suc a) b d (omega arith) in omega (arith, add-mul a 1 d, one-mul d, k)
      where
        add_mul_le : (a b d : ℕ) → a ≤ b → a * d ≤ b * d
        add_mul_le a b d h = mul-le-mul_right d h

pub unflat_row : (t : List ℕ) (d n j : ℕ) → n < size (t ++ d ∷ []) → j < d - n % d → unflat (t ++ d ∷ []) (n + j) ≡ unflat t (n / d) ++ (n % d + j) ∷ []
unflat_row t d n j h l =
    let low : n % d + j < d = omega arith in
    let same : n + j ≡ n / d * d + (n % d + j) = omega (arith, div-add-mod' n d) in
    unflat_last t d (n + j) (row_inside t d n j h l)
    ∙ ap₂ (λ a b. unflat t a ++ b ∷ [])
    (ap (λ m. m / d) same ∙ div-mul-add (n / d) d (n % d + j) low)
    (ap (λ m. m % d) same ∙ mod-mul-add (n / d) d (n % d + j) low)

pub length_unflat : (s : List ℕ) (n : ℕ) → length (unflat s n) ≡ length s
unfolding unflat
length_unflat [] n = refl
length_unflat (d ∷ s) n = ap suc (length_unflat s (n % size s))

pub dot_last : (zs : List ℤ) (is : List ℕ) (i j : ℕ) → dot zs (is ++ (i + j) ∷ []) ≡ dot zs (is ++ i ∷ []) +ℤ get_or zs (length is) (pos 0) *ℤ pos j
unfolding dot
dot_last [] is i j = sym (ap (λ x. pos 0 +ℤ x) (zero-*ℤ (pos j)))
dot_last (z ∷ []) [] i j = let e = times_add z i j in omega (arith, ints)
dot_last (z ∷ (y ∷ zs)) [] i j = let e = times_add z i j in omega (arith, ints)
dot_last (z ∷ zs) (k ∷ is) i j = ap (λ x. z *ℤ pos k +ℤ x) (dot_last zs is i j) ∙ sym (+ℤ_assoc (z *ℤ pos k) (dot zs (is ++ i ∷ [])) (get_or zs (length is) (pos 0) *ℤ pos j))

-- a shape with an axis: the last one behind the others
pub last_axis : (s : List ℕ) (r : ℕ) → length s ≡ r → 0 < r → s ≡ take (r - 1) s ++ get_or s (r - 1) 0 ∷ []
last_axis s r e h =
    let l : r - 1 < length s = omega arith in
    sym (rw (whole s r e h)) ∙ take_more s (r - 1) 0 l
  where
    whole : (s : List ℕ) (r : ℕ) → length s ≡ r → 0 < r → take (r - 1 + 1) s ≡ s
    whole s r e h = take_all (r - 1 + 1) s (omega arith)
