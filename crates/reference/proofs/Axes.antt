-- One axis out and one index in, entry by entry.
use Rattle.std.proofs.Common.{◌≡◌, ℕ, zero, suc, ◌+◌, ◌-◌, ◌<◌, ◌≤◌, List, [], ◌∷◌, length, get_or, take, set, sym, refl, ap, ◌∙◌, subst, add-one, arith}
use Rattle.semantics.specs.Shapes.{without, put_in}
use Rattle.std.proofs.lemmas.List.{set-get_or}
use Rattle.semantics.specs.Arrays.{folded}
use Rattle.semantics.proofs.Places.{Inside}
use Rattle.semantics.proofs.Inside.{inside_set}

pub take_set_any : (n i a : ℕ) (xs : List ℕ) → take n (set xs i a) ≡ set (take n xs) i a
take_set_any zero i a xs = refl
take_set_any (suc n) i a [] = refl
take_set_any (suc n) zero a (x ∷ xs) = refl
take_set_any (suc n) (suc i) a (x ∷ xs) = ap (λ ys. x ∷ ys) (take_set_any n i a xs)

pub get_d_put_in_at : (x j : ℕ) (is : List ℕ) → x ≤ length is → get_or (put_in x j is) x 0 ≡ j
unfolding put_in
get_d_put_in_at zero j is h = refl
get_d_put_in_at (suc x) j [] h = absurd (omega arith)
get_d_put_in_at (suc x) j (i ∷ is) h = get_d_put_in_at x j is (omega arith)

pub get_d_put_in_before : (x j k : ℕ) (is : List ℕ) → x ≤ length is → k < x → get_or (put_in x j is) k 0 ≡ get_or is k 0
unfolding put_in
get_d_put_in_before zero j k is h l = absurd (omega arith)
get_d_put_in_before (suc x) j k [] h l = absurd (omega arith)
get_d_put_in_before (suc x) j zero (i ∷ is) h l = refl
get_d_put_in_before (suc x) j (suc k) (i ∷ is) h l = get_d_put_in_before x j k is (omega arith) (omega arith)

put_in_after : (x j k : ℕ) (is : List ℕ) → x ≤ length is → x ≤ k → get_or (put_in x j is) (suc k) 0 ≡ get_or is k 0
unfolding put_in
put_in_after zero j k is h l = refl
put_in_after (suc x) j k [] h l = absurd (omega arith)
put_in_after (suc x) j zero (i ∷ is) h l = absurd (omega arith)
put_in_after (suc x) j (suc k) (i ∷ is) h l = put_in_after x j k is (omega arith) (omega arith)

pub get_d_put_in_after : (x j k : ℕ) (is : List ℕ) → x ≤ length is → x < k → get_or (put_in x j is) k 0 ≡ get_or is (k - 1) 0
get_d_put_in_after x j k is h l =
    let one : k ≡ suc (k - 1) = omega arith in
    ap (λ n. get_or (put_in x j is) n 0) one ∙ put_in_after x j (k - 1) is h (omega arith)

pub length_put_in : (x j : ℕ) (is : List ℕ) → x ≤ length is → length (put_in x j is) ≡ length is + 1
unfolding put_in
length_put_in zero j is h = omega arith
length_put_in (suc x) j [] h = absurd (omega arith)
length_put_in (suc x) j (i ∷ is) h = omega (arith, length_put_in x j is (omega arith))

pub set_put_in : (x j i : ℕ) (is : List ℕ) → x ≤ length is → set (put_in x j is) x i ≡ put_in x i is
unfolding put_in
set_put_in zero j i is h = refl
set_put_in (suc x) j i [] h = absurd (omega arith)
set_put_in (suc x) j i (k ∷ is) h = ap (λ ys. k ∷ ys) (set_put_in x j i is (omega arith))

pub length_without : (x : ℕ) (s : List ℕ) → x < length s → length (without x s) ≡ length s - 1
unfolding without
length_without x [] h = absurd (omega arith)
length_without zero (d ∷ s) h = omega arith
length_without (suc x) (d ∷ s) h = omega (arith, length_without x s (omega arith))

pub get_d_without_before : (x k : ℕ) (s : List ℕ) → k < x → get_or (without x s) k 0 ≡ get_or s k 0
unfolding without
get_d_without_before x k [] h = refl
get_d_without_before zero k (d ∷ s) h = absurd (omega arith)
get_d_without_before (suc x) zero (d ∷ s) h = refl
get_d_without_before (suc x) (suc k) (d ∷ s) h = get_d_without_before x k s (omega arith)

without_after : (x k : ℕ) (s : List ℕ) → x ≤ k → get_or (without x s) k 0 ≡ get_or s (suc k) 0
unfolding without
without_after x k [] h = refl
without_after zero k (d ∷ s) h = refl
without_after (suc x) zero (d ∷ s) h = absurd (omega arith)
without_after (suc x) (suc k) (d ∷ s) h = without_after x k s (omega arith)

pub get_d_without_after : (x k : ℕ) (s : List ℕ) → x ≤ k → get_or (without x s) k 0 ≡ get_or s (k + 1) 0
get_d_without_after x k s h = without_after x k s h ∙ ap (λ n. get_or s n 0) (sym (add-one k))

-- ---- folds
folded_suc : (f : ℕ → ℕ → ℕ) (e : ℕ) (g : ℕ → ℕ) (n : ℕ) → 0 < n → folded f e g (suc n) ≡ f (folded f e g n) (g n)
unfolding folded
folded_suc f e g zero h = absurd (omega arith)
folded_suc f e g (suc n) h = refl

pub folded_more : (f : ℕ → ℕ → ℕ) (e : ℕ) (g : ℕ → ℕ) (n : ℕ) → 0 < n → folded f e g (n + 1) ≡ f (folded f e g n) (g n)
folded_more f e g n h = ap (folded f e g) (add-one n) ∙ folded_suc f e g n h

pub folded_same : (f : ℕ → ℕ → ℕ) (e : ℕ) (g h : ℕ → ℕ) → ((j : ℕ) → g j ≡ h j) → (n : ℕ) → folded f e g n ≡ folded f e h n
unfolding folded
folded_same f e g h p zero = refl
folded_same f e g h p (suc zero) = p 0
folded_same f e g h p (suc (suc n)) = ap (λ x. f x (g (suc n))) (folded_same f e g h p (suc n)) ∙ ap (λ x. f (folded f e h (suc n)) x) (p (suc n))

-- ---- places along one axis
pub inside_along : {s is : List ℕ} (x j : ℕ) → Inside s is → j < get_or s x 0 → Inside s (set is x j)
inside_along {s} {is} x j h l = subst (λ t. Inside t (set is x j)) (set-get_or s x 0) (inside_set x (get_or s x 0) j h l)
