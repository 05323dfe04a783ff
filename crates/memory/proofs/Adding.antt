-- Sums over the slots of a table.
use Rattle.std.proofs.Common.{◌≡◌, ℕ, zero, suc, ◌+◌, ◌<◌, ◌≤◌, List, [], ◌∷◌, length, get_or, set, refl, arith, Option, None}
use Rattle.views.specs.declared.view.View.{View}
use Rattle.memory.specs.Sums.{sum_of}

-- one slot gets another value
pub sum_set : (f : Option View → ℕ) (t : List (Option View)) (k : ℕ) (s : Option View) → k < length t → sum_of f (set t k s) + f (get_or t k None) ≡ sum_of f t + f s
unfolding sum_of
sum_set f [] k s h = absurd (omega arith)
sum_set f (x ∷ xs) zero s h = omega arith
sum_set f (x ∷ xs) (suc k) s h = omega (arith, sum_set f xs k s (omega arith))

pub sum_part : (f : Option View → ℕ) (t : List (Option View)) (k : ℕ) → k < length t → f (get_or t k None) ≤ sum_of f t
unfolding sum_of
sum_part f [] k h = absurd (omega arith)
sum_part f (x ∷ xs) zero h = omega arith
sum_part f (x ∷ xs) (suc k) h = omega (arith, sum_part f xs k (omega arith))

pub sum_same : (f : Option View → ℕ) (t u : List (Option View)) → length u ≡ length t → ((k : ℕ) → k < length t → f (get_or u k None) ≡ f (get_or t k None)) → sum_of f u ≡ sum_of f t
unfolding sum_of
sum_same f [] [] e h = refl
sum_same f [] (y ∷ ys) e h = absurd (omega arith)
sum_same f (x ∷ xs) [] e h = absurd (omega arith)
sum_same f (x ∷ xs) (y ∷ ys) e h =
    let first : f y ≡ f x = h 0 (omega arith) in
    omega (arith, sum_same f xs ys (omega arith) (λ k l. h (suc k) (omega arith)))

pub sum_grows : (f g : Option View → ℕ) (t u : List (Option View)) → length u ≡ length t → ((k : ℕ) → k < length t → f (get_or t k None) ≤ g (get_or u k None)) → sum_of f t ≤ sum_of g u
unfolding sum_of
sum_grows f g [] [] e h = omega arith
sum_grows f g [] (y ∷ ys) e h = absurd (omega arith)
sum_grows f g (x ∷ xs) [] e h = absurd (omega arith)
sum_grows f g (x ∷ xs) (y ∷ ys) e h =
    let first : f x ≤ g y = h 0 (omega arith) in
    omega (arith, sum_grows f g xs ys (omega arith) (λ k l. h (suc k) (omega arith)))

-- and one slot's part grows by n
pub sum_gains : (f g : Option View → ℕ) (t u : List (Option View)) (o n : ℕ) → length u ≡ length t → ((k : ℕ) → k < length t → f (get_or t k None) ≤ g (get_or u k None)) → o < length t → f (get_or t o None) + n ≤ g (get_or u o None) →
    sum_of f t + n ≤ sum_of g u
unfolding sum_of
sum_gains f g [] u o n e h l more = absurd (omega arith)
sum_gains f g (x ∷ xs) [] o n e h l more = absurd (omega arith)
sum_gains f g (x ∷ xs) (y ∷ ys) zero n e h l more = omega (arith, sum_grows f g xs ys (omega arith) (λ k b. h (suc k) (omega arith)))
sum_gains f g (x ∷ xs) (y ∷ ys) (suc o) n e h l more =
    let first : f x ≤ g y = h 0 (omega arith) in
    omega (arith, sum_gains f g xs ys o n (omega arith) (λ k b. h (suc k) (omega arith)) (omega arith) more)

pub sum_both : (f g h : Option View → ℕ) (t : List (Option View)) → ((s : Option View) → f s + g s ≤ h s) → sum_of f t + sum_of g t ≤ sum_of h t
unfolding sum_of
sum_both f g h [] l = omega arith
sum_both f g h (x ∷ xs) l = omega (arith, l x, sum_both f g h xs l)

pub sum_none : (f : Option View → ℕ) (t : List (Option View)) → ((k : ℕ) → f (get_or t k None) ≡ 0) → sum_of f t ≡ 0
unfolding sum_of
sum_none f [] h = refl
sum_none f (x ∷ xs) h =
    let first : f x ≡ 0 = h 0 in
    omega (arith, sum_none f xs (λ k. h (suc k)))
