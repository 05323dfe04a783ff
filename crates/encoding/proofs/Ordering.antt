-- Orders of axes: which axes are there.
use Rattle.std.proofs.Common.{◌≡◌, ℕ, zero, suc, ◌+◌, ◌<◌, Bool, true, false, ◌&&◌, ◌||◌, eqb, List, [], ◌∷◌, length, refl, ap, ◌∙◌, arith}
use Rattle.std.specs.List.{list_any, list_all, range_with_len}
use Rattle.std.proofs.lemmas.Bool.{and_left, eq-eqb, ne_eqb, and_right}
use Rattle.semantics.specs.Orders.{among, all_among, is_order}

pub any_among : (x : ℕ) (os : List ℕ) → list_any (λ o. eqb x o) os ≡ among x os
unfolding among
any_among x [] = refl
any_among x (o ∷ os) = ap (λ b. eqb x o || b) (any_among x os)

and_swap : (a b c : Bool) → (a && (b && c)) ≡ (b && (a && c))
and_swap true b c = refl
and_swap false true c = refl
and_swap false false c = refl

-- one more axis at the end
all_one_more : (f : ℕ → Bool) (k n : ℕ) → list_all f (range_with_len k (suc n)) ≡ (f (k + n) && list_all f (range_with_len k n))
all_one_more f k zero = let same : k ≡ k + 0 = omega arith in ap (λ m. f m && true) same
all_one_more f k (suc n) =
    let same : k + 1 + n ≡ k + suc n = omega arith in
    ap (λ b. f k && b) (all_one_more f (k + 1) n) ∙ (and_swap (f k) _ _ ∙ ap (λ m. f m && (f k && list_all f (range_with_len (k + 1) n))) same)

pub all_range_among : (os : List ℕ) (r : ℕ) → list_all (λ k. among k os) (range_with_len 0 r) ≡ all_among r os
unfolding all_among
all_range_among os zero = refl
all_range_among os (suc r) =
    let same : 0 + r ≡ r = omega arith in
    all_one_more (λ k. among k os) 0 r ∙ (ap (λ m. among m os && list_all (λ k. among k os) (range_with_len 0 r)) same ∙ ap (λ b. among r os && b) (all_range_among os r))

pub order_counted : (os : List ℕ) (r : ℕ) → length os ≡ r → is_order os r ≡ all_among r os
unfolding is_order
order_counted os r e = ap (λ b. b && all_among r os) (eq-eqb (length os) r e)

pub order_other : (os : List ℕ) (r : ℕ) → (length os ≡ r → ⊥) → is_order os r ≡ false
unfolding is_order
order_other os r n = and_left _ _ (ne_eqb (length os) r n)

-- an axis that is not there
all_among_none : (r k : ℕ) (os : List ℕ) → among k os ≡ false → k < r → all_among r os ≡ false
unfolding all_among
all_among_none zero k os e l = absurd (omega arith)
all_among_none (suc r) k os e l = let more = all_among_none r k os e in grind arith

pub order_none : (os : List ℕ) (r k : ℕ) → among k os ≡ false → k < r → is_order os r ≡ false
unfolding is_order
order_none os r k e l = and_right _ _ (all_among_none r k os e l)
