-- Lists that have each of 0 .. r - 1 once.
use Rattle.std.proofs.Common.{◌≡◌, ℕ, zero, suc, ◌<◌, true, eqb, ◌⊎◌, List, [], ◌∷◌, length, get_or, Decides, sym, refl, ap, subst, inl, inr, ⊎_elim, arith}
use mathlib.Core.Bool.{false≢true}
use Rattle.std.proofs.lemmas.Bool.{or_cases, or_left, or_right, cases_Bool, eqb-true, eq-eqb, ne_eqb}
use Rattle.std.proofs.lemmas.Bool.Decides.{Decides-below_and}
use Rattle.semantics.specs.Orders.{among, all_among, where_in}

-- the second list is the first with x put in somewhere
pub data Into (x : ℕ) : List ℕ → List ℕ → Type 0 where
  here : {xs : List ℕ} → Into x xs (x ∷ xs)
  there : {y : ℕ} {xs ys : List ℕ} → Into x xs ys → Into x (y ∷ xs) (y ∷ ys)

-- the highest axis taken out leaves an order of the others: proofs about orders are by induction on this
pub data Order : List ℕ → ℕ → Type 0 where
  order_none : Order [] 0
  order_more : {xs ys : List ℕ} {r : ℕ} → Order xs r → Into r xs ys → Order ys (suc r)

into_from_among : (x : ℕ) (ys : List ℕ) → among x ys ≡ true → (xs : List ℕ) × Into x xs ys
unfolding among
into_from_among x [] h = absurd (false≢true h)
into_from_among x (y ∷ ys) h =
    ⊎_elim
    (λ e. (ys, subst (λ z. Into x ys (z ∷ ys)) (eqb-true x y e) here))
    (λ e. let k = into_from_among x ys e in (y ∷ k.0, there k.1))
    (or_cases (eqb x y) (among x ys) h)

among_into : {x : ℕ} {xs ys : List ℕ} → Into x xs ys → (k : ℕ) → among k ys ≡ true → (k ≡ x) ⊎ (among k xs ≡ true)
unfolding among
among_into {x} (here {xs}) k h = ⊎_elim (λ e. inl (eqb-true k x e)) (λ e. inr e) (or_cases (eqb k x) (among k xs) h)
among_into (there {y} {xs} {ys} i) k h =
    ⊎_elim
    (λ e. inr (or_left (eqb k y) (among k xs) e))
    (λ e. ⊎_elim inl (λ e'. inr (or_right (eqb k y) (among k xs) e')) (among_into i k e))
    (or_cases (eqb k y) (among k ys) h)

length_into : {x : ℕ} {xs ys : List ℕ} → Into x xs ys → length ys ≡ suc (length xs)
length_into here = refl
length_into (there i) = ap suc (length_into i)

pub all_among_tells : (xs : List ℕ) (n : ℕ) → Decides (all_among n xs) ((k : ℕ) → k < n → among k xs ≡ true)
unfolding all_among
all_among_tells xs n = Decides-below_and (λ k. among k xs) (λ k. among k xs ≡ true) (λ m. all_among m xs) (λ k. (λ e. e, λ e. e)) refl (λ m. refl) n

pub order : (r : ℕ) (os : List ℕ) → length os ≡ r → all_among r os ≡ true → Order os r
order zero [] e h = order_none
order zero (o ∷ os) e h = absurd (omega arith)
order (suc r) os e h =
    let all = (all_among_tells os (suc r)).0 h in
    let i = into_from_among r os (all r (omega arith)) in
    let others : all_among r i.0 ≡ true =
    (all_among_tells i.0 r).1 (λ k l. ⊎_elim (λ q. absurd (omega arith)) (λ q. q) (among_into i.1 k (all k (omega arith))))
    in
    order_more (order r i.0 (omega (arith, length_into i.1)) others) i.1

pub order_below : {os : List ℕ} {r : ℕ} → Order os r → (k : ℕ) → among k os ≡ true → k < r
unfolding among
order_below order_none k h = absurd (false≢true h)
order_below (order_more {r = r} o i) k h = ⊎_elim (λ e. omega arith) (λ e. let l = order_below o k e in omega arith) (among_into i k h)

data Distinct : List ℕ → Type 0 where
  distinct_none : Distinct []
  distinct_more : {x : ℕ} {xs : List ℕ} → (among x xs ≡ true → ⊥) → Distinct xs → Distinct (x ∷ xs)

distinct_into : {x : ℕ} {xs ys : List ℕ} → Into x xs ys → (among x xs ≡ true → ⊥) → Distinct xs → Distinct ys
unfolding among
distinct_into here n d = distinct_more n d
distinct_into {x} (there {y} {xs} i) n (distinct_more m d) =
    distinct_more
    (λ e. ⊎_elim (λ q. n (or_left (eqb x y) (among x xs) (eq-eqb x y (sym q)))) m (among_into i y e))
    (distinct_into i (λ e. n (or_right (eqb x y) (among x xs) e)) d)

order_distinct : {os : List ℕ} {r : ℕ} → Order os r → Distinct os
order_distinct order_none = distinct_none
order_distinct (order_more {r = r} o i) = distinct_into i (λ e. let l = order_below o r e in omega arith) (order_distinct o)

pub among_get_d : (os : List ℕ) (k : ℕ) → k < length os → among (get_or os k 0) os ≡ true
unfolding among
among_get_d [] k l = absurd (omega arith)
among_get_d (o ∷ os) zero l = or_left (eqb o o) (among o os) (eq-eqb o o refl)
among_get_d (o ∷ os) (suc k) l = or_right (eqb (get_or os k 0) o) (among (get_or os k 0) os) (among_get_d os k (omega arith))

where_in_get_d : {os : List ℕ} → Distinct os → (k : ℕ) → k < length os → where_in (get_or os k 0) os ≡ k
unfolding where_in
where_in_get_d distinct_none k l = absurd (omega arith)
where_in_get_d (distinct_more {x} {xs} n d) zero l = rw (eq-eqb x x refl)
where_in_get_d (distinct_more {x} {xs} n d) (suc k) l =
    rw (ne_eqb (get_or xs k 0) x (λ e. n (subst (λ y. among y xs ≡ true) e (among_get_d xs k (omega arith))))) (ap suc (where_in_get_d d k (omega arith)))

pub order_once : {os : List ℕ} {r : ℕ} → Order os r → (k : ℕ) → k < length os → where_in (get_or os k 0) os ≡ k
order_once o k l = where_in_get_d (order_distinct o) k l

-- where_in finds what is there
pub where_in_finds : (k : ℕ) (os : List ℕ) → among k os ≡ true → (where_in k os < length os) × (get_or os (where_in k os) 0 ≡ k)
unfolding among where_in
where_in_finds k [] h = absurd (false≢true h)
where_in_finds k (o ∷ os) h =
    ⊎_elim
    (λ e. rw e (omega arith, sym (eqb-true k o e)))
    (λ e. let i = where_in_finds k os (rw e at h) in rw e (omega arith, i.1))
    (cases_Bool (eqb k o))
