-- Orders of axes, entry by entry.
use Rattle.std.proofs.Common.{◌≡◌, ℕ, zero, suc, ◌+◌, ◌<◌, true, eqb, List, [], ◌∷◌, length, get_or, sym, refl, ap, ◌∙◌, subst, add-zero, zero-add, arith}
use Rattle.std.proofs.lemmas.List.{ext_get_or}
use Rattle.std.proofs.lemmas.Bool.{and_parts, and_from, eqb-true, eq-eqb}
use Rattle.semantics.specs.Shapes.{In}
use Rattle.semantics.specs.Orders.{among, all_among, is_order, turned, where_in, turned_from, turned_back}
use Rattle.semantics.specs.Arrays.{Alike, turn_array}
use Rattle.semantics.specs.OrderLaws.{OrderEntries, TurnedPlaces, order_after, OrderAfter, OrderAfterAlike, way_from, way_back, WayBack, WayBackAlike}
use Rattle.semantics.proofs.OnceEach.{Order, order, order_below, order_once, all_among_tells, among_get_d, where_in_finds}

-- what is known of an order of r axes
pub record Ordered (os : List ℕ) (r : ℕ) : Type 0 where
  pub long : length os ≡ r
  pub order : Order os r
  pub below : (k : ℕ) → k < r → get_or os k 0 < r
  pub once : (k : ℕ) → k < r → where_in (get_or os k 0) os ≡ k
  pub found_below : (k : ℕ) → k < r → where_in k os < r
  pub found : (k : ℕ) → k < r → get_or os (where_in k os) 0 ≡ k

pub ordered : (os : List ℕ) (r : ℕ) → is_order os r ≡ true → Ordered os r
unfolding is_order
ordered os r h =
    let k = and_parts (eqb (length os) r) (all_among r os) h in
    let n : length os ≡ r = eqb-true (length os) r k.0 in
    let all = (all_among_tells os r).0 k.1 in
    let o = order r os n k.1 in
    record {
      long = n;
      order = o;
      below = λ i l. order_below o (get_or os i 0) (among_get_d os i (omega arith));
      once = λ i l. order_once o i (omega arith);
      found_below = λ i l. omega (arith, (where_in_finds i os (all i l)).0);
      found = λ i l. (where_in_finds i os (all i l)).1;
    }

pub order_entries : OrderEntries
order_entries os r k h l = let o = ordered os r h in (o.below k l, o.once k l, o.found_below k l, o.found k l)

-- a list of r entries is an order if each axis stands somewhere in it
is_order_from : (os : List ℕ) (r : ℕ) (at : ℕ → ℕ) → length os ≡ r → ((k : ℕ) → k < r → (at k < r) × (get_or os (at k) 0 ≡ k)) → is_order os r ≡ true
unfolding is_order
is_order_from os r at n h =
    and_from (eqb (length os) r) (all_among r os) (eq-eqb (length os) r n)
    ((all_among_tells os r).1
    (λ k l. subst (λ x. among x os ≡ true) (h k l).1 (among_get_d os (at k) (omega (arith, (h k l).0)))))

where_in_at : {os : List ℕ} {r : ℕ} → Ordered os r → (j k : ℕ) → j < r → get_or os j 0 ≡ k → where_in k os ≡ j
where_in_at {os} o j k l e = subst (λ x. where_in x os ≡ j) e (o.once j l)

pub length_turned : (os xs : List ℕ) → length (turned os xs) ≡ length os
unfolding turned
length_turned [] xs = refl
length_turned (o ∷ os) xs = ap suc (length_turned os xs)

pub get_d_turned : (os xs : List ℕ) (j : ℕ) → j < length os → get_or (turned os xs) j 0 ≡ get_or xs (get_or os j 0) 0
unfolding turned
get_d_turned [] xs j l = absurd (omega arith)
get_d_turned (o ∷ os) xs zero l = refl
get_d_turned (o ∷ os) xs (suc j) l = get_d_turned os xs j (omega arith)

length_way_from : (k n : ℕ) (os : List ℕ) → length (way_from k n os) ≡ n
unfolding way_from
length_way_from k zero os = refl
length_way_from k (suc n) os = ap suc (length_way_from (suc k) n os)

get_d_way_from : (k n : ℕ) (os : List ℕ) (j : ℕ) → j < n → get_or (way_from k n os) j 0 ≡ where_in (k + j) os
unfolding way_from
get_d_way_from k zero os j l = absurd (omega arith)
get_d_way_from k (suc n) os zero l = rw add-zero
get_d_way_from k (suc n) os (suc j) l = let e : suc k + j ≡ k + suc j = omega arith in rw (← e) (get_d_way_from (suc k) n os j (omega arith))

length_way_back : (os : List ℕ) → length (way_back os) ≡ length os
unfolding way_back
length_way_back os = length_way_from 0 (length os) os

get_d_way_back : (os : List ℕ) (k : ℕ) → k < length os → get_or (way_back os) k 0 ≡ where_in k os
unfolding way_back
get_d_way_back os k l = rw zero-add at (get_d_way_from 0 (length os) os k l)

turned_from_way : (k n : ℕ) (os is : List ℕ) → turned_from k n os is ≡ turned (way_from k n os) is
unfolding turned turned_from way_from
turned_from_way k zero os is = refl
turned_from_way k (suc n) os is = ap (λ js. get_or is (where_in k os) 0 ∷ js) (turned_from_way (suc k) n os is)

turned_back_way : (os is : List ℕ) → turned_back os is ≡ turned (way_back os) is
unfolding turned_back way_back
turned_back_way os is = turned_from_way 0 (length os) os is

pub length_turned_back : (os is : List ℕ) → length (turned_back os is) ≡ length os
length_turned_back os is = rw turned_back_way (length_turned (way_back os) is ∙ length_way_back os)

pub get_d_turned_back : (os is : List ℕ) (k : ℕ) → k < length os → get_or (turned_back os is) k 0 ≡ get_or is (where_in k os) 0
get_d_turned_back os is k l =
    rw turned_back_way
    (get_d_turned (way_back os) is k (omega (arith, length_way_back os)) ∙ ap (λ j. get_or is j 0) (get_d_way_back os k l))

same_entries : (r : ℕ) (xs ys : List ℕ) → length xs ≡ r → length ys ≡ r → ((k : ℕ) → k < r → get_or xs k 0 ≡ get_or ys k 0) → xs ≡ ys
same_entries r xs ys m n h = ext_get_or 0 xs ys (m ∙ sym n) (λ k l. h k (omega arith))

-- an order of r axes, and back
module _ {os : List ℕ} {r : ℕ} (o : Ordered os r) where
  pub turned_turned_back : (is : List ℕ) → length is ≡ r → turned os (turned_back os is) ≡ is
  turned_turned_back is n =
      same_entries r (turned os (turned_back os is)) is (length_turned os (turned_back os is) ∙ o.long) n
      (λ j l. get_d_turned os (turned_back os is) j (omega arith) ∙
      (get_d_turned_back os is (get_or os j 0) (omega (arith, o.below j l)) ∙ ap (λ i. get_or is i 0) (o.once j l)))

  pub turned_back_turned : (is : List ℕ) → length is ≡ r → turned_back os (turned os is) ≡ is
  turned_back_turned is n =
      same_entries r (turned_back os (turned os is)) is (length_turned_back os (turned os is) ∙ o.long) n
      (λ k l. get_d_turned_back os (turned os is) k (omega arith) ∙
      (get_d_turned os is (where_in k os) (omega (arith, o.found_below k l)) ∙ ap (λ i. get_or is i 0) (o.found k l)))

  in_turned_back : (s is : List ℕ) → length s ≡ r → In (turned os s) is → In s (turned_back os is)
  unfolding In
  in_turned_back s is n h = (length_turned_back os is ∙ (o.long ∙ sym n), λ k l. below_at k (omega arith))
    where
      below_at : (k : ℕ) → k < r → get_or (turned_back os is) k 0 < get_or s k 0
      below_at k l =
          let w = where_in k os in
          let m : w < length os = omega (arith, o.found_below k l) in
          omega (arith, h.1 w (omega (arith, length_turned os s)), get_d_turned os s w m, ap (λ j. get_or s j 0) (o.found k l), get_d_turned_back os is k (omega arith))

  in_turned : (s is : List ℕ) → length s ≡ r → In s is → In (turned os s) (turned os is)
  unfolding In
  in_turned s is n h = (length_turned os is ∙ sym (length_turned os s), λ k l. below_at k (omega (arith, length_turned os s)))
    where
      below_at : (k : ℕ) → k < length os → get_or (turned os is) k 0 < get_or (turned os s) k 0
      below_at k l = omega (arith, h.1 (get_or os k 0) (omega (arith, o.below k (omega arith))), get_d_turned os s k l, get_d_turned os is k l)

in_length : (s is : List ℕ) → In s is → length is ≡ length s
unfolding In
in_length s is h = h.0

pub turned_places : TurnedPlaces
turned_places os s is h =
    let o = ordered os (length s) h in
    (λ k. (in_turned_back o s is refl k, turned_turned_back o is (in_length (turned os s) is k ∙ (length_turned os s ∙ o.long))), λ k. (in_turned o s is refl k, turned_back_turned o is (in_length s is k)))

-- ps after os, both of r axes
module _ {ps os : List ℕ} {r : ℕ} (p : Ordered ps r) (o : Ordered os r) where
  get_d_order_after : (j : ℕ) → j < r → get_or (turned ps os) j 0 ≡ get_or os (get_or ps j 0) 0
  get_d_order_after j l = get_d_turned ps os j (omega arith)

  found_after : (k : ℕ) → k < r → (where_in (where_in k os) ps < r) × (get_or (turned ps os) (where_in (where_in k os) ps) 0 ≡ k)
  found_after k l =
      let w = where_in k os in
      let m = o.found_below k l in
      let b = p.found_below w m in
      (b, get_d_order_after (where_in w ps) b ∙ (ap (λ i. get_or os i 0) (p.found w m) ∙ o.found k l))

  length_after : length (turned ps os) ≡ r
  length_after = length_turned ps os ∙ p.long

  after_is_order : is_order (turned ps os) r ≡ true
  after_is_order = is_order_from (turned ps os) r (λ k. where_in (where_in k os) ps) length_after found_after

  where_in_after : (k : ℕ) → k < r → where_in k (turned ps os) ≡ where_in (where_in k os) ps
  where_in_after k l =
      let f = found_after k l in
      where_in_at (ordered (turned ps os) r after_is_order) (where_in (where_in k os) ps) k f.0 f.1

  turned_turned : (xs : List ℕ) → turned ps (turned os xs) ≡ turned (turned ps os) xs
  turned_turned xs =
      same_entries r (turned ps (turned os xs)) (turned (turned ps os) xs) (length_turned ps (turned os xs) ∙ p.long)
      (length_turned (turned ps os) xs ∙ length_after)
      (λ j l. get_d_turned ps (turned os xs) j (omega arith) ∙
      (get_d_turned os xs (get_or ps j 0) (omega (arith, p.below j l)) ∙
      (ap (λ i. get_or xs i 0) (sym (get_d_order_after j l)) ∙ sym (get_d_turned (turned ps os) xs j (omega (arith, length_after))))))

  turned_back_turned_back : (is : List ℕ) → turned_back os (turned_back ps is) ≡ turned_back (turned ps os) is
  turned_back_turned_back is =
      same_entries r (turned_back os (turned_back ps is)) (turned_back (turned ps os) is) (length_turned_back os (turned_back ps is) ∙ o.long)
      (length_turned_back (turned ps os) is ∙ length_after)
      (λ k l. get_d_turned_back os (turned_back ps is) k (omega arith) ∙
      (get_d_turned_back ps is (where_in k os) (omega (arith, o.found_below k l)) ∙
      (ap (λ i. get_or is i 0) (sym (where_in_after k l)) ∙ sym (get_d_turned_back (turned ps os) is k (omega (arith, length_after))))))

pub order_after_is_order : OrderAfter
unfolding order_after
order_after_is_order ps os r g h = after_is_order (ordered ps r g) (ordered os r h)

pub order_after_alike : (Num : Type 0) → OrderAfterAlike Num
unfolding Alike order_after turn_array
order_after_alike Num ps os a g h =
    let p = ordered ps (length a.shape) g in
    let o = ordered os (length a.shape) h in
    (turned_turned p o a.shape, λ is k. ap a.at (turned_back_turned_back p o is))

module _ {os : List ℕ} {r : ℕ} (o : Ordered os r) where
  found_back : (k : ℕ) → k < r → (get_or os k 0 < r) × (get_or (way_back os) (get_or os k 0) 0 ≡ k)
  found_back k l =
      let b = o.below k l in (b, get_d_way_back os (get_or os k 0) (omega arith) ∙ o.once k l)

  back_is_order : is_order (way_back os) r ≡ true
  back_is_order = is_order_from (way_back os) r (λ k. get_or os k 0) (length_way_back os ∙ o.long) found_back

  where_in_back : (k : ℕ) → k < r → where_in k (way_back os) ≡ get_or os k 0
  where_in_back k l =
      let f = found_back k l in
      where_in_at (ordered (way_back os) r back_is_order) (get_or os k 0) k f.0 f.1

  turned_back_back : (is : List ℕ) → turned_back (way_back os) is ≡ turned os is
  turned_back_back is =
      same_entries r (turned_back (way_back os) is) (turned os is) (length_turned_back (way_back os) is ∙ (length_way_back os ∙ o.long)) (length_turned os is ∙ o.long)
      (λ k l. get_d_turned_back (way_back os) is k (omega (arith, length_way_back os)) ∙
      (ap (λ i. get_or is i 0) (where_in_back k l) ∙ sym (get_d_turned os is k (omega arith))))

  turned_way_turned : (xs : List ℕ) → length xs ≡ r → turned (way_back os) (turned os xs) ≡ xs
  turned_way_turned xs n = sym (turned_back_way os (turned os xs)) ∙ turned_back_turned o xs n

  turned_back_twice : (is : List ℕ) → length is ≡ r → turned_back os (turned_back (way_back os) is) ≡ is
  turned_back_twice is n = rw (turned_back_back is) (turned_back_turned o is n)

pub way_back_is_order : WayBack
way_back_is_order os r h = (back_is_order (ordered os r h), turned_back_way os)

pub way_back_alike : (Num : Type 0) → WayBackAlike Num
unfolding Alike turn_array
way_back_alike Num os a h =
    let o = ordered os (length a.shape) h in
    let e = turned_way_turned o a.shape refl in
    (e, λ is k. ap a.at (turned_back_twice o is (in_length (turned (way_back os) (turned os a.shape)) is k ∙ ap length e)))
