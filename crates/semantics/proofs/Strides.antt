-- Sums and products over all axes, in any order.
use Rattle.std.proofs.Common.{◌≡◌, ℕ, zero, suc, ◌*◌, ◌<◌, List, [], ◌∷◌, length, get_or, ℤ, pos, ◌+ℤ◌, ◌*ℤ◌, sym, refl, ap, ◌∙◌, ap₂, mul_left_comm, arith}
use lib.IntN.{+ℤ_assoc, +ℤ_comm}
use Rattle.std.proofs.lemmas.List.{length-map, get_or-map}
use Rattle.semantics.specs.Shapes.{size}
use Rattle.semantics.specs.Orders.{turned, turned_back}
use Rattle.semantics.specs.OrderLaws.{TurnedSize, dot, turned_strides, TurnedStrides}
use Rattle.semantics.proofs.OnceEach.{Into, here, there, Order, order_none, order_more}
use Rattle.semantics.proofs.Orders.{Ordered, ordered, length_turned, get_d_turned, length_turned_back, get_d_turned_back}

-- f of each of 0 .. n - 1, and of each entry of a list, taken together
module _ {M : Type 0} (e : M) (op : M → M → M) (f : ℕ → M) where
  unfoldable pub over : ℕ → M
  over zero = e
  over (suc n) = op (f n) (over n)

  unfoldable pub over_list : List ℕ → M
  over_list [] = e
  over_list (x ∷ xs) = op (f x) (over_list xs)

module _ {M : Type 0} (e : M) (op : M → M → M) where
  over_same : (f g : ℕ → M) (n : ℕ) → ((k : ℕ) → k < n → f k ≡ g k) → over e op f n ≡ over e op g n
  unfolding over
  over_same f g zero h = refl
  over_same f g (suc n) h = rw (h n (omega arith)) (ap (op (g n)) (over_same f g n (λ k l. h k (omega arith))))

-- where the order of what is taken together does not matter
module _ {M : Type 0} (e : M) (op : M → M → M) (swap : (a b c : M) → op a (op b c) ≡ op b (op a c)) where
  over_first : (f : ℕ → M) (n : ℕ) → over e op f (suc n) ≡ op (f 0) (over e op (λ k. f (suc k)) n)
  unfolding over
  over_first f zero = refl
  over_first f (suc n) = ap (op (f (suc n))) (over_first f n) ∙ swap (f (suc n)) (f 0) (over e op (λ k. f (suc k)) n)

  over_list_over : (f : ℕ → M) (os : List ℕ) → over_list e op f os ≡ over e op (λ j. f (get_or os j 0)) (length os)
  unfolding over_list over
  over_list_over f [] = refl
  over_list_over f (o ∷ os) = ap (op (f o)) (over_list_over f os) ∙ sym (over_first (λ j. f (get_or (o ∷ os) j 0)) (length os))

  over_list_into : (f : ℕ → M) {x : ℕ} {xs ys : List ℕ} → Into x xs ys → over_list e op f ys ≡ op (f x) (over_list e op f xs)
  unfolding over_list
  over_list_into f here = refl
  over_list_into f {x} (there {y} {xs} i) = ap (op (f y)) (over_list_into f i) ∙ swap (f y) (f x) (over_list e op f xs)

  over_list_order : (f : ℕ → M) {os : List ℕ} {r : ℕ} → Order os r → over_list e op f os ≡ over e op f r
  unfolding over_list over
  over_list_order f order_none = refl
  over_list_order f (order_more {r = r} o i) = over_list_into f i ∙ ap (op (f r)) (over_list_order f o)

  over_order : (f : ℕ → M) {os : List ℕ} {r : ℕ} → Order os r → over e op (λ j. f (get_or os j 0)) (length os) ≡ over e op f r
  over_order f {os} o = sym (over_list_over f os) ∙ over_list_order f o

size_over : (s : List ℕ) → size s ≡ over 1 ◌*◌ (λ k. get_or s k 0) (length s)
unfolding size over
size_over [] = refl
size_over (d ∷ ds) = ap (λ n. d * n) (size_over ds) ∙ sym (over_first 1 ◌*◌ mul_left_comm (λ k. get_or (d ∷ ds) k 0) (length ds))

pub size_turned : TurnedSize
size_turned os s h =
    let o = ordered os (length s) h in
    size_over (turned os s) ∙
    (ap (over 1 ◌*◌ (λ j. get_or (turned os s) j 0)) (length_turned os s) ∙
    (over_same 1 ◌*◌ (λ j. get_or (turned os s) j 0) (λ j. get_or s (get_or os j 0) 0) (length os) (λ j l. get_d_turned os s j l) ∙
    (over_order 1 ◌*◌ mul_left_comm (λ k. get_or s k 0) o.order ∙ sym (size_over s))))

add_left_comm : (a b c : ℤ) → a +ℤ (b +ℤ c) ≡ b +ℤ (a +ℤ c)
add_left_comm a b c = sym (+ℤ_assoc a b c) ∙ (ap (λ x. x +ℤ c) (+ℤ_comm a b) ∙ +ℤ_assoc b a c)

-- what index k adds
term : List ℤ → List ℕ → ℕ → ℤ
term zs is k = get_or zs k (pos 0) *ℤ pos (get_or is k 0)

dot_over : (zs : List ℤ) (is : List ℕ) → length is ≡ length zs → dot zs is ≡ over (pos 0) ◌+ℤ◌ (term zs is) (length zs)
unfolding dot over term
dot_over [] is n = refl
dot_over (z ∷ zs) [] n = absurd (omega arith)
dot_over (z ∷ zs) (i ∷ is) n =
    ap (λ x. z *ℤ pos i +ℤ x) (dot_over zs is (omega arith)) ∙ sym (over_first (pos 0) ◌+ℤ◌ add_left_comm (term (z ∷ zs) (i ∷ is)) (length zs))

length_turned_strides : (os : List ℕ) (zs : List ℤ) → length (turned_strides os zs) ≡ length os
unfolding turned_strides
length_turned_strides os zs = length-map os (λ o. get_or zs o (pos 0))

get_d_turned_strides : (os : List ℕ) (zs : List ℤ) (j : ℕ) → j < length os → get_or (turned_strides os zs) j (pos 0) ≡ get_or zs (get_or os j 0) (pos 0)
unfolding turned_strides
get_d_turned_strides os zs j l = get_or-map (λ o. get_or zs o (pos 0)) os j 0 (pos 0) l

term_turned : {os : List ℕ} {r : ℕ} → Ordered os r → (zs : List ℤ) (is : List ℕ) (j : ℕ) → j < length os → term (turned_strides os zs) is j ≡ term zs (turned_back os is) (get_or os j 0)
unfolding term
term_turned {os} {r} o zs is j l =
    let m : j < r = omega arith in
    ap₂ (λ z i. z *ℤ pos i) (get_d_turned_strides os zs j l)
    (ap (λ k. get_or is k 0) (sym (o.once j m)) ∙ sym (get_d_turned_back os is (get_or os j 0) (omega (arith, o.below j m))))

pub dot_turned : TurnedStrides
dot_turned os is zs h n =
    let o = ordered os (length zs) h in
    let ys = turned_strides os zs in
    let js = turned_back os is in
    let e = length_turned_strides os zs in
    dot_over ys is (n ∙ (sym o.long ∙ sym e)) ∙
    (ap (over (pos 0) ◌+ℤ◌ (term ys is)) e ∙
    (over_same (pos 0) ◌+ℤ◌ (term ys is) (λ j. term zs js (get_or os j 0)) (length os) (term_turned o zs is) ∙
    (over_order (pos 0) ◌+ℤ◌ add_left_comm (term zs js) o.order ∙ sym (dot_over zs js (length_turned_back os is ∙ o.long)))))
