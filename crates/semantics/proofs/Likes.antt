-- A value reads its arrays only at their places: each operation gives alike arrays, or the same fault, of alike arrays.
use Rattle.std.proofs.Common.{◌≡◌, ℕ, zero, suc, ◌+◌, ◌-◌, ◌<◌, ◌≤◌, Bool, true, false, ◌&&◌, eqb, ltb, leb, List, [], ◌∷◌, ◌++◌, length, get_or, take, drop, set, refl, ap, subst, ap₂, arith}
use Rattle.std.proofs.lemmas.Bool.{ltb-true, ltb-false, leb-true, eqb-true, and_parts}
use Rattle.std.proofs.lemmas.List.{set-get_or}
use Rattle.semantics.specs.declared.operation.Unary.{Unary}
use Rattle.semantics.specs.declared.operation.Binary.{Binary}
use Rattle.semantics.specs.Shapes.{pick, size, flat, unflat, up_to, same, without}
use Rattle.semantics.specs.Broadcast.{fit, wide}
use Rattle.semantics.specs.Parts.{Part, parts_fit}
use Rattle.semantics.specs.Orders.{is_order}
use Rattle.semantics.specs.Arrays.{Array, Numbers, Alike, folded, constant_array, count_array, can_join, all_below}
use Rattle.semantics.specs.Values.{Expr, name, input, constant, count, each, both, choose, fold, scan, shape_to, turn, part, join, rows, Cell, Value, fault, Sizes, then, made, held, value, on_each, on_both, on_choose, on_fold, on_scan, on_shape, on_turn, on_part, on_join, on_rows}
use Rattle.semantics.specs.ValueLaws.{LikeCells, like_none, like_some, LikeValues, like_fault, like_val, LikeNames, LikeInputs, ValueReadsPlaces}
use Rattle.semantics.proofs.Picks.{pick_two, pick_two_told}
use Rattle.semantics.proofs.Places.{Inside, axis, inside_in, in_inside, get_d_inside, flat_below, inside_unflat, unflat_flat}
use Rattle.semantics.proofs.Inside.{inside_put_in, inside_set, inside_places_of, inside_turned_back, spreads_left, spreads_right, spreads_left_left, spreads_right_left, inside_narrow, same_true, inside_first, inside_second, joined_below, inside_take, inside_drop}

-- two arrays of one shape with the same numbers at its places
pub data Twins {Num : Type 0} : Array Num → Array Num → Type 0 where
  twins : (s : List ℕ) (f g : List ℕ → Num) → ((is : List ℕ) → Inside s is → f is ≡ g is) → Twins (record { shape = s; at = f }) (record { shape = s; at = g })

pub alike_twins : {Num : Type 0} {a b : Array Num} → Twins a b → Alike a b
unfolding Alike
alike_twins (twins s f g h) = (refl, λ is i. h is (inside_in s is i))

pub twins_alike : {Num : Type 0} (a b : Array Num) → Alike a b → Twins a b
unfolding Alike
twins_alike a b h =
    subst (λ s. Twins a (record { shape = s; at = b.at })) h.0 (twins a.shape a.at b.at (λ is i. h.1 is (in_inside i)))

pub twins_refl : {Num : Type 0} (a : Array Num) → Twins a a
twins_refl a = twins a.shape a.at a.at (λ is i. refl)

-- ---- going on, one more array, a test
pub likes_then : {Num : Type 0} {v w : Value Num} (f g : Array Num → ℕ → Value Num) → LikeValues v w → ((a b : Array Num) → Twins a b → (c : ℕ) → LikeValues (f a c) (g b c)) → LikeValues (then v f) (then w g)
unfolding then
likes_then f g (like_fault e) k = like_fault e
likes_then f g (like_val a b c h) k = k a b (twins_alike a b h) c

pub likes_made : {Num : Type 0} (n c : ℕ) {a b : Array Num} → Twins a b → LikeValues (made n c a) (made n c b)
unfolding made
likes_made n c (twins s f g h) =
    pick_two LikeValues (leb (c + size s) n) (like_val _ _ _ (alike_twins (twins s f g h))) (like_fault 5)

pub likes_if : {Num : Type 0} (b : Bool) (e : ℕ) (v w : Value Num) → (b ≡ true → LikeValues v w) → LikeValues (pick b v (fault e)) (pick b w (fault e))
likes_if true e v w h = h refl
likes_if false e v w h = like_fault e

pub likes_held : {Num : Type 0} (n : ℕ) {c d : Cell Num} → LikeCells c d → LikeValues (held n c) (held n d)
unfolding held
likes_held n like_none = like_fault 6
likes_held n (like_some a b h) = likes_made n 0 (twins_alike a b h)

-- ---- folds
folded_same : {Num : Type 0} (f : Num → Num → Num) (e : Num) (g h : ℕ → Num) (n : ℕ) → ((j : ℕ) → j < n → g j ≡ h j) → folded f e g n ≡ folded f e h n
unfolding folded
folded_same f e g h zero p = refl
folded_same f e g h (suc zero) p = p 0 (omega arith)
folded_same f e g h (suc (suc n)) p = ap₂ f (folded_same f e g h (suc n) (λ j l. p j (omega arith))) (p (suc n) (omega arith))

-- ---- rows: every number of b is an index, whatever b has elsewhere
below_all : {Num : Type 0} (z : Numbers Num) (a : Array Num) (d i n k : ℕ) → all_below z a d (up_to i n) ≡ true → i ≤ k → k < i + n → z.index (a.at (unflat a.shape k)) < d
unfolding all_below up_to
below_all z a d i zero k e l h = absurd (omega arith)
below_all z a d i (suc n) k e l h =
    let (e₀, e₁) = and_parts (ltb (z.index (a.at (unflat a.shape i))) d) (all_below z a d (up_to (suc i) n)) e in
    either (ltb i k) refl (ltb-true _ _ e₀) (λ m. below_all z a d (suc i) n k e₁ m (omega arith))
  where
    P : ℕ → Type 0
    P x = z.index (a.at (unflat a.shape x)) < d

    either : (b : Bool) → ltb i k ≡ b → P i → (suc i ≤ k → P k) → P k
    either true e p q = q (ltb-true i k e)
    either false e p q = let s : i ≡ k = omega (arith, ltb-false i k e) in subst P s p

all_below_same : {Num : Type 0} (z : Numbers Num) (s : List ℕ) (f g : List ℕ → Num) (d i n : ℕ) → ((k : ℕ) → k < i + n → f (unflat s k) ≡ g (unflat s k)) → all_below z (record { shape = s; at = f }) d (up_to i n) ≡ all_below z (record { shape = s; at = g }) d (up_to i n)
unfolding all_below up_to
all_below_same z s f g d i zero h = refl
all_below_same z s f g d i (suc n) h =
    ap₂ (λ x y. ltb (z.index x) d && y) (h i (omega arith)) (all_below_same z s f g d (suc i) n (λ k l. h k (omega arith)))

-- the places of a shape by their numbers
pub at_numbers : {Num : Type 0} (s : List ℕ) (f g : List ℕ → Num) → ((is : List ℕ) → Inside s is → f is ≡ g is) → (k : ℕ) → k < 0 + size s → f (unflat s k) ≡ g (unflat s k)
at_numbers s f g h k l = h (unflat s k) (inside_unflat s k (omega arith))

module _ {Num : Type 0} (z : Numbers Num) (n c : ℕ) where
  pub likes_on_each : (k : Unary) {a b : Array Num} → Twins a b → LikeValues (on_each z k n a c) (on_each z k n b c)
  unfolding on_each
  likes_on_each k (twins s f g h) = likes_made n c (twins s _ _ (λ is i. ap (z.one k) (h is i)))

  pub likes_on_both : (k : Binary) {a a' b b' : Array Num} → Twins a a' → Twins b b' → LikeValues (on_both z k n a b c) (on_both z k n a' b' c)
  unfolding on_both
  likes_on_both k (twins s f f' h) (twins t g g' i) =
      likes_if (fit s t) 1 _ _
      (λ e. likes_made n c (twins (wide s t) _ _ (λ is j. ap₂ (z.two k) (h _ (inside_narrow (spreads_left s t) j)) (i _ (inside_narrow (spreads_right s t e) j)))))

  pub likes_on_choose : {a a' b b' d d' : Array Num} → Twins a a' → Twins b b' → Twins d d' → LikeValues (on_choose z n a b d c) (on_choose z n a' b' d' c)
  unfolding on_choose
  likes_on_choose (twins s f f' h) (twins t g g' i) (twins u r r' j) =
      likes_if (fit s t && fit (wide s t) u) 1 _ _
      (λ e. let (e₀, e₁) = and_parts (fit s t) (fit (wide s t) u) e in
      likes_made n c
      (twins (wide (wide s t) u) _ _
      (λ is l. picked (ap z.truth (h _ (inside_narrow (spreads_left_left s t u) l))) (i _ (inside_narrow (spreads_right_left s t u e₀) l)) (j _ (inside_narrow (spreads_right (wide s t) u e₁) l)))))
    where
      picked : {b b' : Bool} {x x' y y' : Num} → b ≡ b' → x ≡ x' → y ≡ y' → pick b x y ≡ pick b' x' y'
      picked p q r = cc

  pub likes_on_fold : (k : Binary) (x : ℕ) {a b : Array Num} → Twins a b → LikeValues (on_fold z k x n a c) (on_fold z k x n b c)
  unfolding on_fold
  likes_on_fold k x (twins s f g h) =
      likes_if (ltb x (length s)) 2 _ _
      (λ e. likes_made n c (twins (without x s) _ _ (λ is i. folded_same (z.two k) (z.empty k) _ _ (get_or s x 0) (λ j l. h _ (inside_put_in x j s is l i)))))

  pub likes_on_scan : (k : Binary) (x : ℕ) {a b : Array Num} → Twins a b → LikeValues (on_scan z k x n a c) (on_scan z k x n b c)
  unfolding on_scan
  likes_on_scan k x (twins s f g h) =
      likes_if (ltb x (length s)) 2 _ _
      (λ e. likes_made n c (twins s _ _ (λ is i. folded_same (z.two k) (z.empty k) _ _ (suc (get_or is x 0)) (λ j l. h _ (at_axis is j i (get_d_inside x i (ltb-true x (length s) e)) l)))))
    where
      at_axis : (is : List ℕ) (j : ℕ) → Inside s is → get_or is x 0 < get_or s x 0 → j < suc (get_or is x 0) → Inside s (set is x j)
      at_axis is j i p l = rw set-get_or at (inside_set x (get_or s x 0) j i (omega arith))

  pub likes_on_shape : (s : Sizes) (t : List ℕ) {a b : Array Num} → Twins a b → LikeValues (on_shape s t n a c) (on_shape s t n b c)
  unfolding on_shape
  likes_on_shape s t (twins u f g h) =
      likes_if (eqb (size t) (size u) && leb (size t) 9007199254740992) 3 _ _
      (λ e. likes_if (leb (length t) s.axes) 2 _ _
      (λ _. likes_made n c (twins t _ _ (λ is i. h _ (inside_unflat u (flat t is) (as_many (and_parts (eqb (size t) (size u)) _ e).0 (flat_below i)))))))
    where
      as_many : {k : ℕ} → eqb (size t) (size u) ≡ true → k < size t → k < size u
      as_many e l = omega (arith, eqb-true (size t) (size u) e)

  pub likes_on_turn : (os : List ℕ) {a b : Array Num} → Twins a b → LikeValues (on_turn os n a c) (on_turn os n b c)
  unfolding on_turn
  likes_on_turn os (twins s f g h) =
      likes_if (is_order os (length s)) 2 _ _ (λ e. likes_made n c (twins _ _ _ (λ is i. h _ (inside_turned_back os s is e i))))

  pub likes_on_part : (ps : List Part) {a b : Array Num} → Twins a b → LikeValues (on_part ps n a c) (on_part ps n b c)
  unfolding on_part
  likes_on_part ps (twins s f g h) =
      likes_if (parts_fit ps s) 4 _ _ (λ e. likes_made n c (twins _ _ _ (λ is i. h _ (inside_places_of ps s e i))))

  pub likes_on_join : (x : ℕ) {a a' b b' : Array Num} → Twins a a' → Twins b b' → LikeValues (on_join x n a b c) (on_join x n a' b' c)
  unfolding on_join
  likes_on_join x (twins s f f' h) (twins t g g' i) =
      likes_if (ltb x (length s)) 2 _ _
      (λ l. likes_if (can_join x (record { shape = s; at = f }) (record { shape = t; at = g })) 1 _ _
      (λ e. likes_made n c (twins (set s x (get_or s x 0 + get_or t x 0)) _ _ (λ is j. at_join is j (ltb-true x (length s) l) e))))
    where
      at_join : (is : List ℕ) → Inside (set s x (get_or s x 0 + get_or t x 0)) is → x < length s → can_join x (record { shape = s; at = f }) (record { shape = t; at = g }) ≡ true → pick (ltb (get_or is x 0) (get_or s x 0)) (f is) (g (set is x (get_or is x 0 - get_or s x 0))) ≡ pick (ltb (get_or is x 0) (get_or s x 0)) (f' is) (g' (set is x (get_or is x 0 - get_or s x 0)))
      at_join is j l e =
          let (e₀, e₁) = and_parts (eqb (length s) (length t)) _ e in
          let (e₂, e₃) = and_parts (same (without x s) (without x t)) _ e₁ in
          let m = joined_below s is x _ l j in
          pick_two_told ◌≡◌ (ltb (get_or is x 0) (get_or s x 0))
          (λ p. h is (inside_first s is x _ j (ltb-true _ _ p)))
          (λ p. i _ (inside_second s t is x _ _ (eqb-true _ _ e₀) (same_true _ _ e₂) j (omega (arith, ltb-false _ _ p))))

  pub likes_on_rows : (r : Sizes) {a a' b b' : Array Num} → Twins a a' → Twins b b' → LikeValues (on_rows r z n a b c) (on_rows r z n a' b' c)
  unfolding on_rows
  likes_on_rows r (twins s f f' h) (twins t g g' i) =
      likes_if (leb 1 (length s)) 2 _ _
      (λ l. rw (all_below_same z t g g' (get_or s 0 0) 0 (size t) (at_numbers t g g' i))
      (likes_if (all_below z (record { shape = t; at = g' }) (get_or s 0 0) (up_to 0 (size t))) 4 _ _
      (λ e. likes_if (leb (length (t ++ drop 1 s)) r.axes) 2 _ _
      (λ _. likes_made n c (twins (t ++ drop 1 s) _ _ (λ is j. at_row s h is j (leb-true _ _ l) e))))))
    where
      at_row : (s : List ℕ) → ((is : List ℕ) → Inside s is → f is ≡ f' is) → (is : List ℕ) → Inside (t ++ drop 1 s) is → 1 ≤ length s → all_below z (record { shape = t; at = g' }) (get_or s 0 0) (up_to 0 (size t)) ≡ true → f (z.index (g (take (length t) is)) ∷ drop (length t) is) ≡ f' (z.index (g' (take (length t) is)) ∷ drop (length t) is)
      at_row [] h is j l e = absurd (omega arith)
      at_row (d ∷ s) h is j l e =
          let k = inside_take t s j in
          let m = below_all z (record { shape = t; at = g' }) d 0 (size t) (flat t (take (length t) is)) e (omega arith) (omega (arith, flat_below k)) in
          rw (i (take (length t) is) k) (h _ (axis (rw (unflat_flat k) at m) (inside_drop t s j)))

module _ {Num : Type 0} (s : Sizes) (z : Numbers Num) (xs ys : List (Array Num)) (ns ms : List (Cell Num)) (hx : LikeInputs xs ys) (hn : LikeNames ns ms) where
  pub value_likes : (n : ℕ) (e : Expr Num) → LikeValues (value s z xs ns n e) (value s z ys ms n e)
  unfolding value
  value_likes n (name k) = likes_held n (hn k)
  value_likes n (input k) = likes_held n (hx k)
  value_likes n (constant x) = likes_made n 0 (twins_refl (constant_array x))
  value_likes n (count m) = likes_made n 0 (twins_refl (count_array z m))
  value_likes n (each k e) = likes_then _ _ (value_likes n e) (λ a b h c. likes_on_each z n c k h)
  value_likes n (both k e f) =
      likes_then _ _ (value_likes n e) (λ a a' h c. likes_then _ _ (value_likes (n - c) f) (λ b b' i d. likes_on_both z n (c + d) k h i))
  value_likes n (choose e f g) =
      likes_then _ _ (value_likes n e)
      (λ a a' h c. likes_then _ _ (value_likes (n - c) f) (λ b b' i d. likes_then _ _ (value_likes (n - c - d) g) (λ r r' j l. likes_on_choose z n (c + d + l) h i j)))
  value_likes n (fold k x e) = likes_then _ _ (value_likes n e) (λ a b h c. likes_on_fold z n c k x h)
  value_likes n (scan k x e) = likes_then _ _ (value_likes n e) (λ a b h c. likes_on_scan z n c k x h)
  value_likes n (shape_to t e) = likes_then _ _ (value_likes n e) (λ a b h c. likes_on_shape z n c s t h)
  value_likes n (turn os e) = likes_then _ _ (value_likes n e) (λ a b h c. likes_on_turn z n c os h)
  value_likes n (part ps e) = likes_then _ _ (value_likes n e) (λ a b h c. likes_on_part z n c ps h)
  value_likes n (join x e f) =
      likes_then _ _ (value_likes n e) (λ a a' h c. likes_then _ _ (value_likes (n - c) f) (λ b b' i d. likes_on_join z n (c + d) x h i))
  value_likes n (rows e f) =
      likes_then _ _ (value_likes n e) (λ a a' h c. likes_then _ _ (value_likes (n - c) f) (λ b b' i d. likes_on_rows z n (c + d) s h i))

pub value_reads_places : (Num : Type 0) → ValueReadsPlaces Num
value_reads_places Num s z xs ys ns ms n e hx hn = value_likes s z xs ys ns ms hx hn n e
