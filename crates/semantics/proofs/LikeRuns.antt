-- A run reads its arrays only at their places: of alike states each statement makes alike states.
use Rattle.std.proofs.Common.{◌≡◌, ℕ, zero, suc, ◌+◌, ◌-◌, ◌<◌, Bool, true, eqb, ltb, List, [], ◌∷◌, ◌++◌, length, set, sym, refl, ap, ◌∙◌, subst, ap₂, arith, length-set}
use Rattle.std.proofs.lemmas.Bool.{and_parts}
use Rattle.semantics.specs.Shapes.{pick, size, unflat, up_to, same}
use Rattle.semantics.specs.Broadcast.{fit, wide}
use Rattle.semantics.specs.Parts.{Part, parts_fit, part_shape, in_parts}
use Rattle.semantics.specs.Arrays.{Array, Numbers, Alike, can_put, put_array}
use Rattle.semantics.specs.Values.{Expr, Cell, none, some, Value, val, Sizes, value}
use Rattle.semantics.specs.Programs.{Program, end, be, put, show, again, cell_size, in_names, numbers_at, listed, State, stopped, with_name, becomes, is_put, is_shown, times, value_in, run, begin, shows, ends}
use Rattle.semantics.specs.ValueLaws.{LikeCells, like_none, like_some, LikeValues, like_fault, like_val, LikeNames, LikeInputs, LikeStates, RunReadsPlaces, ShowsReadPlaces}
use Rattle.semantics.proofs.Picks.{pick_two, pick_two_told}
use Rattle.semantics.proofs.Inside.{inside_which_one, Spreads, spreads_right, inside_narrow, same_true}
use Rattle.semantics.proofs.Likes.{Twins, twins, alike_twins, twins_alike, twins_refl, at_numbers, value_likes}

-- ---- names
pub cell_size_like : {Num : Type 0} {c d : Cell Num} → LikeCells c d → cell_size c ≡ cell_size d
unfolding cell_size Alike
cell_size_like like_none = refl
cell_size_like (like_some a b h) = ap size h.0

pub in_names_like : {Num : Type 0} (ns ms : List (Cell Num)) → LikeNames ns ms → in_names ns ≡ in_names ms
unfolding in_names
in_names_like [] [] h = refl
in_names_like [] (d ∷ ms) h = omega (arith, cell_size_like (h 0), in_names_like [] ms (λ k. h (suc k)))
in_names_like (c ∷ ns) [] h = omega (arith, cell_size_like (h 0), in_names_like ns [] (λ k. h (suc k)))
in_names_like (c ∷ ns) (d ∷ ms) h = omega (arith, cell_size_like (h 0), in_names_like ns ms (λ k. h (suc k)))

pub like_set : {Num : Type 0} (ns ms : List (Cell Num)) (k : ℕ) {c d : Cell Num} → length ns ≡ length ms → LikeNames ns ms → LikeCells c d → LikeNames (set ns k c) (set ms k d)
like_set [] [] k l h e j = h j
like_set [] (y ∷ ms) k l h e j = absurd (omega arith)
like_set (x ∷ ns) [] k l h e j = absurd (omega arith)
like_set (x ∷ ns) (y ∷ ms) zero l h e zero = e
like_set (x ∷ ns) (y ∷ ms) zero l h e (suc j) = h (suc j)
like_set (x ∷ ns) (y ∷ ms) (suc k) l h e zero = h 0
like_set (x ∷ ns) (y ∷ ms) (suc k) l h e (suc j) = like_set ns ms k (omega arith) (λ i. h (suc i)) e j

-- ---- what is shown
numbers_at_same : {Num : Type 0} (s : List ℕ) (f g : List ℕ → Num) (i n : ℕ) → ((k : ℕ) → k < i + n → f (unflat s k) ≡ g (unflat s k)) → numbers_at (record { shape = s; at = f }) (up_to i n) ≡ numbers_at (record { shape = s; at = g }) (up_to i n)
unfolding numbers_at up_to
numbers_at_same s f g i zero h = refl
numbers_at_same s f g i (suc n) h =
    ap₂ (λ x l. x ∷ l) (h i (omega arith)) (numbers_at_same s f g (suc i) n (λ k l. h k (omega arith)))

pub listed_same : {Num : Type 0} {a b : Array Num} → Twins a b → listed a ≡ listed b
unfolding listed
listed_same (twins s f g h) = ap (λ l. record { shape = s; numbers = l }) (numbers_at_same s f g 0 (size s) (at_numbers s f g h))

-- ---- what is put
-- b's place for each place of the part
inside_put : (ps : List Part) (t : List ℕ) → fit (part_shape ps) t ≡ true → same (wide (part_shape ps) t) (part_shape ps) ≡ true → Spreads t (part_shape ps)
inside_put ps t e q = subst (λ w. Spreads t w) (same_true _ _ q) (spreads_right (part_shape ps) t e)

pub put_twins : {Num : Type 0} (ps : List Part) {a a' b b' : Array Num} → Twins a a' → Twins b b' → can_put ps b ≡ true → Twins (put_array ps a b) (put_array ps a' b')
unfolding can_put put_array
put_twins ps (twins s f f' h) (twins t g g' i) e =
    let (e₀, e₁) = and_parts (fit (part_shape ps) t) (same (wide (part_shape ps) t) (part_shape ps)) e in
    twins s _ _
    (λ is j. pick_two_told ◌≡◌ (in_parts ps is) (λ p. i _ (inside_narrow (inside_put ps t e₀ e₁) (inside_which_one ps is p))) (λ p. h is j))

-- ---- states
like_stopped : {Num : Type 0} {t u : State Num} (e : ℕ) → LikeStates t u → LikeStates (stopped t e) (stopped u e)
unfolding stopped
like_stopped e h = record { many = h.many; names = h.names; shown = h.shown; ended = refl }

pub like_with_name : {Num : Type 0} {t u : State Num} (k : ℕ) {a b : Array Num} → LikeStates t u → Twins a b → LikeStates (with_name t k a) (with_name u k b)
unfolding with_name
like_with_name {t} {u} k h e =
    record {
      many = length-set t.names k _ ∙ h.many ∙ sym (length-set u.names k _);
      names = like_set t.names u.names k h.many h.names (like_some _ _ (alike_twins e));
      shown = h.shown;
      ended = refl;
    }

like_pick : {Num : Type 0} (b : Bool) (t u v w : State Num) → LikeStates t v → LikeStates u w → LikeStates (pick b t u) (pick b v w)
like_pick b t u v w h k = pick_two LikeStates b h k

like_becomes : {Num : Type 0} (s : Sizes) {t u : State Num} (k : ℕ) {v w : Value Num} → LikeStates t u → LikeValues v w → LikeStates (becomes s t k v) (becomes s u k w)
unfolding becomes
like_becomes s k h (like_fault e) = like_stopped e h
like_becomes s k h (like_val a b c e) =
    like_pick (ltb k s.names) _ _ _ _ (like_with_name k h (twins_alike a b e)) (like_stopped 6 h)

like_put : {Num : Type 0} {t u : State Num} (k : ℕ) (ps : List Part) {a a' b b' : Array Num} (c : ℕ) → LikeStates t u → Twins a a' → Twins b b' → LikeStates (is_put t k ps (some a) (val b c)) (is_put u k ps (some a') (val b' c))
unfolding is_put
like_put k ps c h (twins s f f' i) (twins r g g' j) =
    like_pick (parts_fit ps s) _ _ _ _
    (pick_two_told LikeStates (can_put ps (record { shape = r; at = g }))
    (λ e. like_with_name k h (put_twins ps (twins s f f' i) (twins r g g' j) e))
    (λ _. like_stopped 1 h))
    (like_stopped 4 h)

like_is_put : {Num : Type 0} {t u : State Num} (k : ℕ) (ps : List Part) {c d : Cell Num} {v w : Value Num} → LikeStates t u → LikeCells c d → LikeValues v w → LikeStates (is_put t k ps c v) (is_put u k ps d w)
unfolding is_put
like_is_put k ps h like_none e = like_stopped 6 h
like_is_put k ps h (like_some a b i) (like_fault e) = like_stopped e h
like_is_put k ps h (like_some a a' i) (like_val b b' c j) = like_put k ps c h (twins_alike a a' i) (twins_alike b b' j)

like_is_shown : {Num : Type 0} {t u : State Num} {v w : Value Num} → LikeStates t u → LikeValues v w → LikeStates (is_shown t v) (is_shown u w)
unfolding is_shown
like_is_shown h (like_fault e) = like_stopped e h
like_is_shown h (like_val a b c e) =
    record { many = h.many; names = h.names; shown = ap₂ (λ l x. l ++ x ∷ []) h.shown (listed_same (twins_alike a b e)); ended = refl }

like_times : {Num : Type 0} (n : ℕ) (f g : State Num → State Num) → ((t u : State Num) → LikeStates t u → LikeStates (f t) (g u)) → (t u : State Num) → LikeStates t u → LikeStates (times n f t) (times n g u)
unfolding times
like_times zero f g h t u e = e
like_times (suc n) f g h t u e = like_times n f g h (f t) (g u) (h t u e)

-- one statement and what follows, unless a fault came before
like_step : {Num : Type 0} (t u v w : State Num) → LikeStates t u → LikeStates v w → LikeStates (pick (eqb t.ended 0) v t) (pick (eqb u.ended 0) w u)
like_step t u v w h k =
    subst (λ x. LikeStates (pick (eqb t.ended 0) v t) (pick (eqb x 0) w u)) h.ended (like_pick (eqb t.ended 0) v t w u k h)

module _ {Num : Type 0} (s : Sizes) (z : Numbers Num) (xs ys : List (Array Num)) (hx : LikeInputs xs ys) where
  value_in_likes : (t u : State Num) (e : Expr Num) → LikeStates t u → LikeValues (value_in s z xs t e) (value_in s z ys u e)
  unfolding value_in
  value_in_likes t u e h =
      subst (λ n. LikeValues (value s z xs t.names (s.places - in_names t.names) e) (value s z ys u.names (s.places - n) e))
      (in_names_like t.names u.names h.names)
      (value_likes s z xs ys t.names u.names hx h.names (s.places - in_names t.names) e)

  run_likes : (p : Program Num) (t u : State Num) → LikeStates t u → LikeStates (run s z xs p t) (run s z ys p u)
  unfolding run
  run_likes end t u h = h
  run_likes (be k e p) t u h = like_step t u _ _ h (run_likes p _ _ (like_becomes s k h (value_in_likes t u e h)))
  run_likes (put k ps e p) t u h =
      like_step t u _ _ h (run_likes p _ _ (like_is_put k ps h (h.names k) (value_in_likes t u e h)))
  run_likes (show e p) t u h = like_step t u _ _ h (run_likes p _ _ (like_is_shown h (value_in_likes t u e h)))
  run_likes (again n b p) t u h =
      like_step t u _ _ h (run_likes p _ _ (like_times n (run s z xs b) (run s z ys b) (run_likes b) t u h))

pub run_reads_places : (Num : Type 0) → RunReadsPlaces Num
run_reads_places Num s z xs ys p t u hx h = run_likes s z xs ys hx p t u h

pub like_cell : {Num : Type 0} (c : Cell Num) → LikeCells c c
like_cell none = like_none
like_cell (some a) = like_some a a (alike_twins (twins_refl a))

pub shows_read_places : (Num : Type 0) → ShowsReadPlaces Num
unfolding shows ends
shows_read_places Num s z xs ys p hx =
    let h = run_likes s z xs ys hx p (begin s) (begin s) (record { many = refl; names = λ k. like_cell _; shown = refl; ended = refl }) in
    (h.shown, h.ended)
