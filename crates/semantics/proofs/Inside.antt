-- Each operation reads its operands only at their places: where a place of the outcome leads is a place of the operand.
use Rattle.std.proofs.Common.{◌≡◌, ℕ, zero, suc, ◌+◌, ◌-◌, ◌*◌, ◌/◌, ◌<◌, ◌≤◌, true, false, ◌||◌, eqb, ◌⊎◌, List, [], ◌∷◌, ◌++◌, reverse, length, get_or, take, drop, set, sym, refl, ap, ◌∙◌, subst, inl, inr, add-zero, mul-le-mul_left, zero-add, arith, length-append, length-set}
use mathlib.Core.List.{reverse_aux}
use Rattle.std.proofs.lemmas.List.{reverse-reverse, reverse-append, set-set, set-get_or, get_or-set_same}
use Rattle.std.proofs.lemmas.Bool.{false≢true, eqb-true, and_parts, or_cases}
use Rattle.semantics.specs.Shapes.{pick, In, same, without, put_in}
use Rattle.semantics.specs.Broadcast.{joins, joined, fit, wide, pinned, narrow}
use Rattle.semantics.specs.Parts.{Part, place_of, part_fits, parts_fit, part_shape, places_of, apart, in_part, in_parts, which_one}
use Rattle.semantics.specs.Orders.{among, all_among, is_order, turned, where_in, turned_from, turned_back}
use Rattle.semantics.proofs.Picks.{pick_told}
use Rattle.semantics.proofs.Places.{Inside, no_axes, axis, inside_in, length_inside, get_d_inside}

-- ---- one axis out, one index in; one index changed
pub inside_put_in : (x j : ℕ) (s is : List ℕ) → j < get_or s x 0 → Inside (without x s) is → Inside s (put_in x j is)
unfolding without put_in
inside_put_in x j [] is l h = absurd (omega arith)
inside_put_in zero j (d ∷ s) is l h = axis l h
inside_put_in (suc x) j (d ∷ s) [] l h = elim h [ ]
inside_put_in (suc x) j (d ∷ s) (i ∷ is) l (axis k h) = axis k (inside_put_in x j s is l h)

-- a length and an index of one axis changed together
pub inside_set : {s is : List ℕ} (x d j : ℕ) → Inside s is → j < d → Inside (set s x d) (set is x j)
inside_set x d j no_axes l = no_axes
inside_set zero d j (axis i h) l = axis l h
inside_set (suc x) d j (axis i h) l = axis i (inside_set x d j h l)

-- ---- parts
below_last : (step many i : ℕ) → i < many → step * i ≤ step * (many - 1)
below_last step many i h = mul-le-mul_left step (omega arith)

place_below : (p : Part) (d i : ℕ) → part_fits p d ≡ true → i < p.many → place_of p i < d
unfolding part_fits place_of
place_below p d i e h = let l = below_last p.step p.many i h in grind arith

pub inside_places_of : {is : List ℕ} (ps : List Part) (s : List ℕ) → parts_fit ps s ≡ true → Inside (part_shape ps) is → Inside s (places_of ps is)
unfolding parts_fit part_shape places_of
inside_places_of [] [] e h = no_axes
inside_places_of [] (d ∷ s) e h = absurd (false≢true e)
inside_places_of (p ∷ ps) [] e h = absurd (false≢true e)
inside_places_of (p ∷ ps) (d ∷ s) e (axis l h) =
    let (e₀, e₁) = and_parts (part_fits p d) (parts_fit ps s) e in
    axis (place_below p d _ e₀ l) (inside_places_of ps s e₁ h)

which_below : (p : Part) (i : ℕ) → in_part p i ≡ true → apart p i / p.step < p.many
unfolding in_part
which_below p i e = grind arith

pub inside_which_one : (ps : List Part) (is : List ℕ) → in_parts ps is ≡ true → Inside (part_shape ps) (which_one ps is)
unfolding in_parts part_shape which_one
inside_which_one [] is e = no_axes
inside_which_one (p ∷ ps) [] e = absurd (false≢true e)
inside_which_one (p ∷ ps) (i ∷ is) e =
    let (e₀, e₁) = and_parts (in_part p i) (in_parts ps is) e in
    axis (which_below p i e₀) (inside_which_one ps is e₁)

-- ---- orders of axes
among_all : (n k : ℕ) (os : List ℕ) → all_among n os ≡ true → k < n → among k os ≡ true
unfolding all_among
among_all zero k os e h = absurd (omega arith)
among_all (suc n) k os e h = let i = among_all n k os in grind arith

where_in_below : (k : ℕ) (os : List ℕ) → among k os ≡ true → where_in k os < length os
unfolding among where_in
where_in_below k [] e = absurd (false≢true e)
where_in_below k (o ∷ os) e = let i = where_in_below k os in grind arith

get_d_where_in : (k : ℕ) (os : List ℕ) → among k os ≡ true → get_or os (where_in k os) 0 ≡ k
unfolding among where_in
get_d_where_in k [] e = absurd (false≢true e)
get_d_where_in k (o ∷ os) e = let i = get_d_where_in k os in grind arith

length_turned : (os s : List ℕ) → length (turned os s) ≡ length os
unfolding turned
length_turned [] s = refl
length_turned (o ∷ os) s = ap suc (length_turned os s)

get_d_turned : (os s : List ℕ) (j : ℕ) → j < length os → get_or (turned os s) j 0 ≡ get_or s (get_or os j 0) 0
unfolding turned
get_d_turned [] s j h = absurd (omega arith)
get_d_turned (o ∷ os) s zero h = refl
get_d_turned (o ∷ os) s (suc j) h = get_d_turned os s j (omega arith)

length_turned_from : (k n : ℕ) (os is : List ℕ) → length (turned_from k n os is) ≡ n
unfolding turned_from
length_turned_from k zero os is = refl
length_turned_from k (suc n) os is = ap suc (length_turned_from (suc k) n os is)

get_d_turned_from : (k n i : ℕ) (os is : List ℕ) → i < n → get_or (turned_from k n os is) i 0 ≡ get_or is (where_in (k + i) os) 0
unfolding turned_from
get_d_turned_from k zero i os is h = absurd (omega arith)
get_d_turned_from k (suc n) zero os is h = rw add-zero
get_d_turned_from k (suc n) (suc i) os is h = get_d_turned_from (suc k) n i os is (omega arith) ∙ ap (λ x. get_or is (where_in x os) 0) (omega arith)

pub inside_turned_back : (os s is : List ℕ) → is_order os (length s) ≡ true → Inside (turned os s) is → Inside s (turned_back os is)
unfolding is_order turned_back In
inside_turned_back os s is e h =
    let (e₀, e₁) = and_parts (eqb (length os) (length s)) (all_among (length s) os) e in
    let n = eqb-true (length os) (length s) e₀ in
    inside_in s _ (length_turned_from 0 (length os) os is ∙ n, λ k l. below k l n (among_all (length s) k os e₁ l))
  where
    below : (k : ℕ) → k < length s → length os ≡ length s → among k os ≡ true → get_or (turned_from 0 (length os) os is) k 0 < get_or s k 0
    below k l n a =
        let w = where_in_below k os a in
        let i = get_d_inside (where_in k os) h (omega (arith, length_turned os s)) in
        let g = get_d_turned os s (where_in k os) w ∙ ap (λ x. get_or s x 0) (get_d_where_in k os a) in
        let f = get_d_turned_from 0 (length os) k os is (omega arith) ∙ ap (λ x. get_or is (where_in x os) 0) (zero-add k) in
        omega arith

-- ---- broadcasting
-- each length is 1 or the other's
pub data Under : List ℕ → List ℕ → Type 0 where
  none_under : Under [] []
  under : {a b : ℕ} {s t : List ℕ} → (a ≡ 1) ⊎ (a ≡ b) → Under s t → Under (a ∷ s) (b ∷ t)

-- first lengths under each other, and then the second may go on
data Into : List ℕ → List ℕ → Type 0 where
  all_in : (t : List ℕ) → Into [] t
  into : {a b : ℕ} {s t : List ℕ} → (a ≡ 1) ⊎ (a ≡ b) → Into s t → Into (a ∷ s) (b ∷ t)

length_under : {s t : List ℕ} → Under s t → length s ≡ length t
length_under none_under = refl
length_under (under e h) = ap suc (length_under h)

one_of : (a b c : ℕ) → (a ≡ 1) ⊎ (a ≡ b) → (b ≡ 1) ⊎ (b ≡ c) → (a ≡ 1) ⊎ (a ≡ c)
one_of a b c (inl e) f = inl e
one_of a b c (inr e) (inl f) = inl (e ∙ f)
one_of a b c (inr e) (inr f) = inr (e ∙ f)

into_trans : {s t u : List ℕ} → Into s t → Into t u → Into s u
into_trans {u} (all_in t) k = all_in u
into_trans (into e h) (into f k) = into (one_of _ _ _ e f) (into_trans h k)

into_refl : (s : List ℕ) → Into s s
into_refl [] = all_in []
into_refl (a ∷ s) = into (inr refl) (into_refl s)

-- a length, and that of two that are joined
left_of : (a b : ℕ) → (a ≡ 1) ⊎ (a ≡ pick (eqb a 1) b a)
left_of a b = pick_told (λ x. (a ≡ 1) ⊎ (a ≡ x)) (eqb a 1) (λ e. inl (eqb-true a 1 e)) (λ e. inr refl)

right_of : (a b : ℕ) → (eqb a b || (eqb a 1 || eqb b 1)) ≡ true → (b ≡ 1) ⊎ (b ≡ pick (eqb a 1) b a)
right_of a b h = pick_told (λ x. (b ≡ 1) ⊎ (b ≡ x)) (eqb a 1) (λ e. inr refl) (λ e. other (or_cases _ _ h) e)
  where
    other : ((eqb a b ≡ true) ⊎ ((eqb a 1 || eqb b 1) ≡ true)) → eqb a 1 ≡ false → (b ≡ 1) ⊎ (b ≡ a)
    other (inl p) e = inr (sym (eqb-true a b p))
    other (inr p) e = inl (grind arith)

into_joined_left : (s t : List ℕ) → Into s (joined s t)
unfolding joined
into_joined_left [] t = all_in t
into_joined_left (a ∷ s) [] = into_refl (a ∷ s)
into_joined_left (a ∷ s) (b ∷ t) = into (left_of a b) (into_joined_left s t)

into_joined_right : (s t : List ℕ) → joins s t ≡ true → Into t (joined s t)
unfolding joined joins
into_joined_right [] t e = into_refl t
into_joined_right (a ∷ s) [] e = all_in (a ∷ s)
into_joined_right (a ∷ s) (b ∷ t) e =
    let (e₀, e₁) = and_parts (eqb a b || (eqb a 1 || eqb b 1)) (joins s t) e in
    into (right_of a b e₀) (into_joined_right s t e₁)

under_reverse_aux : {s t a b : List ℕ} → Under s t → Under a b → Under (reverse_aux s a) (reverse_aux t b)
under_reverse_aux none_under k = k
under_reverse_aux (under e h) k = under_reverse_aux h (under e k)

-- s is broadcast to w: w ends in lengths of which each of s is 1 or the same
pub record Spreads (s w : List ℕ) : Type 0 where
  pub before : List ℕ
  pub last : List ℕ
  pub whole : w ≡ before ++ last
  pub fits : Under s last

-- the same, with the last length first
record Parted (s w : List ℕ) : Type 0 where
  last : List ℕ
  before : List ℕ
  whole : w ≡ last ++ before
  fits : Under s last

parted : {s w : List ℕ} → Into s w → Parted s w
parted (all_in t) = record { last = []; before = t; whole = refl; fits = none_under }
parted (into {b = b} e h) =
    let r = parted h in
    record { last = b ∷ r.last; before = r.before; whole = ap (λ l. b ∷ l) r.whole; fits = under e r.fits }

spreads : (s w : List ℕ) → Into (reverse s) (reverse w) → Spreads s w
spreads s w h =
    let r = parted h in
    record {
      before = reverse r.before;
      last = reverse r.last;
      whole = sym (reverse-reverse w) ∙ ap reverse r.whole ∙ reverse-append r.last r.before;
      fits = rw reverse-reverse at (under_reverse_aux r.fits none_under);
    }

pub spreads_left : (s t : List ℕ) → Spreads s (wide s t)
unfolding wide
spreads_left s t = spreads s _ (rw reverse-reverse (into_joined_left (reverse s) (reverse t)))

pub spreads_right : (s t : List ℕ) → fit s t ≡ true → Spreads t (wide s t)
unfolding wide fit
spreads_right s t e = spreads t _ (rw reverse-reverse (into_joined_right (reverse s) (reverse t) e))

-- two that are broadcast together, and the outcome then with a third
pub spreads_left_left : (s t u : List ℕ) → Spreads s (wide (wide s t) u)
unfolding wide
spreads_left_left s t u =
    spreads s _
    (simp reverse-reverse (into_trans (into_joined_left (reverse s) (reverse t)) (into_joined_left (joined (reverse s) (reverse t)) (reverse u))))

pub spreads_right_left : (s t u : List ℕ) → fit s t ≡ true → Spreads t (wide (wide s t) u)
unfolding wide fit
spreads_right_left s t u e =
    spreads t _
    (simp reverse-reverse (into_trans (into_joined_right (reverse s) (reverse t) e) (into_joined_left (joined (reverse s) (reverse t)) (reverse u))))

pub inside_drop : {is : List ℕ} (s t : List ℕ) → Inside (s ++ t) is → Inside t (drop (length s) is)
inside_drop [] t h = h
inside_drop (a ∷ s) t (axis i h) = inside_drop s t h

pinned_below : (a b i : ℕ) → (a ≡ 1) ⊎ (a ≡ b) → i < b → pick (eqb a 1) 0 i < a
pinned_below a b i e h = grind arith

inside_pinned : {s t is : List ℕ} → Under s t → Inside t is → Inside s (pinned s is)
unfolding pinned
inside_pinned none_under no_axes = no_axes
inside_pinned (under e k) (axis l h) = axis (pinned_below _ _ _ e l) (inside_pinned k h)

pub inside_narrow : {s w is : List ℕ} → Spreads s w → Inside w is → Inside s (narrow s is)
unfolding narrow
inside_narrow {s} {w} {is} r h =
    let k = subst (λ v. Inside v is) r.whole h in
    let e : length is - length s ≡ length r.before = omega (arith, length_inside k, length-append r.before r.last, length_under r.fits) in
    rw e (inside_pinned r.fits (inside_drop r.before r.last k))

-- ---- joined along one axis, and rows
pub same_true : (s t : List ℕ) → same s t ≡ true → s ≡ t
unfolding same
same_true [] [] e = refl
same_true [] (b ∷ t) e = absurd (false≢true e)
same_true (a ∷ s) [] e = absurd (false≢true e)
same_true (a ∷ s) (b ∷ t) e =
    let (e₀, e₁) = and_parts (eqb a b) (same s t) e in
    let p = eqb-true a b e₀ in
    let q = same_true s t e₁ in
    cc

-- shapes that are the same but for axis x
set_without : (x : ℕ) (s t : List ℕ) → length s ≡ length t → without x s ≡ without x t → set s x (get_or t x 0) ≡ t
unfolding without
set_without x [] [] l e = refl
set_without x [] (b ∷ t) l e = absurd (omega arith)
set_without x (a ∷ s) [] l e = absurd (omega arith)
set_without zero (a ∷ s) (b ∷ t) l e = ap (λ r. b ∷ r) e
set_without (suc x) (a ∷ s) (b ∷ t) l e =
    let p : without x s ≡ without x t = cc in
    let q : a ≡ b = cc in
    let r = set_without x s t (omega arith) p in
    cc

-- a place of the joined shape that is in the first array, and one that is in the second
pub inside_first : (s is : List ℕ) (x n : ℕ) → Inside (set s x n) is → get_or is x 0 < get_or s x 0 → Inside s is
inside_first s is x n h l = simp (set-set, set-get_or) at (inside_set x (get_or s x 0) (get_or is x 0) h l)

pub inside_second : (s t is : List ℕ) (x n j : ℕ) → length s ≡ length t → without x s ≡ without x t → Inside (set s x n) is → j < get_or t x 0 → Inside t (set is x j)
inside_second s t is x n j k e h l =
    subst (λ v. Inside v (set is x j)) (set_without x s t k e) (rw set-set at (inside_set x (get_or t x 0) j h l))

pub joined_below : (s is : List ℕ) (x n : ℕ) → x < length s → Inside (set s x n) is → get_or is x 0 < n
joined_below s is x n l h =
    let k : x < length (set s x n) = rw length-set l in
    rw (get_or-set_same s x n 0 l) at (get_d_inside x h k)

pub inside_take : {is : List ℕ} (s t : List ℕ) → Inside (s ++ t) is → Inside s (take (length s) is)
inside_take [] t h = no_axes
inside_take (a ∷ s) t (axis i h) = axis i (inside_take s t h)
