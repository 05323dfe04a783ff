-- Shapes under each other, and strides of a wider shape.
use Rattle.std.proofs.Common.{◌≡◌, ℕ, zero, suc, ◌+◌, ◌-◌, ◌<◌, ◌≤◌, Bool, true, false, ◌&&◌, ◌||◌, eqb, ◌≢◌, List, [], ◌∷◌, ◌++◌, reverse, length, get_or, take, drop, set, replicate, ℤ, pos, ◌+ℤ◌, ◌*ℤ◌, sym, refl, ap, ◌∙◌, subst, ap₂, ⊎_elim, add-zero, add_assoc, add-one, arith, length-append, below_more}
use lib.IntN.{*ℤ-zero, zero-*ℤ, +ℤ_idl}
use Rattle.std.proofs.lemmas.List.{length-reverse, get_or-reverse, length-take-le, get_or-take, ext_get_or, get_or-set_same, get_or-set_other, take-replicate, append-nil, append_assoc, drop_more, drop_all, take_more_set, take_all}
use Rattle.std.proofs.lemmas.Bool.{ne_eqb, cases_lt}
use Rattle.semantics.specs.Shapes.{pick}
use Rattle.semantics.specs.Broadcast.{joins, joined, fit, wide, pinned, narrow}
use Rattle.semantics.specs.Arrays.{Array}
use Rattle.semantics.specs.OrderLaws.{dot}
use Rattle.semantics.proofs.Places.{inside_in, in_inside}
use Rattle.semantics.proofs.Inside.{Spreads, Under, none_under, under, spreads_left, spreads_right, spreads_left_left, spreads_right_left, inside_narrow}
use Rattle.encoding.specs.ShapeOf.{shape_of}
use Rattle.views.specs.declared.view.View.{View}
use Rattle.views.specs.Views.{Holds, Sees}
use Rattle.views.specs.Broadcasting.{Spread, pinned_strides, spread_strides, broadcast_array}
use Rattle.views.proofs.Seeing.{sees_holds}
use Rattle.views.proofs.Walks.{dot_none}
use Rattle.views.proofs.Rows.{dot_take}

-- a length counted from the last
pub from_last : (lens : List ℕ) (rank k : ℕ) → rank ≤ length lens → k < rank → get_or (reverse (take rank lens)) k 0 ≡ get_or lens (rank - 1 - k) 0
from_last lens rank k few l =
    let long = length-take-le rank lens few in
    let here : k < length (take rank lens) = omega arith in
    let low : rank - 1 - k < rank = omega arith in
    get_or-reverse (take rank lens) k 0 here ∙ (ap (λ n. get_or (take rank lens) (n - 1 - k) 0) long ∙ get_or-take rank lens (rank - 1 - k) 0 low)

pub length_last : (lens : List ℕ) (rank : ℕ) → rank ≤ length lens → length (reverse (take rank lens)) ≡ rank
length_last lens rank few = length-reverse (take rank lens) ∙ length-take-le rank lens few

pub joins_more : (xs ys : List ℕ) (k : ℕ) → k < length xs → k < length ys →
    joins (drop k xs) (drop k ys) ≡ ((eqb (get_or xs k 0) (get_or ys k 0) || (eqb (get_or xs k 0) 1 || eqb (get_or ys k 0) 1)) && joins (drop (k + 1) xs) (drop (k + 1) ys))
unfolding joins
joins_more xs ys k l m = ap₂ joins (drop_more xs k 0 l) (drop_more ys k 0 m)

pub joins_left : (xs ys : List ℕ) (k : ℕ) → length xs ≤ k → joins (drop k xs) (drop k ys) ≡ true
unfolding joins
joins_left xs ys k l = ap (λ v. joins v (drop k ys)) (drop_all k xs l)

joins_nil : (xs : List ℕ) → joins xs [] ≡ true
unfolding joins
joins_nil [] = refl
joins_nil (x ∷ xs) = refl

pub joins_right : (xs ys : List ℕ) (k : ℕ) → length ys ≤ k → joins (drop k xs) (drop k ys) ≡ true
joins_right xs ys k l = ap (λ v. joins (drop k xs) v) (drop_all k ys l) ∙ joins_nil (drop k xs)

pub get_d_joined_right : (xs ys : List ℕ) (k : ℕ) → length xs ≤ k → get_or (joined xs ys) k 0 ≡ get_or ys k 0
unfolding joined
get_d_joined_right [] ys k l = refl
get_d_joined_right (x ∷ xs) ys zero l = absurd (omega arith)
get_d_joined_right (x ∷ xs) [] (suc k) l = get_d_nil xs k (omega arith)
  where
    get_d_nil : (zs : List ℕ) (n : ℕ) → length zs ≤ n → get_or zs n 0 ≡ 0
    get_d_nil [] n h = refl
    get_d_nil (z ∷ zs) zero h = absurd (omega arith)
    get_d_nil (z ∷ zs) (suc n) h = get_d_nil zs n (omega arith)
get_d_joined_right (x ∷ xs) (y ∷ ys) (suc k) l = get_d_joined_right xs ys k (omega arith)

pub get_d_joined_left : (xs ys : List ℕ) (k : ℕ) → k < length xs → length ys ≤ k → get_or (joined xs ys) k 0 ≡ get_or xs k 0
unfolding joined
get_d_joined_left [] ys k l m = absurd (omega arith)
get_d_joined_left (x ∷ xs) [] k l m = refl
get_d_joined_left (x ∷ xs) (y ∷ ys) zero l m = absurd (omega arith)
get_d_joined_left (x ∷ xs) (y ∷ ys) (suc k) l m = get_d_joined_left xs ys k (omega arith) (omega arith)

pub get_d_joined_both : (xs ys : List ℕ) (k : ℕ) → k < length xs → k < length ys → get_or (joined xs ys) k 0 ≡ pick (eqb (get_or xs k 0) 1) (get_or ys k 0) (get_or xs k 0)
unfolding joined
get_d_joined_both [] ys k l m = absurd (omega arith)
get_d_joined_both (x ∷ xs) [] k l m = absurd (omega arith)
get_d_joined_both (x ∷ xs) (y ∷ ys) zero l m = refl
get_d_joined_both (x ∷ xs) (y ∷ ys) (suc k) l m = get_d_joined_both xs ys k (omega arith) (omega arith)

-- lengths put down from the last to the first
pub put_down : (js lens : List ℕ) (rank k x : ℕ) → rank ≤ length lens → k < rank → ((j : ℕ) → j < k → get_or lens (rank - 1 - j) 0 ≡ get_or js j 0) → x ≡ get_or js k 0 →
    (j : ℕ) → j < k + 1 → get_or (set lens (rank - 1 - k) x) (rank - 1 - j) 0 ≡ get_or js j 0
put_down js lens rank k x few l before here =
    below_more (λ j. get_or (set lens (rank - 1 - k) x) (rank - 1 - j) 0 ≡ get_or js j 0) k
    (λ j h. let other : rank - 1 - j ≢ rank - 1 - k = omega arith in get_or-set_other lens (rank - 1 - k) (rank - 1 - j) x 0 other ∙ before j h)
    (let there : rank - 1 - k < length lens = omega arith in get_or-set_same lens (rank - 1 - k) x 0 there ∙ here)

pub all_down : (js lens : List ℕ) (rank : ℕ) → rank ≤ length lens → length js ≡ rank → ((j : ℕ) → j < rank → get_or lens (rank - 1 - j) 0 ≡ get_or js j 0) → take rank lens ≡ reverse js
all_down js lens rank few long all =
    let front = length-take-le rank lens few in
    ext_get_or 0 (take rank lens) (reverse js) (front ∙ (sym long ∙ sym (length-reverse js)))
    (λ i h.
    let low : i < rank = omega arith in
    let here : i < length js = omega arith in
    let j : rank - 1 - i < rank = omega arith in
    let back : i ≡ rank - 1 - (rank - 1 - i) = omega arith in
    get_or-take rank lens i 0 low ∙ (ap (λ n. get_or lens n 0) back ∙ (all (rank - 1 - i) j ∙ (ap (λ n. get_or js (n - 1 - i) 0) (sym long) ∙ sym (get_or-reverse js i 0 here)))))

pub not_one : (xs ys : List ℕ) (k : ℕ) → k < length xs → (get_or xs k 0 ≡ 1 → ⊥) → get_or (joined xs ys) k 0 ≡ get_or xs k 0
not_one xs ys k l h =
    ⊎_elim
    (λ m. get_d_joined_both xs ys k l m ∙ ap (λ t. pick t (get_or ys k 0) (get_or xs k 0)) (ne_eqb (get_or xs k 0) 1 h))
    (λ m. get_d_joined_left xs ys k l m)
    (cases_lt k (length ys))

-- one more length from the last, as the code compares them
pub fit_more : (ls lt : List ℕ) (rs rt k : ℕ) (b : Bool) → rs ≤ length ls → rt ≤ length lt → k < rs → k < rt →
    b ≡ (eqb (get_or ls (rs - 1 - k) 0) (get_or lt (rt - 1 - k) 0) || (eqb (get_or ls (rs - 1 - k) 0) 1 || eqb (get_or lt (rt - 1 - k) 0) 1)) →
    joins (drop k (reverse (take rs ls))) (drop k (reverse (take rt lt))) ≡ (b && joins (drop (k + 1) (reverse (take rs ls))) (drop (k + 1) (reverse (take rt lt))))
fit_more ls lt rs rt k b fs ft l m e =
    let xs = reverse (take rs ls) in
    let ys = reverse (take rt lt) in
    let here : k < length xs = omega (arith, length_last ls rs fs) in
    let there : k < length ys = omega (arith, length_last lt rt ft) in
    joins_more xs ys k here there
    ∙ ap (λ v. v && joins (drop (k + 1) xs) (drop (k + 1) ys)) (ap₂ (λ x y. eqb x y || (eqb x 1 || eqb y 1)) (from_last ls rs k fs l) (from_last lt rt k ft m) ∙ sym e)

-- strides of a wider shape
pin_times : (d i : ℕ) (z : ℤ) → pick (eqb d 1) (pos 0) z *ℤ pos i ≡ z *ℤ pos (pick (eqb d 1) 0 i)
pin_times d i z = here (eqb d 1)
  where
    here : (b : Bool) → pick b (pos 0) z *ℤ pos i ≡ z *ℤ pos (pick b 0 i)
    here true = zero-*ℤ (pos i) ∙ sym (*ℤ-zero z)
    here false = refl

dot_pinned : (s : List ℕ) (zs : List ℤ) (is : List ℕ) → dot (pinned_strides s zs) is ≡ dot zs (pinned s is)
unfolding dot pinned_strides pinned
dot_pinned [] zs is = sym (dot_none zs)
dot_pinned (d ∷ s) [] is = refl
dot_pinned (d ∷ s) (z ∷ zs) [] = refl
dot_pinned (d ∷ s) (z ∷ zs) (i ∷ is) = ap₂ (λ a b. a +ℤ b) (pin_times d i z) (dot_pinned s zs is)

dot_gap : (n : ℕ) (zs : List ℤ) (is : List ℕ) → dot (replicate n (pos 0) ++ zs) is ≡ dot zs (drop n is)
unfolding dot
dot_gap zero zs is = refl
dot_gap (suc n) zs [] = sym (dot_none zs)
dot_gap (suc n) zs (i ∷ is) = ap (λ a. a +ℤ dot (replicate n (pos 0) ++ zs) is) (zero-*ℤ (pos i)) ∙ (+ℤ_idl (dot (replicate n (pos 0) ++ zs) is) ∙ dot_gap n zs is)

pub dot_spread : (s : List ℕ) (zs : List ℤ) (is : List ℕ) (gap : ℕ) → length is - length s ≡ gap → dot (spread_strides gap s zs) is ≡ dot zs (narrow s is)
unfolding spread_strides narrow
dot_spread s zs is gap e =
    dot_gap gap (pinned_strides s zs) is ∙ (dot_pinned s zs (drop gap is) ∙ ap (λ n. dot zs (pinned s (drop n is))) (sym e))

-- one more stride
pub pinned_more : (s : List ℕ) (zs : List ℤ) (k : ℕ) → k < length s → k < length zs →
    pinned_strides (take (k + 1) s) (take (k + 1) zs) ≡ pinned_strides (take k s) (take k zs) ++ pick (eqb (get_or s k 0) 1) (pos 0) (get_or zs k (pos 0)) ∷ []
unfolding pinned_strides
pinned_more s zs k l m = ap (λ n. pinned_strides (take n s) (take n zs)) (add-one k) ∙ here s zs k l m
  where
    here : (s : List ℕ) (zs : List ℤ) (k : ℕ) → k < length s → k < length zs →
        pinned_strides (take (suc k) s) (take (suc k) zs) ≡ pinned_strides (take k s) (take k zs) ++ pick (eqb (get_or s k 0) 1) (pos 0) (get_or zs k (pos 0)) ∷ []
    here [] zs k l m = absurd (omega arith)
    here (d ∷ s) [] k l m = absurd (omega arith)
    here (d ∷ s) (z ∷ zs) zero l m = refl
    here (d ∷ s) (z ∷ zs) (suc k) l m = ap (λ ys. pick (eqb d 1) (pos 0) z ∷ ys) (here s zs k (omega arith) (omega arith))

-- shapes that fit spread to the shape of both
length_under : {s t : List ℕ} → Under s t → length s ≡ length t
length_under none_under = refl
length_under (under e h) = ap suc (length_under h)

spread_from : {s w : List ℕ} → Spreads s w → Spread s w
spread_from {s} {w} r =
    record { few = omega (arith, ap length r.whole, length-append r.before r.last, length_under r.fits); inside = λ is h. in_inside (inside_narrow r (inside_in w is h)) }

pub spread_left : (s t : List ℕ) → Spread s (wide s t)
spread_left s t = spread_from (spreads_left s t)

pub spread_right : (s t : List ℕ) → fit s t ≡ true → Spread t (wide s t)
spread_right s t e = spread_from (spreads_right s t e)

pub spread_left_left : (s t u : List ℕ) → Spread s (wide (wide s t) u)
spread_left_left s t u = spread_from (spreads_left_left s t u)

pub spread_right_left : (s t u : List ℕ) → fit s t ≡ true → Spread t (wide (wide s t) u)
spread_right_left s t u e = spread_from (spreads_right_left s t u e)

pub spread_none : (gap : ℕ) → gap ≤ 8 → take (gap + 0) (replicate 8 (pos 0)) ≡ spread_strides gap [] []
unfolding spread_strides pinned_strides
spread_none gap h = ap (λ n. take n (replicate 8 (pos 0))) (add-zero gap) ∙ (take-replicate gap 8 (pos 0) h ∙ sym (append-nil (replicate gap (pos 0))))

pub spread_more : (gap k : ℕ) (s : List ℕ) (zs ys : List ℤ) (y : ℤ) → k < length s → k < length zs → gap + k < length ys → take (gap + k) ys ≡ spread_strides gap (take k s) (take k zs) →
    y ≡ pick (eqb (get_or s k 0) 1) (pos 0) (get_or zs k (pos 0)) → take (gap + (k + 1)) (set ys (gap + k) y) ≡ spread_strides gap (take (k + 1) s) (take (k + 1) zs)
unfolding spread_strides
spread_more gap k s zs ys y l m h before here =
    ap (λ n. take n (set ys (gap + k) y)) (sym (add_assoc gap k 1))
    ∙ (take_more_set ys (gap + k) y h
    ∙ (ap₂ (λ v w. v ++ w ∷ []) before here
    ∙ (append_assoc (replicate gap (pos 0)) (pinned_strides (take k s) (take k zs)) (pick (eqb (get_or s k 0) 1) (pos 0) (get_or zs k (pos 0)) ∷ [])
    ∙ ap (λ v. replicate gap (pos 0) ++ v) (sym (pinned_more s zs k l m)))))

-- strides past the shape do not count
pub pinned_take : (s : List ℕ) (zs : List ℤ) → pinned_strides s (take (length s) zs) ≡ pinned_strides s zs
unfolding pinned_strides
pinned_take [] zs = refl
pinned_take (d ∷ s) [] = refl
pinned_take (d ∷ s) (z ∷ zs) = ap (λ v. pick (eqb d 1) (pos 0) z ∷ v) (pinned_take s zs)

pub spread_all : (gap n : ℕ) (s : List ℕ) (zs ys : List ℤ) (is : List ℕ) → n ≡ length s → length is ≡ gap + n → take (gap + n) ys ≡ spread_strides gap (take n s) (take n zs) → dot ys is ≡ dot zs (narrow s is)
unfolding spread_strides
spread_all gap n s zs ys is e long w =
    sym (dot_take ys is (gap + n) (omega arith))
    ∙ (ap (λ v. dot v is) (w ∙ ap (λ v. replicate gap (pos 0) ++ v) (ap₂ (λ v m. pinned_strides v (take m zs)) (take_all n s (omega arith)) e ∙ pinned_take s zs)) ∙ dot_spread s zs is gap (omega arith))

pub broadcast_holds : {area bs : List ℕ} {v r : View} {a : Array ℕ} {w : List ℕ} → Holds area bs v a → Sees v r w (narrow (shape_of v.shape)) → Holds area bs r (broadcast_array w a)
unfolding broadcast_array
broadcast_holds {area} {bs} {v} {r} {a} {w} h sees =
    subst (λ s. Holds area bs r (record { shape = w; at = λ is. a.at (narrow s is) })) h.shaped (sees_holds h sees)
