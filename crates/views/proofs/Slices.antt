-- Parts by value, axis by axis.
use Rattle.std.proofs.Common.{◌≡◌, ℕ, zero, suc, ◌+◌, ◌-◌, ◌*◌, ◌^◌, ◌<◌, ◌≤◌, Bool, true, false, ◌&&◌, ltb, leb, List, [], ◌∷◌, ◌++◌, map, length, get_or, take, drop, set, ℤ, pos, ◌+ℤ◌, ◌*ℤ◌, neg_ℤ, sym, refl, ap, ◌∙◌, subst, ap₂, ⊎_elim, add-one, arith, w64, SFits}
use lib.IntN.{zero-*ℤ, +ℤ_idr, +ℤ_assoc}
use Rattle.std.proofs.lemmas.List.{drop_more, drop_all, take_more, take_more_set, map_push, length-map}
use Rattle.std.proofs.lemmas.Int.{ints}
use Rattle.std.proofs.lemmas.Bool.{le-leb, lt-ltb, le-ltb, ne_eqb, cases_lt}
use Rattle.semantics.specs.Shapes.{pick}
use Rattle.semantics.specs.Arrays.{Array, part_array}
use Rattle.semantics.specs.OrderLaws.{dot}
use Rattle.semantics.specs.declared.slice.Slice.{Slice}
use Rattle.semantics.specs.Slices.{part_of, parts_of}
use Rattle.semantics.specs.Parts.{Part, part_fits, parts_fit, part_shape, place_of, places_of}
use Rattle.semantics.proofs.Axes.{Reaches, fits_reaches}
use Rattle.semantics.proofs.Parts.{Fitted, fitted_none, fitted_more, fitted, Shown, shown_none, shown_more, shown, inside_places}
use Rattle.semantics.proofs.Places.{Inside, axis, inside_in, in_inside, length_inside}
use Rattle.encoding.specs.ShapeOf.{shape_of}
use Rattle.views.specs.declared.view.View.{View}
use Rattle.views.specs.Walking.{Walks}
use Rattle.views.specs.Views.{Good, Holds, Sees, address}
use Rattle.views.specs.Slicing.{froms, part_stride, part_strides, AllSteps}
use Rattle.views.proofs.Integers.{times_add, times_times, times_neg}
use Rattle.views.proofs.Walks.{zeros, inside_zeros, walks_from, walks_more, apart_fits, back_fits}
use Rattle.views.proofs.Seeing.{good_address, sees_good, sees_holds}
use Rattle.views.proofs.Rows.{dot_take}

pub length_fitted : {ps : List Part} {s : List ℕ} → Fitted ps s → length ps ≡ length s
length_fitted fitted_none = refl
length_fitted (fitted_more f r) = ap suc (length_fitted r)

-- ---- whether a part fits
pub fits_back : (p : Part) (d : ℕ) → p.backward ≡ true → (p.step ≡ 0 → ⊥) → (p.many ≡ 0 → ⊥) → p.from < d → part_fits p d ≡ leb (p.step * (p.many - 1)) p.from
unfolding part_fits
fits_back p d e s m l = rw (e, le-leb 1 p.step (omega arith), ne_eqb p.many 0 m, lt-ltb p.from d l) refl

pub fits_on : (p : Part) (d : ℕ) → p.backward ≡ false → (p.step ≡ 0 → ⊥) → (p.many ≡ 0 → ⊥) → p.from < d → part_fits p d ≡ ltb (p.from + p.step * (p.many - 1)) d
unfolding part_fits
fits_on p d e s m l = rw (e, le-leb 1 p.step (omega arith), ne_eqb p.many 0 m, lt-ltb p.from d l) refl

pub parts_fit_more : (ps : List Slice) (s : List ℕ) (k : ℕ) (e : Slice) → k < length ps → k < length s →
    parts_fit (map part_of (drop k ps)) (drop k s) ≡ (part_fits (part_of (get_or ps k e)) (get_or s k 0) && parts_fit (map part_of (drop (k + 1) ps)) (drop (k + 1) s))
unfolding parts_fit
parts_fit_more ps s k e l m = ap₂ (λ qs t. parts_fit (map part_of qs) t) (drop_more ps k e l) (drop_more s k 0 m)

pub parts_fit_all : (ps : List Slice) (s : List ℕ) (k : ℕ) → length ps ≤ k → length s ≤ k → parts_fit (map part_of (drop k ps)) (drop k s) ≡ true
unfolding parts_fit
parts_fit_all ps s k l m = ap₂ (λ qs t. parts_fit (map part_of qs) t) (drop_all k ps l) (drop_all k s m)

-- ---- its shape
pub part_shape_push : (ps : List Part) (p : Part) → part_shape (ps ++ p ∷ []) ≡ part_shape ps ++ p.many ∷ []
unfolding part_shape
part_shape_push [] p = refl
part_shape_push (q ∷ ps) p = ap (λ xs. q.many ∷ xs) (part_shape_push ps p)

pub part_shape_more : (ps : List Slice) (lens : List ℕ) (k : ℕ) (e : Slice) → k < length ps → k < length lens → take k lens ≡ part_shape (map part_of (take k ps)) →
    take (k + 1) (set lens k (get_or ps k e).many) ≡ part_shape (map part_of (take (k + 1) ps))
part_shape_more ps lens k e l m before =
    take_more_set lens k (get_or ps k e).many m
    ∙ (ap (λ xs. xs ++ (get_or ps k e).many ∷ []) before
    ∙ (sym (part_shape_push (map part_of (take k ps)) (part_of (get_or ps k e))) ∙ ap part_shape (sym (map_push part_of (take k ps) (get_or ps k e)) ∙ ap (map part_of) (sym (take_more ps k e l)))))

-- ---- its first place, and its strides
froms_push : (ps : List Part) (p : Part) → froms (ps ++ p ∷ []) ≡ froms ps ++ p.from ∷ []
unfolding froms
froms_push [] p = refl
froms_push (q ∷ ps) p = ap (λ xs. q.from ∷ xs) (froms_push ps p)

pub froms_more : (ps : List Slice) (first : List ℕ) (k : ℕ) (e : Slice) → k < length ps → k < length first → take k first ≡ froms (map part_of (take k ps)) →
    take (k + 1) (set first k (get_or ps k e).from) ≡ froms (map part_of (take (k + 1) ps))
froms_more ps first k e l m before =
    take_more_set first k (get_or ps k e).from m
    ∙ (ap (λ xs. xs ++ (get_or ps k e).from ∷ []) before
    ∙ (sym (froms_push (map part_of (take k ps)) (part_of (get_or ps k e))) ∙ ap froms (sym (map_push part_of (take k ps) (get_or ps k e)) ∙ ap (map part_of) (sym (take_more ps k e l)))))

part_strides_push : (ps : List Slice) (zs : List ℤ) (k : ℕ) (e : Slice) → k < length ps → k < length zs →
    part_strides (map part_of (take (suc k) ps)) zs ≡ part_strides (map part_of (take k ps)) zs ++ part_stride (part_of (get_or ps k e)) (get_or zs k (pos 0)) ∷ []
unfolding part_strides
part_strides_push [] zs k e l m = absurd (omega arith)
part_strides_push (p ∷ ps) [] k e l m = absurd (omega arith)
part_strides_push (p ∷ ps) (z ∷ zs) zero e l m = refl
part_strides_push (p ∷ ps) (z ∷ zs) (suc k) e l m = ap (λ ys. part_stride (part_of p) z ∷ ys) (part_strides_push ps zs k e (omega arith) (omega arith))

pub part_strides_more : (ps : List Slice) (zs all : List ℤ) (k : ℕ) (e : Slice) (y : ℤ) → k < length ps → k < length zs → k < length all → take k all ≡ part_strides (map part_of (take k ps)) zs →
    y ≡ part_stride (part_of (get_or ps k e)) (get_or zs k (pos 0)) → take (k + 1) (set all k y) ≡ part_strides (map part_of (take (k + 1) ps)) zs
part_strides_more ps zs all k e y l m n before here =
    take_more_set all k y n
    ∙ (ap₂ (λ xs x. xs ++ x ∷ []) before here ∙ (sym (part_strides_push ps zs k e l m) ∙ ap (λ j. part_strides (map part_of (take j ps)) zs) (sym (add-one k))))

-- a step of the part along an axis of more than one place is a place of the axis
step_below : (p : Part) (d : ℕ) → part_fits p d ≡ true → 1 < p.many → p.step < d
step_below p d f l = here p.backward (fits_reaches p d 1 f l)
  where
    here : (b : Bool) → Reaches b p.from (p.step * 1) d → p.step < d
    here true r = omega arith
    here false r = omega arith

fitted_at : (ps : List Slice) (s : List ℕ) (k : ℕ) (e : Slice) → Fitted (parts_of ps) s → k < length ps → part_fits (part_of (get_or ps k e)) (get_or s k 0) ≡ true
fitted_at [] s k e f l = absurd (omega arith)
fitted_at (p ∷ ps) [] k e f l = elim f [ ]
fitted_at (p ∷ ps) (d ∷ s) zero e (fitted_more f r) l = f
fitted_at (p ∷ ps) (d ∷ s) (suc k) e (fitted_more f r) l = fitted_at ps s k e r (omega arith)

-- a stride times an index is the way between two addresses
module _ {low high : ℕ} (short : high < 2 ^ 62) where
  stride_fits : (s is : List ℕ) (zs : List ℤ) (from : ℤ) (k j : ℕ) → Walks low high s zs from → Inside s is → k < length s → k < length zs → j < get_or s k 0 →
      SFits w64 (get_or zs k (pos 0) *ℤ pos j) × SFits w64 (neg_ℤ (get_or zs k (pos 0) *ℤ pos j))
  stride_fits [] is zs from k j w h l m below = absurd (omega arith)
  stride_fits (d ∷ s) is [] from k j w h l m below = absurd (omega arith)
  stride_fits (d ∷ s) [] (z ∷ zs) from k j w h l m below = elim h [ ]
  stride_fits (d ∷ s) (i ∷ is) (z ∷ zs) from zero j w (axis b h) l m below =
      let here = walks_from w (axis b h) in
      let there = walks_from (walks_more w below) h in
      (apart_fits short here there, back_fits (z *ℤ pos j) short here there)
  stride_fits (d ∷ s) (i ∷ is) (z ∷ zs) from (suc k) j w (axis b h) l m below =
      stride_fits s is zs (from +ℤ z *ℤ pos i) k j (walks_more w b) h (omega arith) (omega arith) below

  pub all_steps : (ps : List Slice) (s is : List ℕ) (zs : List ℤ) (from : ℤ) → Walks low high s zs from → Inside s is → Fitted (parts_of ps) s → length ps ≡ length s → length s ≤ length zs → AllSteps ps zs
  all_steps ps s is zs from w h f long few =
      record {
        each = λ k e l.
            let p = get_or ps k e in
            let fits = fitted_at ps s k e f l in
            record {
              forth = λ m. (stride_fits s is zs from k p.step w h (omega arith) (omega arith) (step_below (part_of p) (get_or s k 0) fits m)).0;
              back = λ m. (stride_fits s is zs from k p.step w h (omega arith) (omega arith) (step_below (part_of p) (get_or s k 0) fits m)).1;
            };
      }

-- ---- what a part shows
places_first : (ps : List Part) → places_of ps (zeros (part_shape ps)) ≡ froms ps
unfolding places_of part_shape froms
places_first [] = refl
places_first (p ∷ ps) = ap₂ (λ x xs. x ∷ xs) (place_first p) (places_first ps)
  where
    place_first : (q : Part) → place_of q 0 ≡ q.from
    place_first q = at_first q.backward
      where
        at_first : (b : Bool) → pick b (q.from - q.step * 0) (q.from + q.step * 0) ≡ q.from
        at_first true = omega arith
        at_first false = omega arith

pub inside_froms : {ps : List Part} {s is : List ℕ} → Fitted ps s → Inside (part_shape ps) is → Inside s (froms ps)
inside_froms {ps} {s} f h = subst (λ js. Inside s js) (places_first ps) (inside_places (shown f (inside_zeros h)))

-- along one axis
pub place_far : (p : Part) (d i : ℕ) (z : ℤ) → part_fits p d ≡ true → i < p.many → z *ℤ pos (place_of p i) ≡ z *ℤ pos p.from +ℤ part_stride p z *ℤ pos i
unfolding part_stride place_of
place_far p d i z f l = ⊎_elim (λ m. rw (lt-ltb 1 p.many m) (more p.backward (fits_reaches p d i f l))) (λ m. rw (le-ltb 1 p.many m) (one p.backward (omega arith))) (cases_lt 1 p.many)
  where
    more : (b : Bool) → Reaches b p.from (p.step * i) d →
        z *ℤ pos (pick b (p.from - p.step * i) (p.from + p.step * i)) ≡ z *ℤ pos p.from +ℤ pick b (neg_ℤ (z *ℤ pos p.step)) (z *ℤ pos p.step) *ℤ pos i
    more true r =
        let whole : p.from ≡ p.from - p.step * i + p.step * i = omega arith in
        let parted = ap (λ n. z *ℤ pos n) whole ∙ times_add z (p.from - p.step * i) (p.step * i) in
        let back = times_neg (z *ℤ pos p.step) i in
        let on = times_times z p.step i in
        omega (arith, ints)
    more false r = times_add z p.from (p.step * i) ∙ ap (λ x. z *ℤ pos p.from +ℤ x) (sym (times_times z p.step i))

    one : (b : Bool) → i ≡ 0 → z *ℤ pos (pick b (p.from - p.step * i) (p.from + p.step * i)) ≡ z *ℤ pos p.from +ℤ pos 0 *ℤ pos i
    one b e =
        let same : pick b (p.from - p.step * i) (p.from + p.step * i) ≡ p.from = still b e in
        ap (λ n. z *ℤ pos n) same ∙ sym (ap (λ x. z *ℤ pos p.from +ℤ x) (zero-*ℤ (pos i)) ∙ +ℤ_idr (z *ℤ pos p.from))
      where
        still : (b : Bool) → i ≡ 0 → pick b (p.from - p.step * i) (p.from + p.step * i) ≡ p.from
        still true e = ap (λ n. p.from - p.step * n) e ∙ omega arith
        still false e = ap (λ n. p.from + p.step * n) e ∙ omega arith

pub dot_part : {ps : List Part} {s is : List ℕ} (zs : List ℤ) → Shown ps s is → dot zs (places_of ps is) ≡ dot zs (froms ps) +ℤ dot (part_strides ps zs) is
unfolding dot places_of froms part_strides
dot_part zs shown_none = sym (+ℤ_idr (dot zs []))
dot_part [] (shown_more f l h) = refl
dot_part (z ∷ zs) (shown_more {p} {d} {i} {ps} {ds} {is} f l h) =
    let here = place_far p d i z f l in
    let rest = dot_part zs h in
    omega (arith, ints)

pub part_holds : {area bs : List ℕ} {v r : View} {a : Array ℕ} (ps : List Part) → Holds area bs v a → Sees v r (part_shape ps) (places_of ps) → Holds area bs r (part_array ps a)
unfolding part_array
part_holds ps h w = sees_holds h w

pub length_part_shape : (ps : List Part) → length (part_shape ps) ≡ length ps
unfolding part_shape
length_part_shape [] = refl
length_part_shape (p ∷ ps) = ap suc (length_part_shape ps)

pub fit_length : (ps : List Slice) (s : List ℕ) → parts_fit (parts_of ps) s ≡ true → length ps ≡ length s
fit_length ps s e = sym (length-map ps part_of) ∙ length_fitted (fitted (parts_of ps) s e)

pub slice_sees : (v r : View) (ps : List Part) {is : List ℕ} → Good v → Fitted ps (shape_of v.shape) → Inside (part_shape ps) is → shape_of r.shape ≡ part_shape ps → r.low ≡ v.low → r.high ≡ v.high → r.source ≡ v.source →
    address v (froms ps) ≡ pos r.start → take (length ps) r.strides ≡ part_strides ps v.strides → Sees v r (part_shape ps) (places_of ps)
unfolding address
slice_sees v r ps g f some shaped low high source start strides =
    let below = good_address v (froms ps) g (in_inside (inside_froms f some)) start in
    sees_good v r (part_shape ps) (places_of ps) g (omega (arith, g.short)) shaped low high source
    (λ is h. in_inside (inside_places (shown f (inside_in (part_shape ps) is h))))
    (λ is h.
    let inside = inside_in (part_shape ps) is h in
    let few : length is ≤ length ps = omega (arith, length_inside inside, length_part_shape ps) in
    ap₂ (λ a b. a +ℤ b) (sym start) (sym (dot_take r.strides is (length ps) few) ∙ ap (λ zs. dot zs is) strides)
    ∙ (+ℤ_assoc (pos v.start) (dot v.strides (froms ps)) (dot (part_strides ps v.strides) is) ∙ ap (λ x. pos v.start +ℤ x) (sym (dot_part v.strides (shown f inside)))))

pub length_froms : (ps : List Part) → length (froms ps) ≡ length ps
unfolding froms
length_froms [] = refl
length_froms (p ∷ ps) = ap suc (length_froms ps)
