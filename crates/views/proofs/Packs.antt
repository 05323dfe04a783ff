-- Numbers that lie rows first with no gaps.
use Rattle.std.proofs.Common.{◌≡◌, ℕ, zero, suc, ◌+◌, ◌-◌, ◌*◌, ◌^◌, ◌<◌, ◌≤◌, ◌⊎◌, List, [], ◌∷◌, length, get_or, drop, ℤ, pos, ◌+ℤ◌, ◌*ℤ◌, nat_abs, sym, refl, ap, ◌∙◌, subst, ap₂, inl, inr, ⊎_elim, mul_comm, one-mul, add-one, arith}
use lib.IntN.{*ℤ-zero, +ℤ_idl, +ℤ_idr}
use Rattle.std.proofs.lemmas.List.{drop_more, drop_all}
use Rattle.std.proofs.lemmas.Int.{ints}
use Rattle.semantics.specs.Shapes.{size, In, flat, unflat}
use Rattle.semantics.specs.Arrays.{Array, shape_array}
use Rattle.semantics.specs.OrderLaws.{dot}
use Rattle.semantics.proofs.Places.{Inside, no_axes, axis, inside_in, in_inside, inside_unflat, flat_unflat, flat_below}
use Rattle.encoding.specs.ShapeOf.{shape_of}
use Rattle.views.specs.declared.view.View.{View}
use Rattle.views.specs.Walking.{Lies, Walks, RowMajor}
use Rattle.views.specs.Views.{Good, Reaches, Holds, Sees, Packed, address, number_from, seen}
use Rattle.views.specs.Copying.{Walk, Copied}
use Rattle.views.proofs.Integers.{times_one}
use Rattle.views.proofs.Walks.{zeros, inside_zeros, dot_zeros, dot_more, dot_none, walks_from, walks_inside, walks_more}
use Rattle.views.proofs.Rows.{size_drop}
use Rattle.std.proofs.lemmas.Bool.{cases_eq}
use Rattle.views.proofs.Seeing.{good_lies, sees_good, sees_holds}

-- packed is: strides rows first
pub packed_from : (v : View) → RowMajor (shape_of v.shape) v.strides → Packed v
unfolding address
packed_from v w = record { far = λ is h. ap (λ z. pos v.start +ℤ z) (w.far is h) }

cancel : (n : ℕ) (z : ℤ) (m : ℕ) → pos n +ℤ z ≡ pos (n + m) → z ≡ pos m
cancel n z m e = omega (arith, ints)

pub packed_rows : (v : View) → Packed v → RowMajor (shape_of v.shape) v.strides
unfolding address
packed_rows v w = record { far = λ is h. cancel v.start (dot v.strides is) (flat (shape_of v.shape) is) (w.far is h) }

-- there are no more places than addresses
pub rows_small : {low high : ℕ} {s : List ℕ} {zs : List ℤ} {from : ℤ} → Walks low high s zs from → RowMajor s zs → size s ≤ high
rows_small {low} {high} {s} {zs} {from} w r = here (size s) refl
  where
    here : (n : ℕ) → size s ≡ n → n ≤ high
    here zero e = omega arith
    here (suc n) e =
        let low-n : n < size s = omega arith in
        let inside = inside_unflat s n low-n in
        let first = walks_from w inside in
        let last = walks_inside w inside in
        let far : dot zs (unflat s n) ≡ pos n = r.far (unflat s n) (in_inside inside) ∙ ap pos (flat_unflat s n low-n) in
        let sum : pos first.word +ℤ pos n ≡ pos last.word = ap₂ (λ a b. a +ℤ b) (sym first.is) (sym far) ∙ last.is in
        let same : first.word + n ≡ last.word = ap nat_abs sum in
        omega arith

pub packed_small : (v : View) → Good v → Packed v → size (shape_of v.shape) < 2 ^ 62
packed_small v g w = omega (arith, rows_small g.walks (packed_rows v w), g.short)

-- ---- another shape
pub reshape_sees : (v r : View) (s : List ℕ) → Good v → Packed v → size s ≡ size (shape_of v.shape) → shape_of r.shape ≡ s → RowMajor s r.strides →
    r.start ≡ v.start → r.low ≡ v.low → r.high ≡ v.high → r.source ≡ v.source → Sees v r s (λ is. unflat (shape_of v.shape) (flat s is))
unfolding address
reshape_sees v r s g w many shaped rows start low high source =
    let t = shape_of v.shape in
    let below : (is : List ℕ) → In s is → flat s is < size t = λ is h. let l = flat_below (inside_in s is h) in omega arith in
    sees_good v r s (λ is. unflat t (flat s is)) g (omega (arith, g.begins)) shaped low high source
    (λ is h. in_inside (inside_unflat t (flat s is) (below is h)))
    (λ is h.
    ap₂ (λ a b. pos a +ℤ b) start (rows.far is h)
    ∙ sym (w.far (unflat t (flat s is)) (in_inside (inside_unflat t (flat s is) (below is h))) ∙ ap (λ n. pos (v.start + n)) (flat_unflat t (flat s is) (below is h))))

pub shape_holds : {area bs : List ℕ} {v r : View} {a : Array ℕ} (s : List ℕ) → Holds area bs v a → Sees v r s (λ is. unflat (shape_of v.shape) (flat s is)) → Holds area bs r (shape_array s a)
unfolding shape_array
shape_holds {area} {bs} {v} {r} {a} s h w =
    subst (λ t. Holds area bs r (record { shape = s; at = λ is. a.at (unflat t (flat s is)) })) h.shaped (sees_holds h w)

-- ---- one axis after another, from the last
rows_cons : (d : ℕ) (s : List ℕ) (z : ℤ) (zs : List ℤ) (is : List ℕ) → z ≡ pos (size s) → RowMajor s zs → Inside (d ∷ s) is → dot (z ∷ zs) is ≡ pos (flat (d ∷ s) is)
unfolding dot flat
rows_cons d s z zs [] e r h = elim h [ ]
rows_cons d s z zs (i ∷ is) e r (axis l h) = ap₂ (λ a b. a *ℤ pos i +ℤ b) e (r.far is (in_inside h)) ∙ ap (λ n. pos (n + flat s is)) (mul_comm (size s) i)

-- along a length of 1 the stride does not count
rows_one : (s : List ℕ) (z : ℤ) (zs : List ℤ) (is : List ℕ) → RowMajor s zs → Inside (1 ∷ s) is → dot (z ∷ zs) is ≡ pos (flat (1 ∷ s) is)
unfolding dot flat
rows_one s z zs [] r h = elim h [ ]
rows_one s z zs (i ∷ is) r (axis l h) =
    let none : i ≡ 0 = omega arith in
    ap₂ (λ a b. a +ℤ b) (ap (λ n. z *ℤ pos n) none ∙ *ℤ-zero z) (r.far is (in_inside h))
    ∙ (+ℤ_idl (pos (flat s is)) ∙ ap pos (sym (ap (λ n. n * size s + flat s is) none ∙ omega arith)))

pub rows_more : (s : List ℕ) (zs : List ℤ) (k : ℕ) → k < length s → k < length zs → get_or zs k (pos 0) ≡ pos (size (drop (k + 1) s)) → RowMajor (drop (k + 1) s) (drop (k + 1) zs) → RowMajor (drop k s) (drop k zs)
rows_more s zs k l m e r =
    subst (λ t. RowMajor t (drop k zs)) (sym (drop_more s k 0 l)) (subst (λ ys. RowMajor (get_or s k 0 ∷ drop (k + 1) s) ys) (sym (drop_more zs k (pos 0) m))
    (record { far = λ is h. rows_cons (get_or s k 0) (drop (k + 1) s) (get_or zs k (pos 0)) (drop (k + 1) zs) is e r (inside_in _ is h) }))

pub rows_more_one : (s : List ℕ) (zs : List ℤ) (k : ℕ) → k < length s → k < length zs → get_or s k 0 ≡ 1 → RowMajor (drop (k + 1) s) (drop (k + 1) zs) → RowMajor (drop k s) (drop k zs)
rows_more_one s zs k l m e r =
    subst (λ t. RowMajor t (drop k zs)) (sym (drop_more s k 0 l ∙ ap (λ d. d ∷ drop (k + 1) s) e)) (subst (λ ys. RowMajor (1 ∷ drop (k + 1) s) ys) (sym (drop_more zs k (pos 0) m))
    (record { far = λ is h. rows_one (drop (k + 1) s) (get_or zs k (pos 0)) (drop (k + 1) zs) is r (inside_in (1 ∷ drop (k + 1) s) is h) }))

pub rows_none : (s : List ℕ) (zs : List ℤ) (k : ℕ) → length s ≤ k → RowMajor (drop k s) zs
unfolding flat
rows_none s zs k l = subst (λ t. RowMajor t zs) (sym (drop_all k s l)) (record { far = λ is h. none is (inside_in [] is h) })
  where
    none : (is : List ℕ) → Inside [] is → dot zs is ≡ pos 0
    none [] h = dot_none zs
    none (i ∷ is) h = elim h [ ]

-- and back: what the strides of packed places are
rows_rest : (d : ℕ) (s : List ℕ) (z : ℤ) (zs : List ℤ) → 0 < d → RowMajor (d ∷ s) (z ∷ zs) → RowMajor s zs
unfolding flat
rows_rest d s z zs l r =
    record { far = λ is h. sym (dot_more z zs 0 is ∙ (ap (λ x. x +ℤ dot zs is) (*ℤ-zero z) ∙ +ℤ_idl (dot zs is))) ∙ (r.far (0 ∷ is) (in_inside (axis l (inside_in s is h))) ∙ ap pos (omega arith)) }

flat_zeros : (s : List ℕ) → flat s (zeros s) ≡ 0
unfolding flat
flat_zeros [] = refl
flat_zeros (d ∷ s) = omega (arith, flat_zeros s)

rows_first : (d : ℕ) (s is : List ℕ) (z : ℤ) (zs : List ℤ) → 1 < d → Inside s is → RowMajor (d ∷ s) (z ∷ zs) → z ≡ pos (size s)
unfolding flat
rows_first d s is z zs l h r =
    let near : dot (z ∷ zs) (1 ∷ zeros s) ≡ z = dot_more z zs 1 (zeros s) ∙ (ap₂ (λ a b. a +ℤ b) (times_one z) (dot_zeros zs s) ∙ +ℤ_idr z) in
    sym near ∙ (r.far (1 ∷ zeros s) (in_inside (axis l (inside_zeros h))) ∙ ap pos (omega (arith, flat_zeros s)))

pub rows_at : (s is : List ℕ) (zs : List ℤ) (k : ℕ) → Inside s is → k < length s → k < length zs → (get_or s k 0 ≡ 1 → ⊥) → RowMajor s zs → get_or zs k (pos 0) ≡ pos (size (drop (k + 1) s))
rows_at s is zs k h l m one r = at s is zs k h l m one r ∙ ap (λ n. pos (size (drop n s))) (sym (add-one k))
  where
    at : (s is : List ℕ) (zs : List ℤ) (k : ℕ) → Inside s is → k < length s → k < length zs → (get_or s k 0 ≡ 1 → ⊥) → RowMajor s zs → get_or zs k (pos 0) ≡ pos (size (drop (suc k) s))
    at [] is zs k h l m one r = absurd (omega arith)
    at (d ∷ s) is [] k h l m one r = absurd (omega arith)
    at (d ∷ s) [] (z ∷ zs) k h l m one r = elim h [ ]
    at (d ∷ s) (i ∷ is) (z ∷ zs) zero (axis b h) l m one r = rows_first d s is z zs (omega arith) h r
    at (d ∷ s) (i ∷ is) (z ∷ zs) (suc k) (axis b h) l m one r = at s is zs k h (omega arith) (omega arith) one (rows_rest d s z zs (omega arith) r)

-- later axes have no more places than there are addresses
pub rows_drop_small : {low high : ℕ} (s is : List ℕ) (zs : List ℤ) (from : ℤ) (k : ℕ) → length s ≤ length zs → Walks low high s zs from → Inside s is → RowMajor (drop k s) (drop k zs) → size (drop k s) ≤ high
rows_drop_small s is zs from zero few w h r = rows_small w r
rows_drop_small [] is zs from (suc k) few w h r = rows_small w (rows_none [] zs 0 (omega arith))
rows_drop_small (d ∷ s) is [] from (suc k) few w h r = absurd (omega arith)
rows_drop_small (d ∷ s) [] (z ∷ zs) from (suc k) few w h r = elim h [ ]
rows_drop_small (d ∷ s) (i ∷ is) (z ∷ zs) from (suc k) few w (axis l h) r = rows_drop_small s is zs (from +ℤ z *ℤ pos i) k (omega arith) (walks_more w l) h r

-- the axis before, as the code goes
pub rows_before : (s : List ℕ) (zs : List ℤ) (k : ℕ) → 0 < k → k ≤ length s → k ≤ length zs → (get_or s (k - 1) 0 ≡ 1) ⊎ (get_or zs (k - 1) (pos 0) ≡ pos (size (drop k s))) → RowMajor (drop k s) (drop k zs) →
    RowMajor (drop (k - 1) s) (drop (k - 1) zs)
rows_before s zs k some l m e r =
    let next : k ≡ k - 1 + 1 = omega arith in
    let behind = subst (λ n. RowMajor (drop n s) (drop n zs)) next r in
    ⊎_elim
    (λ one. rows_more_one s zs (k - 1) (omega arith) (omega arith) one behind)
    (λ far. rows_more s zs (k - 1) (omega arith) (omega arith) (far ∙ ap (λ n. pos (size (drop n s))) next) behind)
    e

pub rows_not : (s is : List ℕ) (zs : List ℤ) (k : ℕ) → Inside s is → 0 < k → k ≤ length s → k ≤ length zs → RowMajor s zs → (get_or s (k - 1) 0 ≡ 1) ⊎ (get_or zs (k - 1) (pos 0) ≡ pos (size (drop k s)))
rows_not s is zs k h some l m r =
    let next : k - 1 + 1 ≡ k = omega arith in
    ⊎_elim
    (λ one. inl one)
    (λ one. inr (rows_at s is zs (k - 1) h (omega arith) (omega arith) one r ∙ ap (λ n. pos (size (drop n s))) next))
    (cases_eq (get_or s (k - 1) 0) 1)

pub size_before : (s : List ℕ) (k : ℕ) → 0 < k → k ≤ length s → size (drop (k - 1) s) ≡ size (drop k s) * get_or s (k - 1) 0
size_before s k some l =
    let next : k - 1 + 1 ≡ k = omega arith in
    size_drop s (k - 1) (omega arith) ∙ (ap (λ n. get_or s (k - 1) 0 * size (drop n s)) next ∙ mul_comm (get_or s (k - 1) 0) (size (drop k s)))

-- ---- packed places as one row
one_dot : (k : ℕ) → dot (pos 1 ∷ []) (k ∷ []) ≡ pos k
unfolding dot
one_dot k = +ℤ_idr (pos 1 *ℤ pos k) ∙ ap pos (one-mul k)

row_lies : (v : View) (is : List ℕ) → Good v → Packed v → Inside (size (shape_of v.shape) ∷ []) is → Lies 0 v.high (pos v.start +ℤ dot (pos 1 ∷ []) is)
row_lies v [] g w h = elim h [ ]
row_lies v (i ∷ (j ∷ is)) g w (axis l h) = elim h [ ]
row_lies v (i ∷ []) g w (axis l no_axes) =
    let s = shape_of v.shape in
    let inside = in_inside (inside_unflat s i l) in
    let at = good_lies v (unflat s i) g inside in
    let same : address v (unflat s i) ≡ pos v.start +ℤ dot (pos 1 ∷ []) (i ∷ [])
    = w.far (unflat s i) inside ∙ (ap (λ n. pos (v.start + n)) (flat_unflat s i l) ∙ ap (λ z. pos v.start +ℤ z) (sym (one_dot i)))
    in
    record { word = at.word; is = sym same ∙ at.is; above = omega arith; below = at.below }

pub packed_walk : (v : View) (area bs : List ℕ) (n : ℕ) → Good v → Packed v → Reaches v.source area bs v.high → n ≡ size (shape_of v.shape) → Walk v.source area bs (n ∷ []) (pos 1 ∷ []) v.start
packed_walk v area bs n g w there many =
    let row = size (shape_of v.shape) ∷ [] in
    subst (λ m. Walk v.source area bs (m ∷ []) (pos 1 ∷ []) v.start) (sym many)
    (record { high = v.high; short = g.short; there = there; walks = record { lies = λ is h. row_lies v is g w (inside_in row is h) } })

pub packed_seen : (v : View) {area bs out : List ℕ} (n : ℕ) → Packed v → n ≡ size (shape_of v.shape) → Copied v.source area bs (n ∷ []) (pos 1 ∷ []) v.start out →
    (is : List ℕ) → In (shape_of v.shape) is → get_or out (flat (shape_of v.shape) is) 0 ≡ seen area bs v is
unfolding seen flat
packed_seen v {area} {bs} {out} n w many row is h =
    let s = shape_of v.shape in
    let k = flat s is in
    let low : k < n = omega (arith, flat_below (inside_in s is h)) in
    ap (λ m. get_or out m 0) (omega arith)
    ∙ (row.each (k ∷ []) (in_inside (axis low no_axes)) ∙ ap (λ z. number_from v.source area bs (nat_abs z)) (ap (λ z. pos v.start +ℤ z) (one_dot k) ∙ sym (w.far is h)))
