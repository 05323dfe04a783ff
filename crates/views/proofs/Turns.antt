-- Axes in another order.
use Rattle.std.proofs.Common.{◌≡◌, ℕ, ◌+◌, ◌<◌, ◌≤◌, true, false, ◌||◌, eqb, List, [], ◌∷◌, ◌++◌, map, length, get_or, take, drop, set, ℤ, pos, ◌+ℤ◌, sym, refl, ap, ◌∙◌, subst, ap₂, arith}
use Rattle.std.proofs.lemmas.List.{drop_more, drop_all, take_more, take_more_set, map_push, length-take-le}
use Rattle.semantics.specs.Arrays.{Array, turn_array}
use Rattle.semantics.specs.Orders.{among, is_order, turned, turned_back}
use Rattle.semantics.specs.OrderLaws.{dot, turned_strides}
use Rattle.semantics.proofs.Places.{inside_in, in_inside, length_inside}
use Rattle.semantics.proofs.Inside.{inside_turned_back}
use Rattle.semantics.proofs.Orders.{ordered, length_turned, length_turned_back}
use Rattle.semantics.proofs.Strides.{dot_turned}
use Rattle.encoding.specs.ShapeOf.{shape_of}
use Rattle.views.specs.declared.view.View.{View}
use Rattle.views.specs.Views.{Good, Holds, Sees, address}
use Rattle.views.proofs.Seeing.{sees_good, sees_holds}
use Rattle.views.proofs.Rows.{dot_take}

-- whether an axis is there, and the shape in another order, entry by entry
pub among_more : (x : ℕ) (os : List ℕ) (k : ℕ) → k < length os → among x (drop k os) ≡ (eqb x (get_or os k 0) || among x (drop (k + 1) os))
unfolding among
among_more x os k l = ap (among x) (drop_more os k 0 l)

pub among_none : (x : ℕ) (os : List ℕ) (k : ℕ) → length os ≤ k → among x (drop k os) ≡ false
unfolding among
among_none x os k l = ap (among x) (drop_all k os l)

turned_push : (os s : List ℕ) (o : ℕ) → turned (os ++ o ∷ []) s ≡ turned os s ++ get_or s o 0 ∷ []
unfolding turned
turned_push [] s o = refl
turned_push (p ∷ os) s o = ap (λ xs. get_or s p 0 ∷ xs) (turned_push os s o)

pub turned_more : (os s lens : List ℕ) (k x : ℕ) → k < length os → k < length lens → take k lens ≡ turned (take k os) s → x ≡ get_or s (get_or os k 0) 0 → take (k + 1) (set lens k x) ≡ turned (take (k + 1) os) s
turned_more os s lens k x l m before here =
    take_more_set lens k x m ∙ (ap₂ (λ xs y. xs ++ y ∷ []) before here ∙ (sym (turned_push (take k os) s (get_or os k 0)) ∙ ap (λ qs. turned qs s) (sym (take_more os k 0 l))))

pub turned_strides_more : (os : List ℕ) (zs ys : List ℤ) (k : ℕ) (y : ℤ) → k < length os → k < length ys → take k ys ≡ turned_strides (take k os) zs → y ≡ get_or zs (get_or os k 0) (pos 0) →
    take (k + 1) (set ys k y) ≡ turned_strides (take (k + 1) os) zs
unfolding turned_strides
turned_strides_more os zs ys k y l m before here =
    take_more_set ys k y m
    ∙ (ap₂ (λ xs x. xs ++ x ∷ []) before here ∙ (sym (map_push (λ o. get_or zs o (pos 0)) (take k os) (get_or os k 0)) ∙ ap (map (λ o. get_or zs o (pos 0))) (sym (take_more os k 0 l))))

pub turn_sees : (v r : View) (os : List ℕ) → Good v → is_order os (length (shape_of v.shape)) ≡ true → length (shape_of v.shape) ≤ length v.strides → shape_of r.shape ≡ turned os (shape_of v.shape) →
    r.start ≡ v.start → r.low ≡ v.low → r.high ≡ v.high → r.source ≡ v.source →
    take (length os) r.strides ≡ turned_strides os (take (length (shape_of v.shape)) v.strides) → Sees v r (turned os (shape_of v.shape)) (turned_back os)
unfolding address
turn_sees v r os g order few shaped start low high source strides =
    let s = shape_of v.shape in
    let n = length s in
    let zs = take n v.strides in
    let o = ordered os n order in
    let long : length zs ≡ n = length-take-le n v.strides few in
    sees_good v r (turned os s) (turned_back os) g (omega (arith, g.begins)) shaped low high source
    (λ is h. in_inside (inside_turned_back os s is order (inside_in (turned os s) is h)))
    (λ is h.
    let many : length is ≡ length os = length_inside (inside_in (turned os s) is h) ∙ length_turned os s in
    let same : is_order os (length zs) ≡ true = ap (is_order os) long ∙ order in
    let far : dot r.strides is ≡ dot v.strides (turned_back os is)
    = sym (dot_take r.strides is (length os) (omega arith))
    ∙ (ap (λ ys. dot ys is) strides ∙ (dot_turned os is zs same (many ∙ (o.long ∙ sym long)) ∙ dot_take v.strides (turned_back os is) n (omega (arith, length_turned_back os is, o.long))))
    in
    ap₂ (λ a b. pos a +ℤ b) start far)

pub turn_holds : {area bs : List ℕ} {v r : View} {a : Array ℕ} (os : List ℕ) → Holds area bs v a → Sees v r (turned os (shape_of v.shape)) (turned_back os) → Holds area bs r (turn_array os a)
unfolding turn_array
turn_holds {area} {bs} {v} {r} {a} os h w =
    subst (λ s. Holds area bs r (record { shape = turned os s; at = λ is. a.at (turned_back os is) })) h.shaped (sees_holds h w)
