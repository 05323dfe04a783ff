use Rattle.std.proofs.Common.{◌≡◌, ℕ, ◌+◌, ◌<◌, List, ℤ, [], ◌∷◌, ◌++◌, length, length-append, ap₂, get_or, drop, pos, ◌+ℤ◌, ◌*ℤ◌, sym, ap, ◌∙◌, subst, arith, length-take, w64, SFits, to_z, of_z, rules}
use lib.IntN.{+ℤ_idr, +ℤ_assoc}
use Rattle.std.proofs.lemmas.List.{drop_all}
use Rattle.std.proofs.lemmas.Int.{to_z_pos}
use Rattle.std.proofs.lemmas.Slice.Zip.{zip_turn, zip_end}
use Rattle.semantics.specs.OrderLaws.{dot}
use Rattle.semantics.proofs.Places.{inside_in, length_inside, get_d_inside}
use Rattle.encoding.specs.ShapeOf.{shape_of}
use Rattle.views.specs.declared.view.View.{View}
use Rattle.views.specs.Walking.{Walks, Lies}
use Rattle.views.specs.Views.{address}
use Rattle.views.proofs.Casts.{mul_is, add_is, kept_is, sfits_same, nat_casts, nat_is}
use Rattle.views.proofs.Walks.{Stepped, stepped, dot_drop, dot_none, walks_from, inside_drop_at}
use Rattle.views.proofs.place.address_of.Goals as goal

pub loop-stride-init : goal.loop-stride-init
unfolding address
loop-stride-init c =
    let v = c.args.view.now in
    let same : to_z w64 v.start ≡ pos v.start = to_z_pos w64 v.start (omega arith) in
    (subst (λ x. Walks v.low v.high (shape_of v.shape) v.strides x) (sym same) c.requires.good.walks, ap (λ x. x +ℤ dot v.strides c.args.place.now) same)

-- this turn's axis
turn : (c : goal.After-from) → (length c.loop-stride.yielded < length c.args.view.now.strides) × (length c.loop-stride.yielded < length c.args.place.now)
    × (c.in-Some.field-0-0.now ≡ get_or c.args.view.now.strides (length c.loop-stride.yielded) (pos 0))
    × (c.in-Some.field-0-1.now ≡ get_or c.args.place.now (length c.loop-stride.yielded) 0)
turn c =
    let t = zip_turn c.args.view.now.strides c.args.place.now c.loop-stride.yielded c.into_iter-stride-iterator.result c.loop-stride.stride-iterator c.next.new.self c.next.result (cc) (cc) c.loop-stride.yielded_by (c.in-Some.field-0-0, c.in-Some.field-0-1) c.in-Some.is c.next.ensures.steps in
    (t.0, t.1, t.2 (pos 0), t.3 0)

step : (c : goal.After-from) → Stepped c.args.view.now.low c.args.view.now.high (shape_of c.args.view.now.shape) c.args.view.now.strides (length c.loop-stride.yielded) (get_or c.args.place.now (length c.loop-stride.yielded) 0) c.loop-stride.at
step c =
    let v = c.args.view.now in
    let k = length c.loop-stride.yielded in
    let s = shape_of v.shape in
    let inside = inside_in s c.args.place.now c.requires.there in
    let in-shape : k < length s = omega (arith, length_inside inside, (turn c).1) in
    stepped k (get_or c.args.place.now k 0) c.requires.good.short in-shape (turn c).0 (get_d_inside k inside in-shape) (inside_drop_at (k + 1) inside) (subst (λ x. Walks v.low v.high (drop k s) (drop k v.strides) x) c.loop-stride.at-is c.loop-stride.invariant.0)

product : (c : goal.After-from) → to_z w64 (of_z w64 c.in-Some.field-0-0.now) *ℤ to_z w64 (of_z w64 c.from.result) ≡ get_or c.args.view.now.strides (length c.loop-stride.yielded) (pos 0) *ℤ pos (get_or c.args.place.now (length c.loop-stride.yielded) 0)
product c =
    let f : SFits w64 c.in-Some.field-0-0.now = search rules in
    let g : SFits w64 c.from.result = search rules in
    mul_is f g c.from.ensures ∙ ap₂ (λ z i. z *ℤ pos i) (turn c).2 (turn c).3

pub overflow_mul-at : goal.overflow_mul-at
overflow_mul-at c = sfits_same (product c) (step c).far

pub overflow_add-at : goal.overflow_add-at
overflow_add-at c = sfits_same (add_is c.loop-stride.at-is (product c) (step c).far) (step c).sum

-- what is left of the axes, counted otherwise
counted : (v : View) (is : List ℕ) (at : ℤ) (k n : ℕ) → k ≡ n →
    Walks v.low v.high (drop k (shape_of v.shape)) (drop k v.strides) at × (at +ℤ dot (drop k v.strides) (drop k is) ≡ address v is) →
    Walks v.low v.high (drop n (shape_of v.shape)) (drop n v.strides) at × (at +ℤ dot (drop n v.strides) (drop n is) ≡ address v is)
counted v is at k n e p = subst (λ m. Walks v.low v.high (drop m (shape_of v.shape)) (drop m v.strides) at × (at +ℤ dot (drop m v.strides) (drop m is) ≡ address v is)) e p

pub loop-stride-preserved : goal.loop-stride-preserved
loop-stride-preserved c =
    let v = c.args.view.now in
    let k = length c.loop-stride.yielded in
    let is = c.args.place.now in
    let zs = v.strides in
    let same = kept_is (add_is c.loop-stride.at-is (product c) (step c).far) (step c).sum in
    let more = dot_drop zs is k (turn c).0 (turn c).1 in
    let next : k + 1 ≡ length (c.loop-stride.yielded ++ (c.in-Some.field-0-0, c.in-Some.field-0-1) ∷ []) = omega (arith, length-append c.loop-stride.yielded ((c.in-Some.field-0-0, c.in-Some.field-0-1) ∷ [])) in
    counted v is _ (k + 1) _ next (
      subst (λ x. Walks v.low v.high (drop (k + 1) (shape_of v.shape)) (drop (k + 1) zs) x) (sym same) (step c).walks,
      ap (λ x. x +ℤ dot (drop (k + 1) zs) (drop (k + 1) is)) same
          ∙ (+ℤ_assoc c.loop-stride.at (get_or zs k (pos 0) *ℤ pos (get_or is k 0)) (dot (drop (k + 1) zs) (drop (k + 1) is)) ∙ (ap (λ x. c.loop-stride.at +ℤ x) (sym more) ∙ (ap (λ x. x +ℤ dot (drop k zs) (drop k is)) (sym c.loop-stride.at-is) ∙ c.loop-stride.invariant.1))),
    )

-- past the last axis there is one place left, at the address itself
ends : (c : goal.In-None) → Lies c.args.view.now.low c.args.view.now.high c.loop-stride.at
ends c =
    let v = c.args.view.now in
    let k = length c.loop-stride.yielded in
    let s = shape_of v.shape in
    let inside = inside_in s c.args.place.now c.requires.there in
    walks_from (subst (λ x. Walks v.low v.high (drop k s) (drop k v.strides) x) c.loop-stride.at-is c.loop-stride.invariant.0) (inside_drop_at k inside)

pub overflow_cast-result : goal.overflow_cast-result
overflow_cast-result c =
    let e = ends c in
    nat_casts (c.loop-stride.at-is ∙ e.is) (omega (arith, c.requires.good.short))

pub returns : goal.returns
returns c =
    let v = c.args.view.now in
    let is = c.args.place.now in
    let k = length c.loop-stride.yielded in
    let e = ends c in
    let end = zip_end v.strides is c.loop-stride.yielded c.into_iter-stride-iterator.result c.loop-stride.stride-iterator c.next.new.self c.next.result (cc) (cc) c.loop-stride.yielded_by c.in-None.is c.next.ensures.steps in
    let none = drop_all k is (omega (arith, length_inside (inside_in (shape_of v.shape) is c.requires.there), length-take v.shape.rank v.shape.lens, v.shape.few)) in
    sym (ap (λ x. x +ℤ dot (drop k v.strides) (drop k is)) (sym c.loop-stride.at-is) ∙ c.loop-stride.invariant.1)
    ∙ (ap (λ x. c.loop-stride.at +ℤ dot (drop k v.strides) x) none ∙ (ap (λ x. c.loop-stride.at +ℤ x) (dot_none (drop k v.strides)) ∙ (+ℤ_idr c.loop-stride.at ∙ (e.is ∙ ap pos (sym (nat_is (c.loop-stride.at-is ∙ e.is)))))))
