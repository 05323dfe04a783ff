use Rattle.std.proofs.Common.{◌≡◌, suc, ◌+◌, ◌-◌, ◌*◌, ◌<◌, [], ◌∷◌, length, get_or, take, drop, pos, sym, refl, ap, ◌∙◌, ap₂, mul_comm, arith, length-set, length-take, get_or-take, w64, to_z}
use Rattle.std.proofs.lemmas.List.{drop_all, length-take-le}
use Rattle.std.proofs.lemmas.Int.{to_z_pos}
use Rattle.semantics.specs.Shapes.{size}
use Rattle.encoding.specs.ShapeOf.{shape_of}
use Rattle.views.specs.Walking.{row_strides}
use Rattle.views.proofs.Rows.{row_major_from, row_major_none, size_drop, size_drop_le, row_strides_drop, drop_take_set}
use Rattle.views.proofs.strides.contiguous.Goals as goal

pub returns-then-size-eq0 : goal.returns-then-size-eq0
returns-then-size-eq0 c = row_major_none _ _ (omega arith)

pub loop-k-init : goal.loop-k-init
unfolding size row_strides
loop-k-init c =
    let s = shape_of c.args.shape in
    let none = drop_all c.args.shape.rank s (omega (arith, length-take c.args.shape.rank c.args.shape.lens)) in
    (ap size (sym none), drop_all c.args.shape.rank _ (omega (arith, length-take c.args.shape.rank c.args.shape.lens, length-take c.args.shape.rank (pos 0 ∷ pos 0 ∷ pos 0 ∷ pos 0 ∷ pos 0 ∷ pos 0 ∷ pos 0 ∷ pos 0 ∷ []))) ∙ ap row_strides (sym none), refl)

pub overflow_cast-strides : goal.overflow_cast-strides
overflow_cast-strides c =
    let s = shape_of c.args.shape in
    let some = size_drop_le s c.loop-k.k (omega arith) in
    record { sfits = omega arith }

-- the product so far, times the length of the axis before
before : (c : goal.After-from-below) → c.loop-k.below * c.from-below.result ≡ size (drop (c.loop-k.k - 1) (shape_of c.args.shape))
before c =
    let s = shape_of c.args.shape in
    let k = c.loop-k.k - 1 in
    let next : k + 1 ≡ c.loop-k.k = omega arith in
    let long = length-take-le c.args.shape.rank c.args.shape.lens (omega arith) in
    let low : k < c.args.shape.rank = omega arith in
    let len : c.from-below.result ≡ get_or s k 0 = c.from-below.ensures ∙ sym (get_or-take c.args.shape.rank c.args.shape.lens k 0 low) in
    mul_comm c.loop-k.below c.from-below.result
    ∙ (ap₂ (λ a b. a * b) len (c.loop-k.invariant.0 ∙ ap (λ n. size (drop n s)) (sym next)) ∙ sym (size_drop s k (omega arith)))

pub overflow_mul-below : goal.overflow_mul-below
overflow_mul-below c =
    let s = shape_of c.args.shape in
    let some = size_drop_le s (c.loop-k.k - 1) (omega arith) in
    record { fits = omega (arith, before c) }

pub loop-k-preserved : goal.loop-k-preserved
loop-k-preserved c =
    let s = shape_of c.args.shape in
    let k = c.loop-k.k - 1 in
    let r = c.args.shape.rank in
    let next : suc k ≡ c.loop-k.k = omega arith in
    let more : k + 1 ≡ c.loop-k.k = omega arith in
    let long = length-take-le r c.args.shape.lens (omega arith) in
    let some = size_drop_le s c.loop-k.k (omega arith) in
    let word : to_z w64 c.loop-k.below ≡ pos (size (drop c.loop-k.k s)) = to_z_pos w64 c.loop-k.below (omega arith) ∙ ap pos c.loop-k.invariant.0 in
    let there : k < length c.loop-k.strides = omega arith in (
      before c,
      drop_take_set r k c.loop-k.strides (to_z w64 c.loop-k.below) (omega arith) there
          ∙ (ap (λ n. to_z w64 c.loop-k.below ∷ drop n (take r c.loop-k.strides)) next
          ∙ (ap₂ (λ x xs. x ∷ xs) word c.loop-k.invariant.1 ∙ (ap (λ n. pos (size (drop n s)) ∷ row_strides (drop n s)) (sym more) ∙ sym (row_strides_drop s k (omega arith))))),
      simp length-set c.loop-k.invariant.2,
    )

pub returns : goal.returns
returns c =
    let s = shape_of c.args.shape in
    let none : c.loop-k.k ≡ 0 = omega arith in
    row_major_from s c.loop-k.strides c.args.shape.rank (omega (arith, length-take c.args.shape.rank c.args.shape.lens)) (ap (λ k. drop k (take c.args.shape.rank c.loop-k.strides)) (sym none) ∙ (c.loop-k.invariant.1 ∙ ap (λ k. row_strides (drop k s)) none))
