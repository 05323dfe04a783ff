use Rattle.std.proofs.Common.{◌≡◌, ℕ, ◌-◌, ◌*◌, ◌<◌, min, ◌⊎◌, List, [], ◌∷◌, ◌++◌, length, length-append, get_or, take, drop, ℤ, pos, sym, refl, ap, ◌∙◌, subst, ap₂, inl, inr, ⊎_elim, arith, length-take, get_or-take, w64, SFits, to_z, of_z, rules}
use native.Mathlib.Nat.{sub-zero}
use mathlib.Core.Bool.{false≢true}
use Rattle.std.proofs.lemmas.List.{drop_all, length-take-le}
use Rattle.std.proofs.lemmas.Int.{to_z-of_z}
use Rattle.semantics.specs.Shapes.{size, unflat}
use Rattle.semantics.proofs.Places.{Inside, inside_unflat}
use Rattle.encoding.specs.ShapeOf.{shape_of}
use Rattle.views.specs.declared.view.View.{View}
use Rattle.views.specs.Walking.{RowMajor}
use Rattle.views.proofs.Backward.{back_turn, back_end}
use Rattle.views.proofs.Rows.{row_major_none}
use Rattle.views.proofs.Packs.{packed_from, packed_rows, rows_none, rows_before, rows_not, size_before, rows_drop_small}
use Rattle.views.proofs.reshape.is_packed.Goals as goal

pub returns-then-size-eq0 : goal.returns-then-size-eq0
returns-then-size-eq0 c = (λ e. packed_from c.args.view (row_major_none _ _ (omega arith)), λ w. refl)

pub loop-len-init : goal.loop-len-init
unfolding size
loop-len-init c =
    let v = c.args.view in
    let long = length-take v.shape.rank v.shape.lens in
    rw (sub-zero v.shape.rank) (ap size (sym (drop_all v.shape.rank (shape_of v.shape) (omega arith))), rows_none (shape_of v.shape) (drop v.shape.rank v.strides) v.shape.rank (omega arith))

some_place : (s : List ℕ) (n : ℕ) → n ≡ min (size s) 18446744073709551615 → (n ≡ 0 → ⊥) → Inside s (unflat s 0)
some_place s n f some = inside_unflat s 0 (omega arith)

pub is_row_stride-requires : goal.is_row_stride-requires
is_row_stride-requires c =
    let v = c.args.view in
    let s = shape_of v.shape in
    let few = length-take-le v.shape.rank v.shape.lens (omega (arith, v.shape.few)) in
    omega (arith, rows_drop_small s (unflat s 0) v.strides (pos v.start) (v.shape.rank - length c.loop-len.yielded) (omega (arith, v.shape.few)) c.requires.walks (some_place s c.size.result c.size.ensures c.if-size-eq0.false) c.loop-len.invariant.1, c.requires.short)

-- what the code compares
compared : (v : View) (k below x : ℕ) (z : ℤ) → SFits w64 z → x ≡ get_or (shape_of v.shape) (k - 1) 0 → z ≡ get_or v.strides (k - 1) (pos 0) → below ≡ size (drop k (shape_of v.shape)) →
    (((x ≡ 1) ⊎ (to_z w64 (of_z w64 z) ≡ pos below)) → (get_or (shape_of v.shape) (k - 1) 0 ≡ 1) ⊎ (get_or v.strides (k - 1) (pos 0) ≡ pos (size (drop k (shape_of v.shape)))))
    × (((get_or (shape_of v.shape) (k - 1) 0 ≡ 1) ⊎ (get_or v.strides (k - 1) (pos 0) ≡ pos (size (drop k (shape_of v.shape))))) → (x ≡ 1) ⊎ (to_z w64 (of_z w64 z) ≡ pos below))
compared v k below x z f len stride e =
    let bits = to_z-of_z w64 z f in
    (⊎_elim (λ one. inl (sym len ∙ one)) (λ far. inr (sym stride ∙ (sym bits ∙ (far ∙ ap pos e)))), ⊎_elim (λ one. inl (len ∙ one)) (λ far. inr (bits ∙ (stride ∙ (far ∙ ap pos (sym e))))))

-- this turn's axis, of those of a view
turn_at : (v : View) (j x : ℕ) (z : ℤ) → (j < v.shape.rank) × (x ≡ get_or (shape_of v.shape) (v.shape.rank - j - 1) 0) × (z ≡ get_or (take v.shape.rank v.strides) (v.shape.rank - j - 1) (pos 0)) → z ≡ get_or v.strides (v.shape.rank - j - 1) (pos 0)
turn_at v j x z turn = let low : v.shape.rank - j - 1 < v.shape.rank = omega arith in turn.2 ∙ get_or-take v.shape.rank v.strides (v.shape.rank - j - 1) (pos 0) low

pub returns-then-not-is_row_stride : goal.returns-then-not-is_row_stride
returns-then-not-is_row_stride c =
    let v = c.args.view in
    let s = shape_of v.shape in
    let j = length c.loop-len.yielded in
    let few : length s ≡ v.shape.rank = length-take-le v.shape.rank v.shape.lens (omega (arith, v.shape.few)) in
    let many : length (take v.shape.rank v.strides) ≡ v.shape.rank = length-take-le v.shape.rank v.strides (omega (arith, v.shape.few)) in
    let turn = back_turn c.into_iter-len-iterator.result few many (cc) (cc) c.loop-len.yielded c.loop-len.len-iterator c.next.new.self c.next.result c.in-Some.field-0-0 c.in-Some.field-0-1 c.loop-len.yielded_by c.in-Some.is c.next.ensures.steps in
    let f : SFits w64 c.in-Some.field-0-1.now = search rules in
    let place = some_place s c.size.result c.size.ensures c.if-size-eq0.false in (
      λ e. absurd (false≢true e),
      λ w. c.if-not-is_row_stride.ensures.1 ((compared v (v.shape.rank - j) c.loop-len.below c.in-Some.field-0-0.now c.in-Some.field-0-1.now f turn.1 (turn_at v j c.in-Some.field-0-0.now c.in-Some.field-0-1.now turn) c.loop-len.invariant.0).1 (rows_not s (unflat s 0) v.strides (v.shape.rank - j) place (omega (arith, turn.0)) (omega arith) (omega (arith, v.shape.few)) (packed_rows v w))),
    )

-- this turn's axis, where its stride is as it should be
turn : (c : goal.After-from-below) → (length c.loop-len.yielded < c.args.view.shape.rank) × (c.in-Some.field-0-0.now ≡ get_or (shape_of c.args.view.shape) (c.args.view.shape.rank - length c.loop-len.yielded - 1) 0)
    × (c.in-Some.field-0-1.now ≡ get_or (take c.args.view.shape.rank c.args.view.strides) (c.args.view.shape.rank - length c.loop-len.yielded - 1) (pos 0))
turn c =
    let v = c.args.view in
    let few : length (shape_of v.shape) ≡ v.shape.rank = length-take-le v.shape.rank v.shape.lens (omega (arith, v.shape.few)) in
    let many : length (take v.shape.rank v.strides) ≡ v.shape.rank = length-take-le v.shape.rank v.strides (omega (arith, v.shape.few)) in
    back_turn c.into_iter-len-iterator.result few many (cc) (cc) c.loop-len.yielded c.loop-len.len-iterator c.next.new.self c.next.result c.in-Some.field-0-0 c.in-Some.field-0-1 c.loop-len.yielded_by c.in-Some.is c.next.ensures.steps

-- the strides from the axis before on
turned_back : (c : goal.After-from-below) → RowMajor (drop (c.args.view.shape.rank - length c.loop-len.yielded - 1) (shape_of c.args.view.shape)) (drop (c.args.view.shape.rank - length c.loop-len.yielded - 1) c.args.view.strides)
turned_back c =
    let v = c.args.view in
    let s = shape_of v.shape in
    let j = length c.loop-len.yielded in
    let few : length s ≡ v.shape.rank = length-take-le v.shape.rank v.shape.lens (omega (arith, v.shape.few)) in
    let f : SFits w64 c.in-Some.field-0-1.now = search rules in
    rows_before s v.strides (v.shape.rank - j) (omega (arith, (turn c).0)) (omega arith) (omega (arith, v.shape.few))
    ((compared v (v.shape.rank - j) c.loop-len.below c.in-Some.field-0-0.now c.in-Some.field-0-1.now f (turn c).1 (turn_at v j c.in-Some.field-0-0.now c.in-Some.field-0-1.now (turn c)) c.loop-len.invariant.0).0 (c.if-not-is_row_stride.ensures.0 refl))
    c.loop-len.invariant.1

product : (c : goal.After-from-below) → c.loop-len.below * c.from-below.result ≡ size (drop (c.args.view.shape.rank - length c.loop-len.yielded - 1) (shape_of c.args.view.shape))
product c =
    let v = c.args.view in
    let s = shape_of v.shape in
    let few : length s ≡ v.shape.rank = length-take-le v.shape.rank v.shape.lens (omega (arith, v.shape.few)) in
    ap₂ (λ a b. a * b) c.loop-len.invariant.0 (c.from-below.ensures ∙ (turn c).1) ∙ sym (size_before s (v.shape.rank - length c.loop-len.yielded) (omega (arith, (turn c).0)) (omega arith))

pub overflow_mul-below : goal.overflow_mul-below
overflow_mul-below c =
    let v = c.args.view in
    let s = shape_of v.shape in
    let few = length-take-le v.shape.rank v.shape.lens (omega (arith, v.shape.few)) in
    let small = rows_drop_small s (unflat s 0) v.strides (pos v.start) (v.shape.rank - length c.loop-len.yielded - 1) (omega (arith, v.shape.few)) c.requires.walks (some_place s c.size.result c.size.ensures c.if-size-eq0.false) (turned_back c) in
    record { fits = omega (arith, product c, c.requires.short) }

pub loop-len-preserved : goal.loop-len-preserved
loop-len-preserved c =
    let v = c.args.view in
    let s = shape_of v.shape in
    let before : v.shape.rank - length c.loop-len.yielded - 1 ≡ v.shape.rank - length (c.loop-len.yielded ++ (c.in-Some.field-0-0, c.in-Some.field-0-1) ∷ [])
    = omega (arith, length-append c.loop-len.yielded ((c.in-Some.field-0-0, c.in-Some.field-0-1) ∷ []))
    in
    (subst (λ n. c.loop-len.below * c.from-below.result ≡ size (drop n s)) before (product c), subst (λ n. RowMajor (drop n s) (drop n v.strides)) before (turned_back c))

pub returns : goal.returns
returns c =
    let v = c.args.view in
    let s = shape_of v.shape in
    let few : length s ≡ v.shape.rank = length-take-le v.shape.rank v.shape.lens (omega (arith, v.shape.few)) in
    let many : length (take v.shape.rank v.strides) ≡ v.shape.rank = length-take-le v.shape.rank v.strides (omega (arith, v.shape.few)) in
    let all = back_end c.into_iter-len-iterator.result few many (cc) (cc) c.loop-len.yielded c.loop-len.len-iterator c.next.new.self c.next.result c.loop-len.yielded_by c.in-None.is c.next.ensures.steps in
    let none : v.shape.rank - length c.loop-len.yielded ≡ 0 = omega arith in
    (λ e. packed_from v (subst (λ n. RowMajor (drop n s) (drop n v.strides)) none c.loop-len.invariant.1), λ w. refl)
