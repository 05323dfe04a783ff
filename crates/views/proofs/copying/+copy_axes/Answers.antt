use Rattle.std.proofs.Common.{◌≡◌, ℕ, ◌+◌, ◌*◌, ◌/◌, ◌<◌, ◌≤◌, List, length, get_or, pos, ◌+ℤ◌, ◌*ℤ◌, nat_abs, sym, ap, ◌∙◌, arith, w32, w64, Fits, SFits, rules}
use Rattle.std.proofs.lemmas.Bool.{eqb-true}
use Rattle.semantics.specs.Shapes.{size}
use Rattle.semantics.specs.OrderLaws.{dot}
use Rattle.views.specs.Views.{number_from}
use Rattle.std.proofs.lemmas.Int.{to_z-of_z}
use Rattle.views.proofs.Copies.{some_room, walk_steps, walk_next}
use Rattle.views.proofs.CopyAxes.{rest, copied_none, walk_point, copied_point, row_walk, row_copied, walk_split, copied_join, split, split_place, part_fits, axes_more, axes_part, axes_done, length_mid, length_rest}
use Rattle.views.proofs.copying.+copy_axes.Goals as goal

pub returns-then-is_empty : goal.returns-then-is_empty
returns-then-is_empty t c = copied_none (sym c.requires.room ∙ eqb-true _ _ (sym c.if-is_empty.ensures))

pub number_at-requires : goal.number_at-requires
number_at-requires t c = walk_point c.requires.walk (omega (arith, c.in-empty.len_below))

pub returns-in-empty : goal.returns-in-empty
returns-in-empty t c = copied_point c.number_at.result c.args.out.now (omega (arith, c.in-empty.len_below)) (some_room _ c.if-is_empty.ensures) c.number_at.ensures

pub copy_row-requires : goal.copy_row-requires
copy_row-requires t c =
    let f : SFits w64 (get_or c.args.strides.now 0 (pos 0)) = search rules in
    row_walk c.args.lens.now c.args.strides.now (length c.args.out.now) c.requires.walk (omega (arith, c.in-len1.len_at_least, c.in-len1.len_below)) (omega arith) c.requires.room f

pub returns-in-len1 : goal.returns-in-len1
returns-in-len1 t c =
    let f : SFits w64 (get_or c.args.strides.now 0 (pos 0)) = search rules in
    row_copied c.args.lens.now c.args.strides.now (length c.args.out.now) c.copy_row.new.out (omega (arith, c.in-len1.len_at_least, c.in-len1.len_below)) (omega arith) c.requires.room f c.copy_row.ensures

pub nonzero_div-below : goal.nonzero_div-below
nonzero_div-below t c = (split c.args.lens.now (length c.args.out.now) (omega arith) c.requires.room (some_room _ c.if-is_empty.ensures)).some

pub step_to-requires : goal.step_to-requires
step_to-requires t c =
    let p = split c.args.lens.now (length c.args.out.now) (omega arith) c.requires.room (some_room _ c.if-is_empty.ensures) in
    let f : SFits w64 (get_or c.args.strides.now 0 (pos 0)) = search rules in
    let near : Fits w32 (get_or c.args.lens.now 0 0) = c.type_inv.lens 0 in
    walk_steps (walk_split c.requires.walk (omega arith) (omega arith)) c.loop-i.i f (omega arith) (omega arith) (split_place p)

-- the part of index i, in what there is room for
room : (s out : List ℕ) (i : ℕ) → 0 < length s → length out ≡ size s → 0 < length out → i < get_or s 0 0 → i * (length out / get_or s 0 0) + length out / get_or s 0 0 ≤ length out
room s out i l e some h =
    let p = split s (length out) l e some in
    part_fits i (get_or s 0 0) (length out / get_or s 0 0) (length out) h (p.whole ∙ ap (λ m. get_or s 0 0 * m) (sym p.below))

pub overflow_mul-first : goal.overflow_mul-first
overflow_mul-first t c = record { fits = omega (arith, room c.args.lens.now c.args.out.now c.loop-i.i (omega arith) c.requires.room (some_room _ c.if-is_empty.ensures) c.loop-i-test.true) }

pub overflow_add-first : goal.overflow_add-first
overflow_add-first t c = record { fits = omega (arith, room c.args.lens.now c.args.out.now c.loop-i.i (omega arith) c.requires.room (some_room _ c.if-is_empty.ensures) c.loop-i-test.true) }

pub offset_bounds-out-first : goal.offset_bounds-out-first
offset_bounds-out-first t c =
    let fits = room c.args.lens.now c.args.out.now c.loop-i.i (omega arith) c.requires.room (some_room _ c.if-is_empty.ensures) c.loop-i-test.true in record { fits = omega arith }

pub slice_bounds-copy_axes-end-in-loop-i : goal.slice_bounds-copy_axes-end-in-loop-i
slice_bounds-copy_axes-end-in-loop-i t c =
    omega (arith, room c.args.lens.now c.args.out.now c.loop-i.i (omega arith) c.requires.room (some_room _ c.if-is_empty.ensures) c.loop-i-test.true)

pub copy_axes-requires : goal.copy_axes-requires
copy_axes-requires t c =
    let s = c.args.lens.now in
    let zs = c.args.strides.now in
    let n = length c.args.out.now in
    let m = n / get_or s 0 0 in
    let p = split s n (omega arith) c.requires.room (some_room _ c.if-is_empty.ensures) in
    let f : SFits w64 (get_or zs 0 (pos 0)) = search rules in
    let fits = room s c.args.out.now c.loop-i.i (omega arith) c.requires.room (some_room _ c.if-is_empty.ensures) c.loop-i-test.true in
    let same = ap (λ z. pos c.args.from +ℤ z *ℤ pos c.loop-i.i) (sym (to_z-of_z w64 (get_or zs 0 (pos 0)) f)) ∙ c.step_to.ensures in (
      omega (arith, length_rest s, c.decreases),
      (
        omega (arith, length_rest s, length_rest zs),
        (
          walk_next (walk_split c.requires.walk (omega arith) (omega arith)) c.loop-i.i c.step_to.result c.loop-i-test.true same,
          length_mid (c.loop-i.i * m) m c.loop-i.out (omega arith) ∙ p.below,
        ),
      ),
    )

pub loop-i-preserved : goal.loop-i-preserved
loop-i-preserved t c =
    let s = c.args.lens.now in
    let zs = c.args.strides.now in
    let n = length c.args.out.now in
    let m = n / get_or s 0 0 in
    let p = split s n (omega arith) c.requires.room (some_room _ c.if-is_empty.ensures) in
    let f : SFits w64 (get_or zs 0 (pos 0)) = search rules in
    let fits = room s c.args.out.now c.loop-i.i (omega arith) c.requires.room (some_room _ c.if-is_empty.ensures) c.loop-i-test.true in
    axes_more (λ j is. number_from c.args.source c.args.lent.area.now c.args.lent.bytes.now (nat_abs (pos c.args.from +ℤ get_or zs 0 (pos 0) *ℤ pos j +ℤ dot (rest zs) is)))
    (rest s) m c.loop-i.i _ c.loop-i.out c.copy_axes.new.out p.below (omega arith) (c.copy_axes.auto.out ∙ length_mid (c.loop-i.i * m) m c.loop-i.out (omega arith)) c.loop-i.invariant
    (axes_part c.args.from c.loop-i.i f c.step_to.ensures c.copy_axes.ensures)

pub returns-after-loop-i : goal.returns-after-loop-i
returns-after-loop-i t c =
    let s = c.args.lens.now in
    let n = length c.args.out.now in
    let p = split s n (omega arith) c.requires.room (some_room _ c.if-is_empty.ensures) in
    copied_join (omega arith) (omega arith) (axes_done (n / get_or s 0 0) p.below (λ j l is h. c.loop-i.invariant j (omega arith) is h))
