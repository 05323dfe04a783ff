use Rattle.std.proofs.Common.{◌≡◌, ◌-◌, ◌<◌, [], ◌∷◌, ◌++◌, length, get_or, take, pos, sym, ap, ◌∙◌, subst, arith, get_or-take, w64, SFits, rules}
use Rattle.std.proofs.lemmas.Nat.{mod_below}
use Rattle.std.proofs.lemmas.List.{length-take-le}
use Rattle.std.proofs.lemmas.Int.{to_z-of_z}
use Rattle.semantics.specs.Shapes.{size}
use Rattle.semantics.proofs.Places.{Inside, in_inside, inside_unflat}
use Rattle.encoding.specs.ShapeOf.{shape_of}
use Rattle.views.specs.Views.{address}
use Rattle.kernels.proofs.Numbering.{last_axis, last_some}
use Rattle.kernels.proofs.Readings.{row_of}
use Rattle.kernels.proofs.rows.row_at.Goals as goal

pub address_of-from-requires : goal.address_of-from-requires
address_of-from-requires c =
    let v = c.args.view.now in
    let w = shape_of v.shape in
    let whole : v.shape.rank - 0 ≡ v.shape.rank = omega arith in
    record {
      good = c.requires.good;
      there = in_inside (subst (Inside w) (sym (ap (λ n. take n c.place_of-place.result) whole ∙ c.place_of-place.ensures)) (inside_unflat w c.args.number c.requires.there));
    }

axes : (c : goal.After-result-1) → shape_of c.args.view.now.shape ≡ take (c.args.view.now.shape.rank - 1) (shape_of c.args.view.now.shape) ++ get_or c.args.view.now.shape.lens (c.args.view.now.shape.rank - 1) 0 ∷ []
axes c =
    let s = c.args.view.now.shape in
    let w = shape_of s in
    let some : 0 < s.rank = omega arith in
    let low : s.rank - 1 < s.rank = omega arith in
    last_axis w s.rank (length-take-le s.rank s.lens (omega arith)) some ∙ ap (λ d. take (s.rank - 1) w ++ d ∷ []) (get_or-take s.rank s.lens (s.rank - 1) 0 low)

below : (c : goal.After-result-1) → c.args.number < size (take (c.args.view.now.shape.rank - 1) (shape_of c.args.view.now.shape) ++ get_or c.args.view.now.shape.lens (c.args.view.now.shape.rank - 1) 0 ∷ [])
below c = subst (λ s. c.args.number < size s) (axes c) c.requires.there

pub nonzero_rem-result : goal.nonzero_rem-result
nonzero_rem-result c = last_some _ _ _ (below c)

pub overflow_sub-result-2 : goal.overflow_sub-result-2
overflow_sub-result-2 c =
    let some = last_some _ _ _ (below c) in
    omega (arith, mod_below c.args.number (get_or c.args.view.now.shape.lens (c.args.view.now.shape.rank - 1) 0) some)

pub returns : goal.returns
returns c =
    let v = c.args.view.now in
    let w = shape_of v.shape in
    let r = v.shape.rank in
    let whole : r - 0 ≡ r = omega arith in
    let long : length (take (r - 1) w) ≡ r - 1 = length-take-le (r - 1) w (omega (arith, length-take-le r v.shape.lens (omega arith))) in
    let f : SFits w64 (get_or v.strides (r - 1) (pos 0)) = search rules in
    row_of v (take (r - 1) w) (get_or v.shape.lens (r - 1) 0) c.args.number c.address_of-from.result _ (axes c) c.requires.there
    (ap (λ k. get_or v.strides k (pos 0)) long ∙ sym (to_z-of_z w64 (get_or v.strides (r - 1) (pos 0)) f))
    (ap (address v) (sym (ap (λ n. take n c.place_of-place.result) whole ∙ c.place_of-place.ensures)) ∙ c.address_of-from.ensures)
