use Rattle.std.proofs.Common.{◌≡◌, ℕ, min, List, length, take, pos, sym, refl, ap, ◌∙◌, subst, arith, length-take}
use Rattle.std.proofs.lemmas.List.{length-map}
use Rattle.semantics.specs.Shapes.{size, In, unflat}
use Rattle.semantics.specs.Parts.{part_shape, places_of}
use Rattle.semantics.proofs.Places.{Inside, in_inside, inside_unflat}
use Rattle.semantics.proofs.Parts.{fitted}
use Rattle.encoding.specs.ShapeOf.{shape_of}
use Rattle.views.specs.Views.{address}
use Rattle.semantics.specs.declared.slice.Slice.{Slice}
use Rattle.semantics.specs.Slices.{part_of, parts_of}
use Rattle.views.specs.Slicing.{froms}
use Rattle.views.proofs.Seeing.{sees_none}
use Rattle.views.proofs.Slices.{fit_length, length_froms, part_holds, inside_froms, all_steps, slice_sees}
use Rattle.views.proofs.slice.slice.Goals as goal

pub slice_shape-shape-requires : goal.slice_shape-shape-requires
slice_shape-shape-requires c =
    omega (arith, fit_length c.args.slices.now (shape_of c.args.view.shape) c.requires.fit, length-take c.args.view.shape.rank c.args.view.shape.lens, c.args.view.shape.few)

pub returns-then-size-eq0 : goal.returns-then-size-eq0
returns-then-size-eq0 c =
    let ps = parts_of c.args.slices.now in
    let none : size (part_shape ps) ≡ 0 = sym (ap size c.slice_shape-shape.ensures) ∙ omega arith in
    let sees = sees_none c.args.view _ (part_shape ps) (places_of ps) c.requires.good c.requires.good.begins c.slice_shape-shape.ensures refl refl refl none in
    record { sees = sees; holds = λ area bs a h. part_holds ps h sees }

pub first_of_slices-first-requires : goal.first_of_slices-first-requires
first_of_slices-first-requires c =
    omega (arith, fit_length c.args.slices.now (shape_of c.args.view.shape) c.requires.fit, length-take c.args.view.shape.rank c.args.view.shape.lens, c.args.view.shape.few)

-- as many first places as axes
first_places : (xs : List Slice) (first : List ℕ) → take (length xs) first ≡ froms (parts_of xs) → length (take (length xs) first) ≡ length xs
first_places xs first e = ap length e ∙ (length_froms (parts_of xs) ∙ length-map xs part_of)

pub slice_bounds-first-end : goal.slice_bounds-first-end
slice_bounds-first-end c =
    let xs = c.args.slices.now in
    let first = c.first_of_slices-first.result in
    omega (arith, first_places xs first c.first_of_slices-first.ensures, length-take (length xs) first)

pub slice_bounds-address_of-end : goal.slice_bounds-address_of-end
slice_bounds-address_of-end c = sym (first_places c.args.slices.now c.first_of_slices-first.result c.first_of_slices-first.ensures)

-- the first of the places that are there
some_place : (s t : List ℕ) (n : ℕ) → s ≡ t → n ≡ min (size s) 18446744073709551615 → (n ≡ 0 → ⊥) → Inside t (unflat t 0)
some_place s t n e f some = subst (λ u. Inside u (unflat u 0)) e (inside_unflat s 0 (omega arith))

pub address_of-requires : goal.address_of-requires
address_of-requires c =
    let ps = parts_of c.args.slices.now in
    let n = length c.args.slices.now in
    let s = shape_of c.args.view.shape in
    let f = fitted ps s c.requires.fit in
    let some = some_place (shape_of c.slice_shape-shape.result) (part_shape ps) c.size.result c.slice_shape-shape.ensures c.size.ensures c.if-size-eq0.false in
    record {
      good = c.requires.good;
      there = subst (λ is. In s is) (sym c.first_of_slices-first.ensures) (in_inside (inside_froms f some));
    }

pub strides_of_slices-requires : goal.strides_of_slices-requires
strides_of_slices-requires c =
    let ps = parts_of c.args.slices.now in
    let v = c.args.view in
    let s = shape_of v.shape in
    let f = fitted ps s c.requires.fit in
    let some = some_place (shape_of c.slice_shape-shape.result) (part_shape ps) c.size.result c.slice_shape-shape.ensures c.size.ensures c.if-size-eq0.false in
    let long = fit_length c.args.slices.now s c.requires.fit in
    let rank = length-take v.shape.rank v.shape.lens in
    record {
      few = omega (arith, v.shape.few);
      steps = all_steps c.requires.good.short c.args.slices.now s (froms ps) v.strides (pos v.start) c.requires.good.walks (inside_froms f some) f long (omega (arith, v.shape.few));
    }

pub returns : goal.returns
returns c =
    let ps = parts_of c.args.slices.now in
    let n = length c.args.slices.now in
    let v = c.args.view in
    let s = shape_of v.shape in
    let f = fitted ps s c.requires.fit in
    let some = some_place (shape_of c.slice_shape-shape.result) (part_shape ps) c.size.result c.slice_shape-shape.ensures c.size.ensures c.if-size-eq0.false in
    let first = ap (address v) (sym c.first_of_slices-first.ensures) ∙ c.address_of.ensures in
    let sees = slice_sees v _ ps c.requires.good f some c.slice_shape-shape.ensures refl refl refl first (ap (λ m. take m c.strides_of_slices.result) (length-map c.args.slices.now part_of) ∙ c.strides_of_slices.ensures) in
    record { sees = sees; holds = λ area bs a h. part_holds ps h sees }
