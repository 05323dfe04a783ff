use Rattle.std.proofs.Common.{◌≡◌, ◌≤◌, true, false, List, length, get_or, take, sym, ap, ◌∙◌, arith}
use Rattle.std.proofs.lemmas.List.{length-take-le, get_or-take}
use Rattle.semantics.specs.Shapes.{In}
use Rattle.semantics.specs.Parts.{place_of, part_fits, parts_fit, part_shape}
use Rattle.semantics.proofs.Places.{inside_in, length_inside, get_d_inside}
use Rattle.encoding.specs.declared.shape.Shape.{Shape}
use Rattle.encoding.specs.ShapeOf.{shape_of}
use Rattle.reference.specs.declared.place.Place.{Place}
use Rattle.semantics.specs.declared.slice.Slice.{Slice}
use Rattle.reference.specs.IndicesOf.{indices_of}
use Rattle.semantics.specs.Slices.{part_of, parts_of}
use Rattle.encoding.proofs.Filling.{filled_more, filled_all}
use Rattle.encoding.proofs.Parting.{length_part_shape, get_d_part_shape}
use Rattle.reference.proofs.Slicing.{slices_length, fits_at, length_places_of, get_d_places_of}
use Rattle.reference.proofs.slices.sliced_place.Goals as goal

-- what a read of no slice would give
abbrev none : Slice
none = record { from = 0; backward = false; step = 0; many = 0 }

module _ (xs : List Slice) (s : Shape) (p : Place) (long : s.rank ≤ length s.lens) (much : p.rank ≤ length p.indices) (fits : parts_fit (parts_of xs) (shape_of s) ≡ true) (inside : In (part_shape (parts_of xs)) (indices_of p)) where
  shape_rank : length (shape_of s) ≡ s.rank
  shape_rank = length-take-le s.rank s.lens long

  slices_rank : length xs ≡ s.rank
  slices_rank = slices_length xs (shape_of s) fits ∙ shape_rank

  place_rank : length (indices_of p) ≡ length xs
  place_rank = length_inside (inside_in _ _ inside) ∙ length_part_shape xs

  same_rank : p.rank ≡ s.rank
  same_rank = sym (length-take-le p.rank p.indices much) ∙ (place_rank ∙ slices_rank)

pub bounds-shape-k : goal.bounds-shape-k
bounds-shape-k c = omega (arith, slices_rank c.args.slices.now c.args.shape.now c.args.place.now (omega arith) (omega arith) c.requires.fits c.requires.inside)

pub bounds-place-k : goal.bounds-place-k
bounds-place-k c = omega (arith, slices_rank c.args.slices.now c.args.shape.now c.args.place.now (omega arith) (omega arith) c.requires.fits c.requires.inside)

pub bounds-indices-k : goal.bounds-indices-k
bounds-indices-k c = omega (arith, slices_rank c.args.slices.now c.args.shape.now c.args.place.now (omega arith) (omega arith) c.requires.fits c.requires.inside)

pub sliced_index-requires : goal.sliced_index-requires
sliced_index-requires c =
    let xs = c.args.slices.now in
    let s = c.args.shape.now in
    let p = c.args.place.now in
    let k = c.loop-k.k in
    let l = shape_rank xs s p (omega arith) (omega arith) c.requires.fits c.requires.inside in
    let m = slices_rank xs s p (omega arith) (omega arith) c.requires.fits c.requires.inside in
    let n = same_rank xs s p (omega arith) (omega arith) c.requires.fits c.requires.inside in
    let below = get_d_inside k (inside_in _ _ c.requires.inside) (omega (arith, length_part_shape xs)) in
    let many = get_d_part_shape none xs k (omega arith) in
    let index = get_or-take p.rank p.indices k 0 (omega arith) in
    record {
      fits = ap (λ d. part_fits (part_of (get_or xs k none)) d) (sym (get_or-take s.rank s.lens k 0 (omega arith))) ∙ fits_at none xs (shape_of s) k c.requires.fits (omega arith);
      inside = omega arith;
    }

pub loop-k-preserved : goal.loop-k-preserved
loop-k-preserved c =
    let xs = c.args.slices.now in
    let s = c.args.shape.now in
    let p = c.args.place.now in
    let k = c.loop-k.k in
    let m = slices_rank xs s p (omega arith) (omega arith) c.requires.fits c.requires.inside in
    let n = same_rank xs s p (omega arith) (omega arith) c.requires.fits c.requires.inside in
    let o = place_rank xs s p (omega arith) (omega arith) c.requires.fits c.requires.inside in
    filled_more c.sliced_index.result c.loop-k.invariant (omega arith)
    (c.sliced_index.ensures ∙ (ap (λ i. place_of (part_of (get_or xs k none)) i) (sym (get_or-take p.rank p.indices k 0 (omega arith))) ∙ sym (get_d_places_of none xs (indices_of p) k (omega arith) (omega arith))))

pub returns : goal.returns
returns c =
    let xs = c.args.slices.now in
    let s = c.args.shape.now in
    let p = c.args.place.now in
    let m = slices_rank xs s p (omega arith) (omega arith) c.requires.fits c.requires.inside in
    let o = place_rank xs s p (omega arith) (omega arith) c.requires.fits c.requires.inside in
    let all : c.loop-k.k ≡ s.rank = omega arith in
    ap (λ r. take r c.loop-k.indices) (sym all) ∙ filled_all c.loop-k.invariant (omega arith) (length_places_of xs (indices_of p) (omega arith) ∙ (m ∙ sym all))
