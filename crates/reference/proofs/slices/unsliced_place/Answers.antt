use Rattle.std.proofs.Common.{◌≡◌, ◌/◌, false, length, get_or, take, sym, ap, ◌∙◌, arith}
use Rattle.std.proofs.lemmas.List.{length-take-le, get_or-take}
use Rattle.semantics.specs.Parts.{apart}
use Rattle.semantics.specs.declared.slice.Slice.{Slice}
use Rattle.reference.specs.IndicesOf.{indices_of}
use Rattle.semantics.specs.Slices.{part_of}
use Rattle.encoding.proofs.Filling.{filled_more, filled_all}
use Rattle.reference.proofs.Slicing.{stepping_at, length_which_one, get_d_which_one}
use Rattle.reference.proofs.slices.unsliced_place.Goals as goal

-- what a read of no slice would give
abbrev none : Slice
none = record { from = 0; backward = false; step = 0; many = 0 }

pub nonzero_div-indices : goal.nonzero_div-indices
nonzero_div-indices c = stepping_at none c.args.slices.now c.loop-k.k c.requires.steps c.loop-k-test.true

pub loop-k-preserved : goal.loop-k-preserved
loop-k-preserved c =
    let xs = c.args.slices.now in
    let p = c.args.place.now in
    let k = c.loop-k.k in
    let long : length (indices_of p) ≡ p.rank = length-take-le p.rank p.indices (omega arith) in
    let axes = c.requires.axes in
    filled_more _ c.loop-k.invariant (omega arith)
    (ap (λ n. n / (get_or xs k none).step) (c.distance.ensures ∙ ap (λ i. apart (part_of (get_or xs k none)) i) (sym (get_or-take p.rank p.indices k 0 (omega arith)))) ∙ sym (get_d_which_one none xs (indices_of p) k c.loop-k-test.true axes))

pub returns : goal.returns
returns c =
    let xs = c.args.slices.now in
    let p = c.args.place.now in
    let all : c.loop-k.k ≡ length xs = omega arith in
    let long : length (indices_of p) ≡ p.rank = length-take-le p.rank p.indices (omega arith) in
    let axes = c.requires.axes in
    ap (λ r. take r c.loop-k.indices) (sym all) ∙ filled_all c.loop-k.invariant (omega arith) (length_which_one xs (indices_of p) axes ∙ sym all)
