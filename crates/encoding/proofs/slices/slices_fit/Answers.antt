use Rattle.std.proofs.Common.{◌≡◌, length, ◌∙◌, arith, rules, tests}
use Rattle.std.proofs.lemmas.Iterator.{YieldsList-from_slice, YieldsList-from_zip}
use Rattle.std.proofs.lemmas.Iterator.Search.{all_from_yields_List}
use Rattle.std.proofs.lemmas.List.{length-take-le}
use Rattle.semantics.specs.Parts.{part_fits}
use Rattle.semantics.specs.Slices.{part_of}
use Rattle.encoding.specs.ShapeOf.{shape_of}
use Rattle.encoding.proofs.Parting.{all_parts_fit, slices_other}
use Rattle.encoding.proofs.slices.slices_fit.Goals as goal

pub returns-then-slices-shape : goal.returns-then-slices-shape
returns-then-slices-shape c =
    let s = c.args.shape.now in
    let xs = c.args.slices.now in
    let long : length (shape_of s) ≡ s.rank = length-take-le s.rank s.lens (omega arith) in
    let same : length xs ≡ length (shape_of s) = omega arith in
    all_from_yields_List (λ q. part_fits (part_of q.0) q.1) c.all.new.self _ _ c.all.ensures.ran (YieldsList-from_zip (YieldsList-from_slice xs cc) (YieldsList-from_slice (shape_of s) cc)) (λ x b q k. search (rules, tests))
    ∙ all_parts_fit xs (shape_of s) same

pub returns-else-slices-shape : goal.returns-else-slices-shape
returns-else-slices-shape c =
    let s = c.args.shape.now in
    let long : length (shape_of s) ≡ s.rank = length-take-le s.rank s.lens (omega arith) in
    let other = slices_other c.args.slices.now (shape_of s) (λ e. c.if-slices-shape.false (e ∙ long)) in
    search (rules, other)
