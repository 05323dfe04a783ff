use Rattle.std.proofs.Common.{◌≡◌, ltb, length, ◌∙◌, arith, rules, tests}
use Rattle.std.proofs.lemmas.Bool.{eqb-true}
use Rattle.std.proofs.lemmas.Iterator.{YieldsList-from_slice, YieldsList-from_zip}
use Rattle.std.proofs.lemmas.Iterator.Search.{all_from_yields_List}
use Rattle.std.proofs.lemmas.List.{length-take-le}
use Rattle.semantics.specs.Shapes.{In}
use Rattle.encoding.specs.ShapeOf.{shape_of}
use Rattle.views.proofs.Within.{place_decided}
use Rattle.views.proofs.place.is_place.Goals as goal

pub returns-then-place-shape : goal.returns-then-place-shape
returns-then-place-shape c =
    let s = shape_of c.args.shape in
    let is = c.args.place.now in
    let long : length s ≡ c.args.shape.rank = length-take-le c.args.shape.rank c.args.shape.lens (omega arith) in
    let ran = all_from_yields_List (λ q. ltb q.0 q.1) c.all.new.self _ c.all.result c.all.ensures.ran (YieldsList-from_zip (YieldsList-from_slice is cc) (YieldsList-from_slice s cc)) (λ x b q k. search (rules, tests)) in
    rw ran (place_decided s is (omega arith))

pub returns-else-place-shape : goal.returns-else-place-shape
unfolding In
returns-else-place-shape c =
    let long : length (shape_of c.args.shape) ≡ c.args.shape.rank = length-take-le c.args.shape.rank c.args.shape.lens (omega arith) in
    (λ e. absurd (c.if-place-shape.false (eqb-true _ _ e)), λ h. absurd (c.if-place-shape.false (h.0 ∙ long)))
