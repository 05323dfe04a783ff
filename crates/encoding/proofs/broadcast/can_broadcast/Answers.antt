use Rattle.std.proofs.Common.{◌∙◌, rules, tests}
use Rattle.std.proofs.lemmas.Iterator.{YieldsList-from_zip}
use Rattle.std.proofs.lemmas.Iterator.Adapters.{YieldsList-from_rev_slice}
use Rattle.std.proofs.lemmas.Iterator.Search.{all_from_yields_List}
use Rattle.encoding.specs.ShapeOf.{shape_of}
use Rattle.encoding.proofs.Widening.{fits_one, fits_zip}
use Rattle.encoding.proofs.broadcast.can_broadcast.Goals as goal

pub returns : goal.returns
returns c =
    let s = shape_of c.args.left.now in
    let t = shape_of c.args.right.now in
    all_from_yields_List (λ q. fits_one q.0 q.1) c.all.new.self _ _ c.all.ensures.ran (YieldsList-from_zip (YieldsList-from_rev_slice s cc) (YieldsList-from_rev_slice t cc)) (λ x b q k. search (rules, tests))
    ∙ fits_zip s t
