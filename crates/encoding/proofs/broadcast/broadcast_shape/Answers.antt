use Rattle.std.proofs.Common.{◌≡◌, max, length, refl, subst, arith}
use Rattle.std.proofs.lemmas.List.{length-take-le}
use Rattle.encoding.specs.ShapeOf.{shape_of}
use Rattle.encoding.proofs.Widening.{Widening, widening_none, widening_more, widened}
use Rattle.encoding.proofs.broadcast.broadcast_shape.Goals as goal

pub loop-k-init : goal.loop-k-init
loop-k-init c = widening_none _ _ _ _ refl

pub loop-k-preserved : goal.loop-k-preserved
loop-k-preserved c =
    widening_more (shape_of c.args.left.now) (shape_of c.args.right.now) c.loop-k.lens c.max-rank.result c.loop-k.k c.length_from_last.result c.length_from_last-in-loop-k.result c.wider.result (omega arith) (omega arith) c.length_from_last.ensures c.length_from_last-in-loop-k.ensures c.wider.ensures c.loop-k.invariant

pub returns : goal.returns
returns c =
    let s = c.args.left.now in
    let t = c.args.right.now in
    let l : length (shape_of s) ≡ s.rank = length-take-le s.rank s.lens (omega arith) in
    let m : length (shape_of t) ≡ t.rank = length-take-le t.rank t.lens (omega arith) in
    let all : c.loop-k.k ≡ c.max-rank.result = omega arith in
    let most : c.max-rank.result ≡ max (length (shape_of s)) (length (shape_of t)) = omega arith in
    widened (shape_of s) (shape_of t) c.loop-k.lens c.max-rank.result most (subst (λ k. Widening (shape_of s) (shape_of t) c.loop-k.lens c.max-rank.result k) all c.loop-k.invariant) (omega arith)
