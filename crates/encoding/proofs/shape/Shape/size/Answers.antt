use Rattle.std.proofs.Common.{◌≡◌, ◌*◌, min, ap, ◌∙◌, one-mul, rules}
use Rattle.std.specs.List.{fold}
use Rattle.std.proofs.iter.runs.Made.{chains}
use Rattle.encoding.specs.ShapeOf.{shape_of}
use Rattle.encoding.proofs.Sizes.{size_capped}
use Rattle.encoding.proofs.shape.Shape.size.Goals as goal

pub returns : goal.returns
returns c =
    let ran : c.fold.result ≡ fold (λ q d. min (q * d) 18446744073709551615) 1 (shape_of c.args.self.now) = search (rules, chains) in
    ran ∙ (size_capped (shape_of c.args.self.now) 1 18446744073709551615 ∙ ap (λ n. min n 18446744073709551615) (one-mul _))
