use Rattle.std.proofs.Common.{nat_eq, ◌∙◌, ap₂}
use Rattle.std.specs.Cmp.Lexicographic.{pointwise}
use Rattle.encoding.specs.SameShape.{same_pointwise}
use Rattle.encoding.proofs.shape.methods.ShapePartialEq.eq.Goals as goal

pub returns : goal.returns
returns c = c.eq.ensures ∙ (ap₂ (pointwise nat_eq) c.lengths.ensures c.lengths-2.ensures ∙ same_pointwise _ _)
