use Rattle.std.proofs.Common.{get_or, refl, ap, ◌∙◌}
use Rattle.semantics.specs.Shapes.{flat}
use Rattle.semantics.specs.Arrays.{Alike}
use Rattle.encoding.specs.ShapeOf.{shape_of}
use Rattle.reference.proofs.array.Array.copy.Goals as goal

pub returns : goal.returns
unfolding Alike
returns c =
    let copied = c.in_ok-numbers.ensures.items ∙ c.as_slice.ensures.value in
    (refl, λ is h. ap (λ xs. get_or xs (flat (shape_of c.args.self.now.shape) is) 0) copied)
