use Rattle.std.proofs.Common.{◌<◌, get_or, vec_items, sym, refl, ap, ◌∙◌, arith}
use Rattle.semantics.specs.Shapes.{size, flat}
use Rattle.semantics.specs.Arrays.{Alike, shape_array}
use Rattle.semantics.proofs.Places.{inside_in, flat_below, flat_unflat}
use Rattle.encoding.specs.ShapeOf.{shape_of}
use Rattle.reference.proofs.restructure.reshape.Goals as goal

pub returns : goal.returns
unfolding Alike shape_array
returns c =
    let old = c.args.array.now in
    let copied = c.in_ok-numbers.ensures.items ∙ c.as_slice.ensures.value in (
      refl,
      λ is h.
          let low : flat (shape_of c.args.shape) is < size (shape_of old.shape) = omega (arith, flat_below (inside_in _ _ h), c.requires.full) in
          ap (λ xs. get_or xs (flat (shape_of c.args.shape) is) 0) copied ∙ ap (λ n. get_or (vec_items old.numbers) n 0) (sym (flat_unflat (shape_of old.shape) (flat (shape_of c.args.shape) is) low)),
    )
