use Rattle.std.proofs.Common.{◌<◌, sym, refl, ap, ◌∙◌, subst, arith}
use Rattle.semantics.specs.Shapes.{size, flat}
use Rattle.semantics.specs.Arrays.{Alike}
use Rattle.semantics.proofs.Places.{inside_in, in_inside, inside_unflat, unflat_flat, flat_below}
use Rattle.encoding.specs.ShapeOf.{shape_of}
use Rattle.reference.proofs.tabulate.tabulate.Goals as goal

pub number-requires : goal.number-requires
number-requires g c =
    let below : c.loop-n.n < size (shape_of c.args.shape) = omega arith in
    let there = in_inside (inside_unflat (shape_of c.args.shape) c.loop-n.n below) in
    subst (λ is. g.S.Source.ready c.args.source.now is) (sym c.unflatten.ensures) (c.requires.sourced _ there)

pub returns : goal.returns
unfolding Alike
returns g c = (
  refl,
  λ is h.
      let i = inside_in _ _ h in
      let low = flat_below i in
      c.loop-n.invariant.1 (flat (shape_of c.args.shape) is) (omega arith) ∙ ap (λ js. g.S.Source.at c.args.source.now js) (unflat_flat i),
)
