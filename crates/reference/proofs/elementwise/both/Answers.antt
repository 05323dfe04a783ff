use Rattle.std.proofs.Common.{ap, subst, arith}
use Rattle.semantics.specs.Shapes.{size, In}
use Rattle.semantics.specs.Arrays.{both_array}
use Rattle.semantics.proofs.Inside.{spreads_left, spreads_right}
use Rattle.encoding.specs.ShapeOf.{shape_of}
use Rattle.reference.proofs.Broadcasting.{reaches}
use Rattle.reference.proofs.Tables.{made_shaped}
use Rattle.reference.proofs.elementwise.both.Goals as goal

pub tabulate-requires : goal.tabulate-requires
tabulate-requires c =
    let s = shape_of c.args.left.now.shape in
    let t = shape_of c.args.right.now.shape in
    let wider = c.in-Some.ensures in
    record {
      small = omega (arith, ap size wider.1, c.requires.small);
      sourced = λ is h. let i = subst (λ w. In w is) wider.1 h in (reaches (spreads_left s t) i, reaches (spreads_right s t c.requires.fits) i);
    }

pub returns : goal.returns
unfolding both_array
returns c = made_shaped c.tabulate.result _ c.in-Some.ensures.1 c.tabulate.ensures
