use Rattle.std.proofs.Common.{ap, ◌∙◌, subst, arith}
use Rattle.semantics.specs.Shapes.{size, In}
use Rattle.semantics.specs.Broadcast.{wide}
use Rattle.semantics.specs.Arrays.{choose_array}
use Rattle.semantics.proofs.Inside.{spreads_left_left, spreads_right_left, spreads_right}
use Rattle.encoding.specs.ShapeOf.{shape_of}
use Rattle.reference.proofs.Broadcasting.{reaches}
use Rattle.reference.proofs.Tables.{made_shaped}
use Rattle.reference.proofs.elementwise.choose.Goals as goal

pub tabulate-requires : goal.tabulate-requires
tabulate-requires c =
    let s = shape_of c.args.test.now.shape in
    let t = shape_of c.args.yes.now.shape in
    let u = shape_of c.args.other.now.shape in
    let e = c.in-Some-broadcast.ensures.1 ∙ ap (λ w. wide w u) c.in-Some.ensures.1 in
    record {
      small = omega (arith, ap size e, c.requires.small);
      sourced = λ is h.
          let i = subst (λ w. In w is) e h in
          (reaches (spreads_left_left s t u) i, reaches (spreads_right_left s t u c.requires.fits) i, reaches (spreads_right (wide s t) u c.requires.fits_all) i);
    }

pub returns : goal.returns
unfolding choose_array
returns c =
    let u = shape_of c.args.other.now.shape in
    let e = c.in-Some-broadcast.ensures.1 ∙ ap (λ w. wide w u) c.in-Some.ensures.1 in
    made_shaped c.tabulate.result _ e c.tabulate.ensures
