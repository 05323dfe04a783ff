use Rattle.std.proofs.Common.{sym, ap, ◌∙◌, subst}
use Rattle.semantics.specs.Shapes.{In}
use Rattle.semantics.specs.Orders.{is_order}
use Rattle.semantics.proofs.Inside.{inside_turned_back}
use Rattle.semantics.proofs.Orders.{ordered, length_turned}
use Rattle.semantics.proofs.Places.{inside_in, in_inside, length_inside}
use Rattle.encoding.specs.ShapeOf.{shape_of}
use Rattle.reference.proofs.restructure.TransposedSource.number.Goals as goal

pub untransposed_place-requires : goal.untransposed_place-requires
untransposed_place-requires c =
    let s = shape_of c.args.self.now.array.now.shape in
    let os = c.args.self.now.order.now in
    let long = length_inside (inside_in _ _ c.requires.1) ∙ (length_turned os s ∙ (ordered os _ c.requires.0).long) in
    record { order = ap (is_order os) long ∙ c.requires.0 }

pub get-requires : goal.get-requires
get-requires c =
    let s = shape_of c.args.self.now.array.now.shape in
    let os = c.args.self.now.order.now in
    record { inside = subst (λ is. In s is) (sym c.untransposed_place.ensures) (in_inside (inside_turned_back os s _ c.requires.0 (inside_in _ _ c.requires.1))) }
