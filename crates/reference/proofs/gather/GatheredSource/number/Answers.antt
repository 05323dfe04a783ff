use Rattle.std.proofs.Common.{◌≡◌, ℕ, ◌+◌, ◌-◌, ◌<◌, List, ◌∷◌, ◌++◌, length, get_or, take, drop, sym, ap, ◌∙◌, subst, arith, length-append, length-drop}
use Rattle.semantics.specs.Shapes.{In}
use Rattle.semantics.proofs.Places.{Inside, inside_in, in_inside, length_inside}
use Rattle.semantics.proofs.Inside.{inside_take}
use Rattle.numbers.specs.Operations.{binary64}
use Rattle.encoding.specs.ShapeOf.{shape_of}
use Rattle.reference.specs.ArrayOf.{array_of}
use Rattle.reference.specs.IndicesOf.{indices_of}
use Rattle.reference.proofs.Gathering.{row_below, inside_row}
use Rattle.reference.proofs.Measures.{shape_few}
use Rattle.reference.proofs.gather.GatheredSource.number.Goals as goal

length_place : (s t is : List ℕ) → Inside (t ++ drop 1 s) is → length is ≡ length t + (length s - 1)
length_place s t is h = length_inside h ∙ (length-append t (drop 1 s) ∙ ap (λ n. length t + n) (length-drop 1 s))

pub first_axes-requires : goal.first_axes-requires
first_axes-requires c =
    let s = shape_of c.args.self.now.array.now.shape in
    let t = shape_of c.args.self.now.rows.now.shape in
    record { there = omega (arith, length_place s t _ (inside_in _ _ c.requires.2)) }

pub get-requires : goal.get-requires
get-requires c =
    let s = shape_of c.args.self.now.array.now.shape in
    let t = shape_of c.args.self.now.rows.now.shape in
    let is = indices_of c.args.place.now in
    let front = c.first_axes.ensures ∙ ap (λ n. take n is) c.rank-front.ensures in
    record { inside = subst (λ js. In t js) (sym front) (in_inside (inside_take t (drop 1 s) (inside_in _ _ c.requires.2))) }

pub unreachable-requires : goal.unreachable-requires
unreachable-requires c =
    let a = c.args.self.now.array.now in
    let b = c.args.self.now.rows.now in
    let is = indices_of c.args.place.now in
    let t = shape_of b.shape in
    let front = c.first_axes.ensures ∙ ap (λ n. take n is) c.rank-front.ensures in
    let row = c.index-row.ensures ∙ ap (λ x. binary64.index x) (c.get.ensures ∙ ap (λ js. (array_of b).at js) front) in
    let below = row_below binary64 a b (take (length t) is) c.requires.1 (inside_take t (drop 1 (shape_of a.shape)) (inside_in _ _ c.requires.2)) in
    omega arith

pub row_place-requires : goal.row_place-requires
row_place-requires c =
    let s = shape_of c.args.self.now.array.now.shape in
    let t = shape_of c.args.self.now.rows.now.shape in
    let few = shape_few c.args.self.now.array.now.shape in
    let all = length_place s t _ (inside_in _ _ c.requires.2) in
    record { there = omega arith; few = omega arith }

pub get-requires-2 : goal.get-requires-2
get-requires-2 c =
    let s = shape_of c.args.self.now.array.now.shape in
    let t = shape_of c.args.self.now.rows.now.shape in
    let is = indices_of c.args.place.now in
    let at = c.row_place.ensures ∙ ap (λ n. c.index-row.result ∷ drop n is) c.rank-front.ensures in
    let below : c.index-row.result < get_or s 0 0 = omega arith in
    record { inside = subst (λ js. In s js) (sym at) (in_inside (inside_row c.index-row.result s t is c.requires.0 below (inside_in _ _ c.requires.2))) }
