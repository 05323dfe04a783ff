use Rattle.std.proofs.Common.{◌≡◌, ◌+◌, true, false, length, get_or, sym, ap, ◌∙◌, arith}
use Rattle.semantics.specs.Shapes.{same, without}
use Rattle.encoding.specs.ShapeOf.{shape_of}
use Rattle.reference.specs.ArrayOf.{array_of}
use Rattle.reference.proofs.Joining.{not_joinable, joinable_by}
use Rattle.reference.proofs.concat.joinable.Goals as goal

pub returns-then-rank : goal.returns-then-rank
returns-then-rank c =
    sym (not_joinable c.args.axis (array_of c.args.left.now) (array_of c.args.right.now) (λ e. c.if-rank.true (c.rank.ensures ∙ (e ∙ sym c.rank-2.ensures))))

pub returns-then-others : goal.returns-then-others
returns-then-others c =
    let s = shape_of c.args.left.now.shape in
    let t = shape_of c.args.right.now.shape in
    let ranks : length s ≡ length t = omega arith in
    let total : c.from.result + c.from-2.result ≡ get_or s c.args.axis 0 + get_or t c.args.axis 0 = omega arith in
    let others = c.if-others.ensures ∙ (ap (λ u. same u (shape_of c.remove_axis-2.result)) c.remove_axis.ensures ∙ ap (λ u. same (without c.args.axis s) u) c.remove_axis-2.ensures) in
    joinable_by c.args.axis (array_of c.args.left.now) (array_of c.args.right.now) true (c.from.result + c.from-2.result) ranks others total

pub returns-else-others : goal.returns-else-others
returns-else-others c =
    let s = shape_of c.args.left.now.shape in
    let t = shape_of c.args.right.now.shape in
    let ranks : length s ≡ length t = omega arith in
    let total : c.from.result + c.from-2.result ≡ get_or s c.args.axis 0 + get_or t c.args.axis 0 = omega arith in
    let others = c.if-others.ensures ∙ (ap (λ u. same u (shape_of c.remove_axis-2.result)) c.remove_axis.ensures ∙ ap (λ u. same (without c.args.axis s) u) c.remove_axis-2.ensures) in
    c.if-others.false ∙ joinable_by c.args.axis (array_of c.args.left.now) (array_of c.args.right.now) false (c.from.result + c.from-2.result) ranks others total
