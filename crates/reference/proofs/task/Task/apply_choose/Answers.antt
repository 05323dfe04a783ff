use Rattle.std.proofs.Common.{◌≡◌, ℕ, true, List, sym, refl, ap, ◌∙◌, subst, arith}
use Rattle.std.proofs.lemmas.Bool.{and_from, and_left, and_right}
use Rattle.semantics.specs.Shapes.{size}
use Rattle.semantics.specs.Broadcast.{fit, wide}
use Rattle.semantics.specs.Arrays.{choose_array}
use Rattle.semantics.specs.Values.{on_choose}
use Rattle.numbers.specs.Operations.{binary64}
use Rattle.encoding.specs.ShapeOf.{shape_of}
use Rattle.reference.specs.ArrayOf.{array_of}
use Rattle.reference.specs.Right.{right_fault}
use Rattle.reference.proofs.Rights.{right_if, right_else, right_too_many, right_taken, right_refusal, right_wanting, refused_as}
use Rattle.reference.proofs.task.Task.apply_choose.Goals as goal

pub returns-in_err-two : goal.returns-in_err-two
unfolding on_choose
returns-in_err-two c =
    let none = rw c.in_err-two.ensures.ok_part at c.broadcast.ensures in
    right_refusal c.from_residual.result c.from_residual.ensures.1 (refused_as c.broadcast.result _ _ c.in_err-two.ensures.ok_part c.in_err-two.ensures.value)
    (right_else _ _ _ (and_left _ _ none) (right_fault refl))

pub returns-in_err-shape : goal.returns-in_err-shape
unfolding on_choose
returns-in_err-shape c =
    let w = rw c.in_ok-two.ensures.ok_part at c.broadcast.ensures in
    let none = rw c.in_err-shape.ensures.ok_part at c.broadcast-2.ensures in
    right_refusal c.from_residual-in_err-shape.result c.from_residual-in_err-shape.ensures.1 (refused_as c.broadcast-2.result _ _ c.in_err-shape.ensures.ok_part c.in_err-shape.ensures.value)
    (right_else _ _ _ (and_right _ _ (ap (λ s. fit s (shape_of c.args.other.now.shape)) (sym w.1) ∙ none)) (right_fault refl))

-- both broadcasts, with the first as the meaning has it
wider : (s t u : List ℕ) {w v : List ℕ} → w ≡ wide s t → (fit w u ≡ true) × (v ≡ wide w u) → (fit (wide s t) u ≡ true) × (v ≡ wide (wide s t) u)
wider s t u {v = v} e k = subst (λ x. (fit x u ≡ true) × (v ≡ wide x u)) e k

pub returns-in_err-count : goal.returns-in_err-count
unfolding on_choose choose_array
returns-in_err-count c =
    let first = rw c.in_ok-two.ensures.ok_part at c.broadcast.ensures in
    let second = rw c.in_ok-shape.ensures.ok_part at c.broadcast-2.ensures in
    let w = wider (shape_of c.args.test.now.shape) (shape_of c.args.yes.now.shape) (shape_of c.args.other.now.shape) first.1 second in
    right_refusal c.from_residual-in_err-count.result c.from_residual-in_err-count.ensures.1 c.in_err-count.ensures.0
    (right_if _ _ _ (and_from _ _ first.0 w.0)
    (right_too_many c.args.self.now.places c.args.taken (choose_array binary64 (array_of c.args.test.now) (array_of c.args.yes.now) (array_of c.args.other.now)) (omega (arith, c.in_err-count.ensures.1, ap size w.1))))

pub returns : goal.returns
unfolding on_choose choose_array
returns c =
    let first = rw c.in_ok-two.ensures.ok_part at c.broadcast.ensures in
    let second = rw c.in_ok-shape.ensures.ok_part at c.broadcast-2.ensures in
    let w = wider (shape_of c.args.test.now.shape) (shape_of c.args.yes.now.shape) (shape_of c.args.other.now.shape) first.1 second in
    let n = c.in_ok-count.ensures in
    right_if _ _ _ (and_from _ _ first.0 w.0)
    (right_taken c.args.self.now.places c.args.taken (choose_array binary64 (array_of c.args.test.now) (array_of c.args.yes.now) (array_of c.args.other.now)) _ c.in_ok-array.ensures (omega (arith, n.0, ap size w.1)) n.1)

pub returns-in_err-array : goal.returns-in_err-array
returns-in_err-array c = right_wanting c.from_residual-in_err-array.result c.from_residual-in_err-array.ensures.1
