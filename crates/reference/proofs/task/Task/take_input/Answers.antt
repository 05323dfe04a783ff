use Rattle.std.proofs.Common.{get_or, ap, arith}
use Rattle.semantics.specs.Values.{held}
use Rattle.encoding.specs.Format.{array_at, offsets}
use Rattle.reference.specs.Right.{right_fault}
use Rattle.reference.proofs.Inputs.{no_input, an_input, input_size, input_within}
use Rattle.reference.proofs.Rights.{right_is, right_too_many, right_taken, right_refusal, right_wanting, refused_as}
use Rattle.reference.proofs.task.Task.take_input.Goals as goal

pub returns-in_err-head : goal.returns-in_err-head
unfolding held
returns-in_err-head c =
    let none = rw c.in_err-head.ensures.ok_part at c.find_input.ensures in
    right_refusal c.from_residual.result c.from_residual.ensures.1 (refused_as c.find_input.result _ _ c.in_err-head.ensures.ok_part c.in_err-head.ensures.value)
    (right_fault (ap (held c.args.self.now.places) (no_input c.args.self.now.inputs.now c.args.input none)))

pub returns-in_err-count : goal.returns-in_err-count
unfolding held
returns-in_err-count c =
    let bs = c.args.self.now.inputs.now in
    let f = rw c.in_ok-head.ensures.ok_part at c.find_input.ensures in
    right_refusal c.from_residual-in_err-count.result c.from_residual-in_err-count.ensures.1 c.in_err-count.ensures.0
    (right_is (ap (held c.args.self.now.places) (an_input bs c.args.input c.in_ok-head.head f))
    (right_too_many c.args.self.now.places 0 (array_at bs (get_or (offsets bs) c.args.input 0)) (omega (arith, c.in_err-count.ensures.1, input_size bs c.args.input c.in_ok-head.head f))))

pub decode-requires : goal.decode-requires
decode-requires c =
    let f = rw c.in_ok-head.ensures.ok_part at c.find_input.ensures in
    let n = c.in_ok-count.ensures in
    record { room = input_within c.args.self.now.inputs.now c.args.input c.in_ok-head.head f; small = omega (arith, n.0, n.1, c.args.self.now.few) }

pub returns-in_err-array : goal.returns-in_err-array
returns-in_err-array c = right_wanting c.from_residual-in_err-array.result c.from_residual-in_err-array.ensures.1

pub returns : goal.returns
unfolding held
returns c =
    let bs = c.args.self.now.inputs.now in
    let f = rw c.in_ok-head.ensures.ok_part at c.find_input.ensures in
    let n = c.in_ok-count.ensures in
    right_is (ap (held c.args.self.now.places) (an_input bs c.args.input c.in_ok-head.head f))
    (right_taken c.args.self.now.places 0 (array_at bs (get_or (offsets bs) c.args.input 0)) _ (c.in_ok-array.ensures _ f.heads) (omega (arith, n.0, input_size bs c.args.input c.in_ok-head.head f)) n.1)
