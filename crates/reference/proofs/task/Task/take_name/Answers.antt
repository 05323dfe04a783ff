use Rattle.std.proofs.Common.{ap}
use Rattle.semantics.specs.Values.{held}
use Rattle.reference.specs.Right.{right_fault}
use Rattle.reference.proofs.Rights.{right_is, right_refusal, refused_as}
use Rattle.reference.proofs.task.Task.take_name.Goals as goal

pub returns-in_err-array : goal.returns-in_err-array
unfolding held
returns-in_err-array c =
    let none = rw c.in_err-array.ensures.ok_part at c.find_array.ensures in
    right_refusal c.from_residual.result c.from_residual.ensures.1 (refused_as c.find_array.result _ _ c.in_err-array.ensures.ok_part c.in_err-array.ensures.value)
    (right_fault (ap (held c.args.self.now.places) none))

pub returns : goal.returns
unfolding held
returns c =
    let found = rw c.in_ok-array.ensures.ok_part at c.find_array.ensures in
    right_is (ap (held c.args.self.now.places) found.1) c.take_copy.ensures
