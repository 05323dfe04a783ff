use Rattle.reference.specs.ArrayOf.{array_of}
use Rattle.reference.proofs.Rights.{right_too_many, right_taken, right_refusal, right_wanting}
use Rattle.reference.proofs.task.Task.take_copy.Goals as goal

pub returns-in_err-count : goal.returns-in_err-count
returns-in_err-count c =
    right_refusal c.from_residual.result c.from_residual.ensures.1 c.in_err-count.ensures.0
    (right_too_many c.args.self.now.places 0 (array_of c.args.array.now) c.in_err-count.ensures.1)

pub returns-in_err-array : goal.returns-in_err-array
returns-in_err-array c = right_wanting c.from_residual-in_err-array.result c.from_residual-in_err-array.ensures.1

pub returns : goal.returns
returns c =
    right_taken c.args.self.now.places 0 (array_of c.args.array.now) _ c.in_ok-array.ensures c.in_ok-count.ensures.0 c.in_ok-count.ensures.1
