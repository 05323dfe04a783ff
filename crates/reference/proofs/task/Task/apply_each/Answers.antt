use Rattle.semantics.specs.Arrays.{each_array}
use Rattle.semantics.specs.Values.{on_each}
use Rattle.numbers.specs.Operations.{binary64}
use Rattle.reference.specs.ArrayOf.{array_of}
use Rattle.reference.proofs.Rights.{right_too_many, right_taken, right_refusal, right_wanting}
use Rattle.reference.proofs.task.Task.apply_each.Goals as goal

pub returns-in_err-count : goal.returns-in_err-count
unfolding on_each each_array
returns-in_err-count c =
    right_refusal c.from_residual.result c.from_residual.ensures.1 c.in_err-count.ensures.0
    (right_too_many c.args.self.now.places c.args.taken (each_array binary64 c.args.op (array_of c.args.array.now)) c.in_err-count.ensures.1)

pub returns : goal.returns
unfolding on_each each_array
returns c =
    right_taken c.args.self.now.places c.args.taken (each_array binary64 c.args.op (array_of c.args.array.now)) _ c.in_ok-array.ensures c.in_ok-count.ensures.0 c.in_ok-count.ensures.1

pub returns-in_err-array : goal.returns-in_err-array
returns-in_err-array c = right_wanting c.from_residual-in_err-array.result c.from_residual-in_err-array.ensures.1
