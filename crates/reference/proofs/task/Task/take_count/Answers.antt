use Rattle.std.proofs.Common.{mul-one, arith}
use Rattle.semantics.specs.Shapes.{size}
use Rattle.semantics.specs.Arrays.{count_array}
use Rattle.numbers.specs.Operations.{binary64}
use Rattle.reference.proofs.Rights.{right_too_many, right_taken, right_wanting}
use Rattle.reference.proofs.task.Task.take_count.Goals as goal

pub returns-then-self-many : goal.returns-then-self-many
unfolding size count_array
returns-then-self-many c = right_too_many c.args.self.now.places 0 (count_array binary64 c.args.len) (omega (arith, mul-one c.args.len))

pub returns-in_err-array : goal.returns-in_err-array
returns-in_err-array c = right_wanting c.from_residual.result c.from_residual.ensures.1

pub returns : goal.returns
unfolding size count_array
returns c =
    right_taken c.args.self.now.places 0 (count_array binary64 c.args.len) _ c.in_ok-array.ensures (omega (arith, mul-one c.args.len)) (omega arith)
