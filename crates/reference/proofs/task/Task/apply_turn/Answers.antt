use Rattle.reference.proofs.Rights.{right_wanting}
use Rattle.reference.proofs.task.Task.apply_turn.Goals as goal

pub returns-in_err-order : goal.returns-in_err-order
returns-in_err-order c os e s h = right_wanting c.from_residual.result c.from_residual.ensures.1
