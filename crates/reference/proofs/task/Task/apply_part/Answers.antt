use Rattle.reference.proofs.Rights.{right_wanting}
use Rattle.reference.proofs.task.Task.apply_part.Goals as goal

pub returns-in_err-list : goal.returns-in_err-list
returns-in_err-list c ps e s h = right_wanting c.from_residual.result c.from_residual.ensures.1
