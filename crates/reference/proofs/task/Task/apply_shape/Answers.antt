use Rattle.reference.proofs.Rights.{right_wanting}
use Rattle.reference.proofs.task.Task.apply_shape.Goals as goal

pub returns-in_err-lens : goal.returns-in_err-lens
returns-in_err-lens c p t e s h = right_wanting c.from_residual.result c.from_residual.ensures.1
