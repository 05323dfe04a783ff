use Rattle.program.proofs.Fitting.{deep_long}
use Rattle.program.proofs.laws.deep_takes_steps_stands.Goals as goal

pub returns : goal.returns
returns c = deep_long
