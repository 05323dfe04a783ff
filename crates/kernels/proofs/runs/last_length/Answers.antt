use Rattle.std.proofs.Common.{arith}
use Rattle.kernels.proofs.InPlace.{last_of}
use Rattle.kernels.proofs.runs.last_length.Goals as goal

pub returns : goal.returns
returns c = last_of c.args.shape (omega arith) (omega arith)
