use Rattle.numbers.proofs.Floated.{stands_same, stands_of}
use Rattle.numbers.proofs.floats.whole_float.Goals as goal

pub returns : goal.returns
returns c = stands_same c.nearest_u64_to_f64.ensures (stands_of c.args.n)
