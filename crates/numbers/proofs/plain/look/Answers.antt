use Rattle.numbers.proofs.Plainly.{looked}
use Rattle.numbers.proofs.plain.look.Goals as goal

pub returns : goal.returns
returns c = looked c.args.seen c.args.a
