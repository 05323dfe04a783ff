use Rattle.encoding.proofs.Walking.{walked_all}
use Rattle.encoding.proofs.inputs.walk_all.Goals as goal

pub returns : goal.returns
returns c = walked_all c.args.bytes.now c.walk_over.result c.walk_over.ensures
