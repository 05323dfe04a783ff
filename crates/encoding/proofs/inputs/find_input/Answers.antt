use Rattle.encoding.proofs.Walking.{found_after}
use Rattle.encoding.proofs.inputs.find_input.Goals as goal

pub returns : goal.returns
returns c = found_after c.args.bytes.now c.args.index c.walk_over.result c.walk_over.ensures c.header_at.result c.ok.result c.header_at.ensures c.ok.ensures.value
