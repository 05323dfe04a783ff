use Rattle.semantics.specs.Arrays.{put_array}
use Rattle.reference.proofs.replace.put.Goals as goal

pub returns : goal.returns
unfolding put_array
returns c = c.tabulate.ensures
