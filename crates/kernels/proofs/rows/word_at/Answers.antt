use Rattle.encoding.specs.Words.{word8}
use Rattle.kernels.proofs.rows.word_at.Goals as goal

pub returns : goal.returns
unfolding word8
returns c = c.from_le_bytes.ensures
