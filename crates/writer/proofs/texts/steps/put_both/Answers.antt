use Rattle.writer.proofs.Overlays.{laid_more}
use Rattle.writer.proofs.texts.steps.put_both.Goals as goal

pub returns : goal.returns
returns c = laid_more c.put_bytes-start.ensures c.put_bytes.ensures
