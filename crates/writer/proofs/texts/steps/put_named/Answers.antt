use Rattle.std.proofs.Common.{arith}
use Rattle.writer.proofs.Overlays.{laid_more}
use Rattle.writer.proofs.texts.steps.put_named.Goals as goal

pub returns : goal.returns
returns c = record {
  laid = laid_more (laid_more c.put_bytes-start.ensures c.put_name-behind.ensures.laid) c.put_bytes.ensures;
  short = omega (arith, c.put_bytes-start.ensures.ends, c.put_name-behind.ensures.short, c.put_bytes.ensures.ends);
}
