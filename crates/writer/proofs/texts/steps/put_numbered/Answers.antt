use Rattle.std.proofs.Common.{arith}
use Rattle.writer.proofs.Overlays.{laid_more}
use Rattle.writer.proofs.StepLengths.{decimal_short}
use Rattle.writer.proofs.texts.steps.put_numbered.Goals as goal

pub put_number-behind-requires : goal.put_number-behind-requires
put_number-behind-requires c = omega (arith, c.put_bytes-start.ensures.ends, decimal_short c.args.n c.ranges.n.fits)

pub returns : goal.returns
returns c = record {
  laid = laid_more (laid_more c.put_bytes-start.ensures c.put_number-behind.ensures.laid) c.put_bytes.ensures;
  short = omega (arith, c.put_bytes-start.ensures.ends, c.put_number-behind.ensures.short, c.put_bytes.ensures.ends);
}
