use Rattle.std.proofs.Common.{[], get_or, sym, arith}
use Rattle.writer.specs.Spellings.{spellings}
use Rattle.writer.proofs.Overlays.{laid_none, laid_more, laid_as}
use Rattle.writer.proofs.Names.{spelled_past, spelled_low, spelled_high}
use Rattle.writer.proofs.texts.room.put_name.Goals as goal

pub returns-then-k-ge64 : goal.returns-then-k-ge64
returns-then-k-ge64 c = record {
  laid = laid_as (get_or spellings c.args.k []) (sym (spelled_past c.args.k c.if-k-ge64.true)) (laid_none c.args.room.now c.args.at);
  short = omega arith;
}

pub returns-then-k-lt26 : goal.returns-then-k-lt26
returns-then-k-lt26 c = record {
  laid = laid_as (get_or spellings c.args.k []) (sym (spelled_low c.args.k c.if-k-lt26.true)) c.put_byte-first.ensures;
  short = omega (arith, c.put_byte-first.ensures.ends);
}

pub returns : goal.returns
returns c = record {
  laid = laid_as (get_or spellings c.args.k []) (sym (spelled_high c.args.k c.if-k-lt26.false c.if-k-ge64.false)) (laid_more c.put_byte-first.ensures c.put_byte.ensures);
  short = omega (arith, c.put_byte-first.ensures.ends, c.put_byte.ensures.ends);
}
