use Rattle.reader.specs.Names.{spelling}
use Rattle.reader.proofs.names.Span.of.Goals as goal

pub returns : goal.returns
unfolding spelling
returns c = c.part_of.ensures
