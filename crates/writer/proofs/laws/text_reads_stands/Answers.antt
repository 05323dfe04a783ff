use Rattle.writer.proofs.ReadBack.{text_reads}
use Rattle.writer.proofs.laws.text_reads_stands.Goals as goal

pub returns : goal.returns
returns c = text_reads
