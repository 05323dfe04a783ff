use Rattle.grammar.proofs.Lengths.{reads_short}
use Rattle.grammar.proofs.laws.short_texts_stands.Goals as goal

pub returns : goal.returns
returns c = reads_short
