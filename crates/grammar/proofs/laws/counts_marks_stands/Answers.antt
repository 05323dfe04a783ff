use Rattle.grammar.proofs.Accepts.{writing_tally}
use Rattle.grammar.proofs.laws.counts_marks_stands.Goals as goal

pub returns : goal.returns
returns c = writing_tally
