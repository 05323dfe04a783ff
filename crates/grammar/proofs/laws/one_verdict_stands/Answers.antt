use Rattle.grammar.proofs.Judges.{one_verdict}
use Rattle.grammar.proofs.laws.one_verdict_stands.Goals as goal

pub returns : goal.returns
returns c = one_verdict
