use Rattle.grammar.proofs.TextLaws.{answers_verdict}
use Rattle.grammar.proofs.laws.answers_verdict_stands.Goals as goal

pub returns : goal.returns
returns c = answers_verdict
