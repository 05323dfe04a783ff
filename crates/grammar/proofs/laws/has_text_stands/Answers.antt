use Rattle.grammar.proofs.HasText.{has_text}
use Rattle.grammar.proofs.laws.has_text_stands.Goals as goal

pub returns : goal.returns
returns c = has_text
