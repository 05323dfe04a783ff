use Rattle.grammar.proofs.TextLaws.{takes_texts}
use Rattle.grammar.proofs.laws.takes_texts_stands.Goals as goal

pub returns : goal.returns
returns c = takes_texts
