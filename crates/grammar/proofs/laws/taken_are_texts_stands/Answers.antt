use Rattle.grammar.proofs.TextLaws.{taken_are_texts}
use Rattle.grammar.proofs.laws.taken_are_texts_stands.Goals as goal

pub returns : goal.returns
returns c = taken_are_texts
