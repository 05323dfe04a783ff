use Rattle.grammar.proofs.TextExamples.{text_examples}
use Rattle.grammar.proofs.laws.text_examples_stands.Goals as goal

pub returns : goal.returns
returns c = text_examples
