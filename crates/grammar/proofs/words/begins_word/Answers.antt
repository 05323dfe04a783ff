use Rattle.grammar.proofs.Sought.{begins_is}
use Rattle.grammar.proofs.words.begins_word.Goals as goal

pub returns : goal.returns
returns c = begins_is c.args.part.now c.args.word.now c.starts_with.result c.starts_with.ensures.value
