use Rattle.grammar.proofs.Sought.{same_is}
use Rattle.grammar.proofs.words.same_word.Goals as goal

pub returns : goal.returns
returns c = same_is c.args.a.now c.args.b.now c.eq.result c.eq.ensures
