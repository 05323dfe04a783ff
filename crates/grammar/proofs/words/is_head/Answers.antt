use Rattle.std.proofs.Common.{ap, ◌∙◌}
use Rattle.std.specs.Option.{is_some as option_is_some}
use Rattle.grammar.specs.Words.{head_word, heads}
use Rattle.grammar.proofs.Sought.{found_is}
use Rattle.grammar.proofs.words.is_head.Goals as goal

pub returns : goal.returns
returns c = c.is_some.ensures ∙ (ap option_is_some c.find_head.ensures ∙ found_is head_word heads c.args.word.now)
