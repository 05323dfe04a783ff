use Rattle.std.proofs.Common.{ap, ◌∙◌}
use Rattle.reader.specs.Names.{spellings}
use Rattle.grammar.specs.Moves.{word_ends}
use Rattle.reader.proofs.Turnings.{ended_by}
use Rattle.reader.proofs.endings.end_word.Goals as goal

pub returns-in_default : goal.returns-in_default
unfolding word_ends
returns-in_default c = c.end_name.ensures ∙ ap (word_ends (spellings c.args.text.now c.args.names.now) c.args.word.now) c.in_default.ensures

pub returns : goal.returns
unfolding word_ends
returns c = ended_by (spellings c.args.text.now c.args.names.now) c.head_step.ensures c.head_rest.ensures ∙ ap (word_ends (spellings c.args.text.now c.args.names.now) c.args.word.now) c.in-Some.ensures
