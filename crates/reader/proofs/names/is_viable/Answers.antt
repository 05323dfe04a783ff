use Rattle.std.proofs.Common.{◌∙◌}
use Rattle.reader.specs.Names.{spellings}
use Rattle.reader.proofs.Spelled.{viable_head, viable_other}
use Rattle.reader.proofs.names.is_viable.Goals as goal

pub returns-then-begins_head : goal.returns-then-begins_head
returns-then-begins_head c = c.if-begins_head.true ∙ viable_head (spellings c.args.text.now c.args.names.now) c.args.word.now c.if-begins_head.ensures

pub returns-else-begins_head : goal.returns-else-begins_head
returns-else-begins_head c = c.is_viable_name.ensures ∙ viable_other (spellings c.args.text.now c.args.names.now) c.args.word.now c.if-begins_head.ensures
