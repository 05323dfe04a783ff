use Rattle.std.proofs.Common.{length, ◌∙◌, arith}
use Rattle.std.proofs.lemmas.Bool.{lt-ltb}
use Rattle.reader.specs.Names.{spellings}
use Rattle.reader.proofs.Spelled.{length_spellings, begins_listed, viable_unshaped, viable_room, viable_old}
use Rattle.reader.proofs.names.is_viable_name.Goals as goal

pub returns-else-is_shaped : goal.returns-else-is_shaped
returns-else-is_shaped c = c.if-is_shaped.false ∙ viable_unshaped (spellings c.args.text.now c.args.names.now) c.args.word.now c.if-is_shaped.ensures

pub returns-then-names-lt-MOST_NAMES : goal.returns-then-names-lt-MOST_NAMES
returns-then-names-lt-MOST_NAMES c = lt-ltb (length c.args.names.now) 64 c.if-names-lt-MOST_NAMES.true ∙ viable_room (spellings c.args.text.now c.args.names.now) c.args.word.now c.if-is_shaped.ensures (omega (arith, length_spellings c.args.text.now c.args.names.now))

pub returns-else-names-lt-MOST_NAMES : goal.returns-else-names-lt-MOST_NAMES
returns-else-names-lt-MOST_NAMES c = c.begins_name.ensures ∙ (begins_listed c.args.text.now c.args.names.now c.args.word.now ∙ viable_old (spellings c.args.text.now c.args.names.now) c.args.word.now c.if-is_shaped.ensures (omega (arith, length_spellings c.args.text.now c.args.names.now)))
