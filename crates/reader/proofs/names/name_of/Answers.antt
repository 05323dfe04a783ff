use Rattle.std.proofs.Common.{length, sym, arith}
use Rattle.reader.specs.Names.{spellings}
use Rattle.reader.proofs.Spelled.{length_spellings, sought_at, sought_below, no_name, old_name, no_room, new_name}
use Rattle.reader.proofs.names.name_of.Goals as goal

pub overflow_cast-result : goal.overflow_cast-result
overflow_cast-result c = omega (arith, sought_below (spellings c.args.text.now c.args.names.now) c.args.word.now c.in-Some.k (sought_at c.args.text.now c.args.names.now c.args.word.now _ c.in-Some.ensures), length_spellings c.args.text.now c.args.names.now, c.requires.few)

pub returns-then-not-is_name : goal.returns-then-not-is_name
returns-then-not-is_name c = no_name (spellings c.args.text.now c.args.names.now) c.args.word.now (sym c.if-not-is_name.ensures)

pub returns-in-Some : goal.returns-in-Some
returns-in-Some c = old_name (spellings c.args.text.now c.args.names.now) c.args.word.now c.in-Some.k (sym c.if-not-is_name.ensures) (sought_at c.args.text.now c.args.names.now c.args.word.now _ c.in-Some.ensures)

pub returns-then-count-ge-MOST_NAMES : goal.returns-then-count-ge-MOST_NAMES
returns-then-count-ge-MOST_NAMES c = no_room (spellings c.args.text.now c.args.names.now) c.args.word.now (sym c.if-not-is_name.ensures) (sought_at c.args.text.now c.args.names.now c.args.word.now _ c.in_default.ensures) (omega (arith, length_spellings c.args.text.now c.args.names.now))

pub returns : goal.returns
returns c = new_name (spellings c.args.text.now c.args.names.now) c.args.word.now (length c.args.names.now) (sym (length_spellings c.args.text.now c.args.names.now)) (sym c.if-not-is_name.ensures) (sought_at c.args.text.now c.args.names.now c.args.word.now _ c.in_default.ensures) (omega arith)
