use Rattle.std.proofs.Common.{sym}
use Rattle.reader.proofs.stepping.skimming.may_go_on.Goals as goal

pub stays_shaped-requires : goal.stays_shaped-requires
stays_shaped-requires c = record { reading = c.requires; letter = sym c.if-not-in_word.ensures }

pub returns : goal.returns
returns c is = (sym c.if-not-in_word.ensures, c.stays_shaped.ensures is, c.if-machine-ge-MOST_NAMES.false)
