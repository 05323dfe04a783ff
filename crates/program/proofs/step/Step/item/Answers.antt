use Rattle.program.proofs.Leadings.{item_in_item, item_in_other}
use Rattle.std.proofs.Common.{sym}
use Rattle.program.proofs.step.Step.item.Goals as goal

pub returns-in-Item : goal.returns-in-Item
returns-in-Item c = sym (item_in_item c.args.self c.in-Item.k c.in-Item.is)

pub returns-in_default : goal.returns-in_default
returns-in_default c = sym (item_in_other c.args.self c.in_default.not-Item)
