use Rattle.program.proofs.Leadings.{leading_items, leading_slices}
use Rattle.program.proofs.laws.lists_found_stands.Goals as goal

pub returns : goal.returns
returns c = (leading_items, leading_slices)
