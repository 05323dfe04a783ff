use Rattle.program.proofs.Alone.{same_spell}
use Rattle.program.proofs.laws.one_expression_stands.Goals as goal

pub returns : goal.returns
returns c = same_spell
