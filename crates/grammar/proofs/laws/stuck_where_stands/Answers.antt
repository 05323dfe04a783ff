use Rattle.grammar.proofs.TextLaws.{stuck_where}
use Rattle.grammar.proofs.laws.stuck_where_stands.Goals as goal

pub returns : goal.returns
returns c = stuck_where
