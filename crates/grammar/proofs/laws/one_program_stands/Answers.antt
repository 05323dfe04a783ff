use Rattle.grammar.proofs.Accepts.{one_program}
use Rattle.grammar.proofs.laws.one_program_stands.Goals as goal

pub returns : goal.returns
returns c = one_program
