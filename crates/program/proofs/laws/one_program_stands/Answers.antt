use Rattle.program.proofs.Alone.{same_lines}
use Rattle.program.proofs.laws.one_program_stands.Goals as goal

pub returns : goal.returns
returns c = same_lines
