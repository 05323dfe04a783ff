use Rattle.std.proofs.Common.{refl}
use Rattle.reader.proofs.turns.begin_line.Goals as goal

pub returns : goal.returns
returns c t e other = refl
