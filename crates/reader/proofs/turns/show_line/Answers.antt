use Rattle.std.proofs.Common.{refl}
use Rattle.grammar.specs.Moves.{spelled}
use Rattle.reader.proofs.turns.show_line.Goals as goal

pub returns : goal.returns
unfolding spelled
returns c = refl
