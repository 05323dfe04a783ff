use Rattle.std.proofs.Common.{refl}
use Rattle.grammar.specs.Moves.{operands}
use Rattle.reader.proofs.follows.open_operands.Goals as goal

pub returns : goal.returns
unfolding operands
returns c = refl
