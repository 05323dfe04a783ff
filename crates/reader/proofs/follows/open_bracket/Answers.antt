use Rattle.std.proofs.Common.{refl}
use Rattle.grammar.specs.Moves.{operands, bracket}
use Rattle.reader.proofs.follows.open_bracket.Goals as goal

pub returns : goal.returns
unfolding operands bracket
returns c = refl
