use Rattle.std.proofs.Common.{refl, ap, ◌∙◌}
use Rattle.grammar.specs.Moves.{binary_ends}
use Rattle.reader.specs.Turning.{ended_of}
use Rattle.reader.proofs.Turnings.{ended_by}
use Rattle.reader.proofs.endings.end_binary.Goals as goal

pub returns-in_err-binary : goal.returns-in_err-binary
unfolding binary_ends
returns-in_err-binary c ns = ap (ended_of ns c.args.word.now) c.from_residual.ensures ∙ ap (binary_ends ns c.args.along) c.in_err-binary.ensures

pub returns : goal.returns
unfolding binary_ends
returns c ns = ended_by ns refl refl ∙ ap (binary_ends ns c.args.along) c.in_ok-binary.ensures
