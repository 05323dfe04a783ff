use Rattle.std.proofs.Common.{ap, ◌∙◌}
use Rattle.reader.specs.Names.{spellings}
use Rattle.reader.specs.Turning.{ended_of}
use Rattle.grammar.specs.Moves.{target_step, target_rest}
use Rattle.reader.proofs.Turnings.{ended_unnamed, ended_named}
use Rattle.reader.proofs.endings.end_target.Goals as goal

pub returns-in_err-naming : goal.returns-in_err-naming
returns-in_err-naming c = ap (ended_of (spellings c.args.text.now c.args.names.now) c.args.word.now) c.from_residual.ensures ∙ ended_unnamed (spellings c.args.text.now c.args.names.now) c.args.word.now (λ k. target_step c.args.target k) (target_rest c.args.target) c.in_err-naming.ensures

pub returns : goal.returns
returns c = ended_named (spellings c.args.text.now c.args.names.now) c.args.word.now (λ k. target_step c.args.target k) (target_rest c.args.target) c.in_ok-naming.naming c.target_step.result c.target_rest.result c.in_ok-naming.ensures c.target_step.ensures c.target_rest.ensures
