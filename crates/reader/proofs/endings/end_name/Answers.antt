use Rattle.std.proofs.Common.{[], ◌∷◌, refl, ap, ◌∙◌, arith}
use Rattle.reader.specs.Names.{spellings}
use Rattle.reader.specs.Turning.{ended_of}
use Rattle.grammar.specs.declared.symbol.Symbol.{Symbol}
use Rattle.program.specs.declared.step.Step.{Step}
use Rattle.reader.proofs.Turnings.{ended_unnamed, ended_named}
use Rattle.reader.proofs.endings.end_name.Goals as goal

pub returns-in_err-naming : goal.returns-in_err-naming
returns-in_err-naming c = ap (ended_of (spellings c.args.text.now c.args.names.now) c.args.word.now) c.from_residual.ensures ∙ ended_unnamed (spellings c.args.text.now c.args.names.now) c.args.word.now (λ k. Step.Name k) [] c.in_err-naming.ensures

pub returns : goal.returns
returns c = ended_named (spellings c.args.text.now c.args.names.now) c.args.word.now (λ k. Step.Name k) [] c.in_ok-naming.naming (Step.Name c.in_ok-naming.naming.place) (record { len = 0; at = Symbol.Lines ∷ Symbol.Lines ∷ Symbol.Lines ∷ Symbol.Lines ∷ Symbol.Lines ∷ Symbol.Lines ∷ Symbol.Lines ∷ Symbol.Lines ∷ []; few = omega arith }) c.in_ok-naming.ensures refl refl
