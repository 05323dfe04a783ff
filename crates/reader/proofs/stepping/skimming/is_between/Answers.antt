use Rattle.std.proofs.Common.{sym, subst, inl, inr}
use Rattle.reader.specs.Machines.{BetweenLines, outside, within}
use Rattle.reader.proofs.stepping.skimming.is_between.Goals as goal

pub returns-in-Lines : goal.returns-in-Lines
returns-in-Lines c e = elim c.in-Lines.is [ inl s ↦ subst BetweenLines (sym s) outside | inr s ↦ subst BetweenLines (sym s) within ]
