use Rattle.std.proofs.Common.{sym, subst, inl, inr}
use Rattle.reader.specs.Machines.{Spells, in_expression, as_target}
use Rattle.reader.proofs.stepping.skimming.is_spelling.Goals as goal

pub returns-in-Word : goal.returns-in-Word
returns-in-Word c e = elim c.in-Word.is [ inl s ↦ subst Spells (sym s) in_expression | inr (x, s) ↦ subst Spells (sym s) as_target ]
