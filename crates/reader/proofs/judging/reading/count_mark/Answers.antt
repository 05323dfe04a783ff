use Rattle.std.proofs.Common.{sym, refl, ap, ◌∙◌, add-one}
use Rattle.grammar.specs.Letters.{tally_flag}
use Rattle.reader.specs.Judging.{tally_of}
use Rattle.reader.specs.Turning.{flag_of}
use Rattle.reader.proofs.Lines.{tally_by}
use Rattle.reader.proofs.judging.reading.count_mark.Goals as goal

pub returns-in-Inside : goal.returns-in-Inside
unfolding tally_flag
returns-in-Inside c = sym (ap (λ x. tally_flag (flag_of x) (tally_of c.args.count)) c.in-Inside.is)

pub returns-in-Begins : goal.returns-in-Begins
unfolding tally_flag
returns-in-Begins c = tally_by (add-one c.args.count.marks) refl ∙ sym (ap (λ x. tally_flag (flag_of x) (tally_of c.args.count)) c.in-Begins.is)

pub returns-in-Opens : goal.returns-in-Opens
unfolding tally_flag
returns-in-Opens c = tally_by (add-one c.args.count.marks) (add-one c.args.count.level) ∙ sym (ap (λ x. tally_flag (flag_of x) (tally_of c.args.count)) c.in-Opens.is)

pub returns-in-Closes : goal.returns-in-Closes
unfolding tally_flag
returns-in-Closes c = tally_by (add-one c.args.count.marks) c.saturating_sub.ensures ∙ sym (ap (λ x. tally_flag (flag_of x) (tally_of c.args.count)) c.in-Closes.is)
