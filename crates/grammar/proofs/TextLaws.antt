-- The laws of texts, from what is proved of the automaton.
use Rattle.std.proofs.Common.{sym, ◌∙◌, subst}
use Rattle.grammar.specs.Texts.{Reads}
use Rattle.grammar.specs.TextLaws.{TakesTexts, TakenAreTexts, StuckWhere, AnswersVerdict}
use Rattle.grammar.proofs.Accepts.{reads_accepted, accepted_reads, goes_on_run, run_goes_on}
use Rattle.grammar.proofs.Unspell.{same_from_spelled}
use Rattle.grammar.proofs.Judges.{answer_right}

pub takes_texts : TakesTexts
takes_texts t p = (
  λ r. let a = reads_accepted t p r in record { whole = a.whole; steps = a.steps },
  λ k.
      let a = accepted_reads t k.whole in
      subst (λ q. Reads t q) (same_from_spelled a.program p (sym a.steps ∙ k.steps)) a.reads,
)

pub taken_are_texts : TakenAreTexts
taken_are_texts t h = let a = accepted_reads t h in (a.program, a.reads)

pub stuck_where : StuckWhere
stuck_where t i = (goes_on_run t i, run_goes_on t i)

pub answers_verdict : AnswersVerdict
answers_verdict t = let a = answer_right t in record { verdict = a.verdict; judged = a.judged; is = a.is }
