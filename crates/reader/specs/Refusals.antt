-- The refusal that a flaw of a text is; the number of a refusal, and its place in the text.
use Rattle.std.specs.Prelude.{ℕ}
use Rattle.reader.specs.declared.judging.Flaw.{Flaw}
use Rattle.reader.specs.declared.refusal.Refusal.{Refusal}
use Rattle.reader.specs.declared.refusal.Refusal.TheVariants.{NoProgram, TooMuch, ShortWords}

abbrev pub refusal_of : Flaw → Refusal
refusal_of (Flaw.NoProgram i) = NoProgram i
refusal_of (Flaw.TooMuch i) = TooMuch i

abbrev pub refusal_number : Refusal → ℕ
refusal_number (NoProgram i) = 7
refusal_number (TooMuch i) = 8
refusal_number ShortWords = 10

abbrev pub refusal_place : Refusal → ℕ
refusal_place (NoProgram i) = i
refusal_place (TooMuch i) = i
refusal_place ShortWords = 0
