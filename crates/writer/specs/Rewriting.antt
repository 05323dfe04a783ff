-- What rewriting a text gives: a text of the same program; or the text is refused; or there is no room.
use Rattle.std.specs.Prelude.{◌≡◌, ℕ, ◌<◌, List, length, take, drop, Some, None, Ok, Err, Option, Result}
use Rattle.semantics.specs.Programs.{Program}
use Rattle.grammar.specs.Texts.{Reads}
use Rattle.grammar.specs.Automaton.{answer_to}
use Rattle.reader.specs.declared.refusal.Refusal.{Refusal}
use Rattle.reader.specs.Reading.{result_of}
use Rattle.writer.specs.WrittenAs.{text_of}

pub record Anew (t old new : List ℕ) (n : ℕ) (p : Program ℕ) : Type 0 where
  pub same : Reads (take n new) p
  pub rest : drop n new ≡ drop n old

abbrev pub Rewrites : List ℕ → List ℕ → List ℕ → Result (Option ℕ) Refusal → Type 0
Rewrites t old new (Err f) = (Err f ≡ result_of (answer_to t) 32768) × (new ≡ old)
Rewrites t old new (Ok None) = (new ≡ old) × ((p : Program ℕ) → Reads t p → length old < length (text_of p))
Rewrites t old new (Ok (Some n)) = (p : Program ℕ) → Reads t p → Anew t old new n p
