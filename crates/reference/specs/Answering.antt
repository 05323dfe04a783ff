-- What running a text over its inputs answers: what the meaning says of the program that the text is; or why it was refused.
use Rattle.std.specs.Prelude.{◌≡◌, ℕ, ◌^◌, ◌<◌, ◌⊎◌, List, length, Ok, Err, vec_items, Result}
use Rattle.semantics.specs.Programs.{Program, shows, ends}
use Rattle.numbers.specs.Operations.{binary64}
use Rattle.encoding.specs.Format.{inputs_of, offsets, stop}
use Rattle.grammar.specs.Texts.{Reads}
use Rattle.grammar.specs.Automaton.{answer_to}
use Rattle.reader.specs.Reading.{result_of}
use Rattle.reference.specs.CellsOf.{sizes}
use Rattle.reference.specs.declared.interpret.Outcome.{Outcome}
use Rattle.reference.specs.Interpreting.{Ends}
use Rattle.reference.specs.declared.refused.Refused.{Refused}
use Rattle.reference.specs.declared.refused.Refused.TheVariants.{Text, Input, Places}

abbrev pub Answers : List ℕ → List ℕ → ℕ → Result Outcome Refused → Type 0
Answers t bs p (Ok o) =
    (q : Program ℕ) → Reads t q → Ends (shows (sizes p) binary64 (inputs_of bs) q) (ends (sizes p) binary64 (inputs_of bs) q) (vec_items o.shown) o.end
Answers t bs p (Err (Text f)) = Err f ≡ result_of (answer_to t) 32768
Answers t bs p (Err (Input k)) = (stop bs < length bs) × (k ≡ length (offsets bs))
Answers t bs p (Err Places) = (p ≡ 0) ⊎ (2 ^ 26 < p)
