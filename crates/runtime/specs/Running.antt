-- What a run shows and how it ends, against the meaning.
use Rattle.std.specs.Prelude.{◌≡◌, ℕ, ◌-◌, List, [], ◌∷◌, length, nat_le, nat_lt, Ok, Err, Result}
use Rattle.semantics.specs.Shapes.{pick}
use Rattle.semantics.specs.Programs.{Program, Shown as Listed, shows, ends}
use Rattle.numbers.specs.Operations.{binary64}
use Rattle.encoding.specs.Format.{inputs_of}
use Rattle.encoding.specs.Words.{written}
use Rattle.encoding.specs.Writing.{array_bytes}
use Rattle.encoding.specs.ReadBack.{shown_bytes}
use Rattle.program.specs.Spelling.{spell_program}
use Rattle.program.specs.Words.{steps_in}
use Rattle.runtime.specs.declared.fault.Stop.{Stop}
use Rattle.runtime.specs.declared.run.Ran.{Ran}
use Rattle.runtime.specs.Faults.{fault_number}
use Rattle.runtime.specs.Planning.{sizes}

-- 0, or the number of the fault that ended a run
abbrev pub end_number : Result (Unit {0}) Stop → ℕ
end_number (Ok u) = 0
end_number (Err x) = fault_number x.fault

-- how many bytes a shown array takes
unfoldable pub bytes_of : Listed ℕ → ℕ
unfolding array_bytes
bytes_of h = length (array_bytes h.shape h.numbers)

-- the first arrays, as far as they fit into so many bytes
unfoldable pub fitting : ℕ → List (Listed ℕ) → List (Listed ℕ)
unfolding bytes_of
fitting r [] = []
fitting r (h ∷ hs) = pick (nat_lt r (bytes_of h)) [] (h ∷ fitting (r - bytes_of h) hs)

-- of the arrays hs those that fit stand from the first byte on, and all other bytes are as they were; the run ended as n says, or
-- with 10 where they do not all fit
pub record ShowsAs (hs : List (Listed ℕ)) (n : ℕ) (old new : List ℕ) (r : Ran) : Type 0 where
  pub bytes : new ≡ written old 0 (shown_bytes (fitting (length old) hs))
  pub shown : r.shown ≡ length (shown_bytes (fitting (length old) hs))
  pub ends : end_number r.end ≡ pick (nat_le (length (shown_bytes hs)) (length old)) n 10

-- the steps are those of a program
pub record ProgramStands (ws : List ℕ) : Type 0 where
  pub program : Program ℕ
  pub enc : steps_in ws ≡ spell_program program []

-- what the meaning says of every program that the steps are, with p places
pub record RunsAs (ws bs : List ℕ) (p : ℕ) (old new : List ℕ) (r : Ran) : Type 0 where
  pub on : (q : Program ℕ) → steps_in ws ≡ spell_program q [] → ShowsAs (shows (sizes p) binary64 (inputs_of bs) q) (ends (sizes p) binary64 (inputs_of bs) q) old new r
