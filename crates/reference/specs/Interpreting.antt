-- What the interpretation of a program answers.
use Rattle.std.specs.Prelude.{◌≡◌, ℕ, List, [], Ok, Err, Result, vec_items}
use Rattle.semantics.specs.Programs.{Program, Shown, shows, ends}
use Rattle.semantics.specs.RunLaws.{Begins}
use Rattle.numbers.specs.Operations.{binary64}
use Rattle.encoding.specs.Format.{inputs_of}
use Rattle.encoding.specs.ReadBack.{shown_bytes}
use Rattle.program.specs.Spelling.{spell_program}
use Rattle.program.specs.Words.{steps_in}
use Rattle.reference.specs.declared.fault.Fault.{Fault}
use Rattle.reference.specs.declared.fault.Stop.{Stop}
use Rattle.reference.specs.declared.fault.Stop.TheVariants.{Fault as Faulty, Memory}
use Rattle.reference.specs.declared.interpret.Outcome.{Outcome}
use Rattle.reference.specs.CellsOf.{sizes}
use Rattle.reference.specs.Faults.{fault_number}

-- the steps are those of a program
pub record ProgramStands (ws : List ℕ) : Type 0 where
  pub program : Program ℕ
  pub enc : steps_in ws ≡ spell_program program []

-- hs is shown and n is how it ends, 0 or a fault; or memory was wanting, and a beginning of hs is shown
pub data Ends (hs : List (Shown ℕ)) (n : ℕ) (bytes : List ℕ) : Result (Unit {0}) Stop → Type 0 where
  ends_done : {u : Unit {0}} → shown_bytes hs ≡ bytes → n ≡ 0 → Ends hs n bytes (Ok u)
  ends_fault : {f : Fault} → shown_bytes hs ≡ bytes → n ≡ fault_number f → Ends hs n bytes (Err (Faulty f))
  ends_memory : (gs : List (Shown ℕ)) → Begins gs hs → shown_bytes gs ≡ bytes → Ends hs n bytes (Err Memory)

-- what the meaning says of every program that the steps are, with p places
pub record Interprets (ws bs : List ℕ) (p : ℕ) (o : Outcome) : Type 0 where
  pub on : (q : Program ℕ) → steps_in ws ≡ spell_program q [] → Ends (shows (sizes p) binary64 (inputs_of bs) q) (ends (sizes p) binary64 (inputs_of bs) q) (vec_items o.shown) o.end
