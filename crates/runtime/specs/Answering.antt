-- What running a text answers: why it was refused, with nothing lent changed; or what the meaning says of the program that the text is.
use Rattle.std.specs.Prelude.{◌≡◌, ℕ, ◌+◌, ◌*◌, ◌^◌, ◌<◌, ◌≤◌, List, [], length, drop, slice_index, Ok, Err, Result}
use Rattle.semantics.specs.Programs.{Program, shows, ends}
use Rattle.numbers.specs.Operations.{binary64}
use Rattle.encoding.specs.Format.{inputs_of, offsets, stop}
use Rattle.program.specs.Spelling.{spell_program}
use Rattle.grammar.specs.Texts.{taken, no_program, too_much, Judged}
use Rattle.reader.specs.declared.judging.Flaw.{Flaw}
use Rattle.reader.specs.Judging.{mark_places}
use Rattle.reader.specs.Reading.{Written}
use Rattle.runtime.specs.declared.answer.Refusal.{Refusal}
use Rattle.runtime.specs.declared.answer.Refusal.TheVariants.{NoProgram, TooMuch, Input, Steps, Work}
use Rattle.runtime.specs.declared.run.Ran.{Ran}
use Rattle.runtime.specs.Built.{AllBuilt, UnbuiltAt}
use Rattle.runtime.specs.Planning.{sizes}
use Rattle.runtime.specs.Running.{ShowsAs}

-- the refusal that a flaw of the text is
abbrev pub for_flaw : Flaw → Refusal
for_flaw (Flaw.NoProgram i) = NoProgram i
for_flaw (Flaw.TooMuch i) = TooMuch i

-- the number of a refusal, and its place: a byte of the text, an input, or which of the lent slices is too short
abbrev pub refusal_number : Refusal → ℕ
refusal_number (NoProgram i) = 7
refusal_number (TooMuch i) = 8
refusal_number (Input k) = 9
refusal_number Steps = 10
refusal_number Work = 10

abbrev pub refusal_place : Refusal → ℕ
refusal_place (NoProgram i) = i
refusal_place (TooMuch i) = i
refusal_place (Input k) = k
refusal_place Steps = 0
refusal_place Work = 1

-- t is a text of a program all of whose steps are built
pub record Taken (t : List ℕ) : Type 0 where
  pub program : Program ℕ
  pub judged : Judged t (taken program)
  pub built : AllBuilt (spell_program program [])

-- a text that is a program with a step that is not built: the first such step, and where its text begins
pub record NotBuilt (t : List ℕ) (i : ℕ) : Type 0 where
  pub program : Program ℕ
  pub judged : Judged t (taken program)
  pub step : ℕ
  pub unbuilt : UnbuiltAt (spell_program program []) step
  pub place : i ≡ slice_index (mark_places t) step

-- places that there can be, with a word of work for each and 8,192 more
pub record Enough (p work : ℕ) : Type 0 where
  pub some : 0 < p
  pub few : p ≤ 2 ^ 26
  pub room : p + 8192 ≤ work

-- why there is no run, in this order: the text, the inputs, the lent steps, the lent work
pub data Refuses (t bs : List ℕ) (p steps work : ℕ) : Refusal → Type 0 where
  for_text : {i : ℕ} → Judged t (no_program i) → Refuses t bs p steps work (NoProgram i)
  for_steps_not_built : {i : ℕ} → NotBuilt t i → Refuses t bs p steps work (NoProgram i)
  for_size : {i : ℕ} → Judged t (too_much i) → Refuses t bs p steps work (TooMuch i)
  for_input : {k : ℕ} → Taken t → stop bs < length bs → k ≡ length (offsets bs) → Refuses t bs p steps work (Input k)
  for_steps : (q : Taken t) → stop bs ≡ length bs → steps < 16 * length (spell_program q.program []) → Refuses t bs p steps work Steps
  for_work : (q : Taken t) → stop bs ≡ length bs → 16 * length (spell_program q.program []) ≤ steps → (Enough p work → ⊥) → Refuses t bs p steps work Work

-- the run of the program that t is: of what the meaning shows just what fits stands in the room, and it ended as the meaning says,
-- or with 10 where not all fits; the lent steps begin with the program's; the work behind the places is as it was
pub record RunsText (t bs : List ℕ) (p : ℕ) (old-steps new-steps old-work new-work old-room new-room : List ℕ) (r : Ran) : Type 0 where
  pub taken : Taken t
  pub inputs : stop bs ≡ length bs
  pub enough_steps : 16 * length (spell_program taken.program []) ≤ length old-steps
  pub enough : Enough p (length old-work)
  pub shows : ShowsAs (shows (sizes p) binary64 (inputs_of bs) taken.program) (ends (sizes p) binary64 (inputs_of bs) taken.program) old-room new-room r
  pub steps : Written old-steps new-steps (length (spell_program taken.program [])) (spell_program taken.program []) (mark_places t)
  pub work : drop p new-work ≡ drop p old-work

abbrev pub Answers : List ℕ → List ℕ → ℕ → List ℕ → List ℕ → List ℕ → List ℕ → List ℕ → List ℕ → Result Ran Refusal → Type 0
Answers t bs p old-steps new-steps old-work new-work old-room new-room (Err r) =
    Refuses t bs p (length old-steps) (length old-work) r × (new-steps ≡ old-steps) × (new-work ≡ old-work) × (new-room ≡ old-room)
Answers t bs p old-steps new-steps old-work new-work old-room new-room (Ok r) = RunsText t bs p old-steps new-steps old-work new-work old-room new-room r
