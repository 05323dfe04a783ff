-- What holds of texts: each is one program at most and has one verdict; and how the automaton answers for them.
use Rattle.std.specs.Prelude.{◌≡◌, ℕ, ◌*◌, ◌≤◌, true, false, List, [], ◌++◌, length, take}
use Rattle.semantics.specs.Programs.{Program}
use Rattle.program.specs.Spelling.{spell_program}
use Rattle.grammar.specs.Letters.{Letter, bytes, nothing, tally}
use Rattle.grammar.specs.Sayable.{FitLines, Canonical}
use Rattle.grammar.specs.Limits.{marks_of, depth_of}
use Rattle.grammar.specs.Texts.{Writing, letters, Reads, GoesOn, Verdict, taken, Judged}
use Rattle.grammar.specs.Automaton.{start, run, run_tally, is_stuck, between, last, steps_of, answer_to, answer_of}

-- a text is one program at most
abbrev pub OneProgram : Type 0
OneProgram = (t : List ℕ) (p q : Program ℕ) → Reads t p → Reads t q → p ≡ q

-- the automaton takes t: with the last newline, where it is left out, it stands between lines; its steps are those of p
pub record Takes (t : List ℕ) (p : Program ℕ) : Type 0 where
  pub whole : between (last (run start t)) ≡ true
  pub steps : steps_of (last (run start t)) ≡ spell_program p []

-- it takes just the texts of programs
abbrev pub TakesTexts : Type 0
TakesTexts = (t : List ℕ) (p : Program ℕ) → (Reads t p → Takes t p) × (Takes t p → Reads t p)

-- what it takes is some program's text
abbrev pub TakenAreTexts : Type 0
TakenAreTexts = (t : List ℕ) → between (last (run start t)) ≡ true → (p : Program ℕ) × Reads t p

-- it is stuck just where no program goes on so
abbrev pub StuckWhere : Type 0
StuckWhere = (t : List ℕ) (i : ℕ) → (GoesOn t i → is_stuck (run start (take i t)) ≡ false) × (is_stuck (run start (take i t)) ≡ false → GoesOn t i)

-- it counts the marks and levels of every program that is written so
abbrev pub CountsMarks : Type 0
CountsMarks = (w : Writing) (f g : List Letter) → letters w ≡ f ++ g → run_tally start nothing (bytes f) ≡ tally f

-- each text has one verdict, and the automaton's answer is that
abbrev pub OneVerdict : Type 0
OneVerdict = (t : List ℕ) (v v' : Verdict) → Judged t v → Judged t v' → v ≡ v'

pub record Answered (t : List ℕ) : Type 0 where
  pub verdict : Verdict
  pub judged : Judged t verdict
  pub is : answer_to t ≡ answer_of verdict

abbrev pub AnswersVerdict : Type 0
AnswersVerdict = (t : List ℕ) → Answered t

-- every program that can be said, with at most 64 names, has a text
abbrev pub HasText : Type 0
HasText = (p : Program ℕ) (m : ℕ) → FitLines Canonical p 0 m → m ≤ 64 → (t : List ℕ) × Reads t p

-- a text has at most 35 bytes a mark
abbrev pub ShortTexts : Type 0
ShortTexts = (t : List ℕ) (p : Program ℕ) → Reads t p → length t ≤ 35 * marks_of p

-- every text of a program of at most 2,048 marks, with agains at most 8 deep, is taken
abbrev pub TakenWithin : Type 0
TakenWithin = (t : List ℕ) (p : Program ℕ) → Reads t p → marks_of p ≤ 2048 → depth_of p ≤ 8 → Judged t (taken p)

-- and only such a program's text is
abbrev pub TakenOnlyWithin : Type 0
TakenOnlyWithin = (t : List ℕ) (p : Program ℕ) → Judged t (taken p) → (marks_of p ≤ 2048) × (depth_of p ≤ 8)
