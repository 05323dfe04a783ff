-- What a text of a program is, and what is said of any text: the program that it is, or why and where it is refused.
use Rattle.std.specs.Prelude.{◌≡◌, ℕ, suc, ◌<◌, ◌≤◌, true, ◌⊎◌, List, [], ◌∷◌, ◌++◌, length, take}
use Rattle.semantics.specs.Programs.{Program}
use Rattle.grammar.specs.Letters.{Letter, Tally, bytes, tally}
use Rattle.grammar.specs.Words.{Word, are_names}
use Rattle.grammar.specs.Constants.{read_program}
use Rattle.grammar.specs.Sayable.{FitLines, Sixteen}
use Rattle.grammar.specs.Written.{write_lines}

-- a program as it is written, with spellings for its names
pub record Writing : Type 0 where
  pub names : List Word
  pub are : are_names names ≡ true
  pub few : length names ≤ 64
  pub written : Program (List ℕ)
  pub used : ℕ
  pub fits : FitLines Sixteen written 0 used
  pub enough : used ≤ length names

unfoldable pub letters : Writing → List Letter
unfolding write_lines
letters w = write_lines w.names w.written []

-- t is a text of p: p's lines, each with a newline behind it, of which the last may be left out
pub record Reads (t : List ℕ) (p : Program ℕ) : Type 0 where
  pub writing : Writing
  pub is : read_program writing.written ≡ p
  pub lines : (bytes (letters writing) ≡ t) ⊎ (bytes (letters writing) ≡ t ++ 10 ∷ [])

-- some program's text begins with the first i bytes of t
pub record GoesOn (t : List ℕ) (i : ℕ) : Type 0 where
  pub program : Program ℕ
  pub more : List ℕ
  pub reads : Reads (take i t ++ more) program

-- a byte begins mark 2,049, or an again that stands 9 deep: what was counted before the byte, and with it
pub data Passes (c d : Tally) : Type 0 where
  many : c.marks ≡ 2048 → d.marks ≡ 2049 → Passes c d
  deep : c.level ≡ 8 → d.level ≡ 9 → Passes c d

-- some program's text begins with t up to byte i, and that byte begins what is too much
pub record BeginsOver (t : List ℕ) (i : ℕ) : Type 0 where
  pub inside : i < length t
  pub writing : Writing
  pub more : List ℕ
  pub is : bytes (letters writing) ≡ take (suc i) t ++ more
  pub over : Passes (tally (take i (letters writing))) (tally (take (suc i) (letters writing)))

-- no program at i: one goes on so up to byte i, and none with it, or the text stops too soon
pub data Stops (t : List ℕ) (i : ℕ) : Type 0 where
  wrong : i < length t → (GoesOn t (suc i) → ⊥) → Stops t i
  short : i ≡ length t → ((p : Program ℕ) → Reads t p → ⊥) → Stops t i

pub record NoProgram (t : List ℕ) (i : ℕ) : Type 0 where
  pub goes : GoesOn t i
  pub stops : Stops t i

-- too much at i: too many bytes, too many marks, or an again too deep
pub data TooMuch (t : List ℕ) (i : ℕ) : Type 0 where
  long : 131072 < length t → i ≡ 131072 → TooMuch t i
  over : BeginsOver t i → TooMuch t i

pub data Verdict : Type 0 where
  taken : Program ℕ → Verdict
  no_program : ℕ → Verdict
  too_much : ℕ → Verdict

-- of several faults the one at the earliest place, and too much before no program at the same place
pub data Judged (t : List ℕ) : Verdict → Type 0 where
  is_taken : {p : Program ℕ} → Reads t p → ((i : ℕ) → TooMuch t i → ⊥) → Judged t (taken p)
  is_no_program : {i : ℕ} → NoProgram t i → ((j : ℕ) → j ≤ i → TooMuch t j → ⊥) → Judged t (no_program i)
  is_too_much : {i : ℕ} → TooMuch t i → ((j : ℕ) → j < i → TooMuch t j → ⊥) → ((j : ℕ) → j < i → NoProgram t j → ⊥) → Judged t (too_much i)
