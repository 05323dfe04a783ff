-- Texts judged.
use Rattle.std.specs.Prelude.{◌≡◌, ℕ, suc, ◌≤◌, Bool, false, ◌&&◌, List, [], ◌∷◌, ◌++◌, take, Ok, Err, Result, ◌==◌}
use Rattle.program.specs.declared.step.Step.{Step}
use Rattle.grammar.specs.declared.symbol.Symbol.{Symbol}
use Rattle.grammar.specs.Letters.{Flag, inside, begins, opens, closes, Tally}
use Rattle.grammar.specs.Automaton.{State, start, next, next_flag, is_lines, took, refused_7, refused_8, answer_to}
use Rattle.reader.specs.declared.turn.Mark.{Mark}
use Rattle.reader.specs.declared.judging.Count.{Count}
use Rattle.reader.specs.declared.judging.Flaw.{Flaw}

abbrev pub tally_of : Count → Tally
tally_of c = record { marks = c.marks; level = c.level }

abbrev pub is_newline : Symbol → Bool
is_newline Symbol.Lines = false
is_newline Symbol.Body = false
is_newline (Symbol.Byte c) = 10 == c
is_newline (Symbol.Target x) = false
is_newline Symbol.Expr = false
is_newline Symbol.Word = false
is_newline (Symbol.Binary a) = false
is_newline (Symbol.Number p) = false
is_newline (Symbol.Digits p) = false
is_newline (Symbol.Hex n) = false
is_newline (Symbol.Operands n) = false
is_newline (Symbol.First k) = false
is_newline (Symbol.More k) = false
is_newline (Symbol.Item k) = false
is_newline (Symbol.Step f) = false

-- nothing is still to come; just the newline of the last line is
unfoldable pub only_lines : List Symbol → Bool
unfolding is_lines
only_lines [] = false
only_lines (s ∷ []) = is_lines s
only_lines (s ∷ t ∷ ss) = false

unfoldable pub line_ends : List Symbol → Bool
unfolding only_lines
line_ends [] = false
line_ends (s ∷ ss) = is_newline s && only_lines ss

-- the byte where a mark begins
abbrev pub place_of : Mark → ℕ → List ℕ
place_of Mark.Inside i = []
place_of Mark.Begins i = i ∷ []
place_of Mark.Opens i = i ∷ []
place_of Mark.Closes i = i ∷ []

abbrev pub place_at : Flag → ℕ → List ℕ
place_at inside i = []
place_at begins i = i ∷ []
place_at opens i = i ∷ []
place_at closes i = i ∷ []

-- where the marks of a text begin
unfoldable pub places_from : State → ℕ → List ℕ → List ℕ
unfolding next next_flag
places_from q i [] = []
places_from q i (b ∷ t) = place_at (next_flag q b) i ++ places_from (next q b) (suc i) t

unfoldable pub mark_places : List ℕ → List ℕ
unfolding places_from start
mark_places t = places_from start 0 t

-- steps in order, with their places; or why and where there are none
abbrev pub ReadsText : List ℕ → List Step → List ℕ → Result ℕ Flaw → Type 0
ReadsText t steps places (Ok n) = (answer_to t ≡ took (take n steps)) × (take n places ≡ mark_places t) × (n ≤ 2048)
ReadsText t steps places (Err (Flaw.NoProgram i)) = answer_to t ≡ refused_7 i
ReadsText t steps places (Err (Flaw.TooMuch i)) = answer_to t ≡ refused_8 i
