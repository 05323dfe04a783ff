-- The automaton that reads a text, one byte after the other.
use Rattle.std.specs.Prelude.{ℕ, suc, Bool, true, false, ◌||◌, List, [], ◌∷◌, ◌++◌, ◌==◌, nat_lt}
use Rattle.semantics.specs.Shapes.{pick}
use Rattle.program.specs.declared.step.Step.{Step}
use Rattle.grammar.specs.Letters.{Flag, inside, Tally, nothing, tally_flag}
use Rattle.program.specs.Spelling.{spell_program}
use Rattle.grammar.specs.Words.{Word}
use Rattle.grammar.specs.Texts.{Verdict, taken, no_program, too_much}
use Rattle.grammar.specs.Moves.{belongs, Ended, no, ended, ends, Move, stop, move, moves}
use Rattle.grammar.specs.declared.symbol.Symbol.{Symbol}

-- no program goes on so; or: names so far, steps so far (the last one first), what is still to come, and of a word or number that has
-- begun the letters and the number so far
pub data State : Type 0 where
  stuck : State
  at : List Word → List Step → List Symbol → Word → ℕ → State

unfoldable pub start : State
start = at [] [] (Symbol.Lines ∷ []) [] 0

-- a word or number on top ends where the byte does not belong to it
unfoldable pub settled : Ended → List Step → List Symbol → State
settled no out rest = stuck
settled (ended ns es s) out rest = at ns (es ++ out) (s ++ rest) [] 0

unfoldable pub settle : State → ℕ → State
unfolding belongs ends settled
settle stuck b = stuck
settle (at ns out [] w v) b = stuck
settle (at ns out (s ∷ rest) w v) b = pick (belongs s b) (at ns out (s ∷ rest) w v) (settled (ends ns s w v) out rest)

-- the byte is read by what is then on top
unfoldable pub top_move : State → ℕ → Move
unfolding moves
top_move stuck b = stop
top_move (at ns out [] w v) b = stop
top_move (at ns out (s ∷ rest) w v) b = moves ns s w v b

unfoldable pub moved : Move → State → State
moved m stuck = stuck
moved m (at ns out [] w v) = stuck
moved stop (at ns out (s ∷ rest) w v) = stuck
moved (move x es s u n) (at ns out (t ∷ rest) w v) = at ns (es ++ out) (s ++ rest) u n

unfoldable pub next : State → ℕ → State
unfolding settle top_move moved
next q b = moved (top_move (settle q b) b) (settle q b)

-- where the byte stands in a mark
unfoldable pub move_flag : Move → Flag
move_flag stop = inside
move_flag (move x es s u n) = x

unfoldable pub next_flag : State → ℕ → Flag
unfolding settle top_move move_flag
next_flag q b = move_flag (top_move (settle q b) b)

unfoldable pub run : State → List ℕ → State
unfolding next
run q [] = q
run q (b ∷ t) = run (next q b) t

-- what is counted along bytes
unfoldable pub run_tally : State → Tally → List ℕ → Tally
unfolding next next_flag tally_flag
run_tally q c [] = c
run_tally q c (b ∷ t) = run_tally (next q b) (tally_flag (next_flag q b) c) t

-- between lines, outside of every again
unfoldable pub is_lines : Symbol → Bool
is_lines Symbol.Lines = true
is_lines Symbol.Body = false
is_lines (Symbol.Byte c) = false
is_lines (Symbol.Target x) = false
is_lines Symbol.Expr = false
is_lines Symbol.Word = false
is_lines (Symbol.Binary a) = false
is_lines (Symbol.Number p) = false
is_lines (Symbol.Digits p) = false
is_lines (Symbol.Hex n) = false
is_lines (Symbol.Operands n) = false
is_lines (Symbol.First k) = false
is_lines (Symbol.More k) = false
is_lines (Symbol.Item k) = false
is_lines (Symbol.Step f) = false

unfoldable pub between : State → Bool
unfolding is_lines
between stuck = false
between (at ns out [] w v) = false
between (at ns out (s ∷ []) w v) = is_lines s
between (at ns out (s ∷ t ∷ rest) w v) = false

unfoldable pub is_stuck : State → Bool
is_stuck stuck = true
is_stuck (at ns out s w v) = false

-- the first list backward, before the second
abbrev pub onto : List Step → List Step → List Step
onto [] o = o
onto (a ∷ r) o = onto r (a ∷ o)

-- the steps so far, in their order
unfoldable pub steps_of : State → List Step
steps_of stuck = []
steps_of (at ns out s w v) = onto out []

-- at the text's end the last newline is read, where it is left out
unfoldable pub last : State → State
unfolding between next
last q = pick (between q) q (next q 10)

-- what is said of a text: the steps of its program; or at which byte it is no program, or too much
pub data Answer : Type 0 where
  took : List Step → Answer
  refused_7 : ℕ → Answer
  refused_8 : ℕ → Answer

-- the answer that a verdict is
unfoldable pub answer_of : Verdict → Answer
unfolding spell_program
answer_of (taken p) = took (spell_program p [])
answer_of (no_program i) = refused_7 i
answer_of (too_much i) = refused_8 i

unfoldable pub too_much_in : Tally → Bool
too_much_in c = nat_lt 2048 c.marks || nat_lt 8 c.level

unfoldable pub judge : State → Tally → ℕ → List ℕ → Answer
unfolding between last steps_of next next_flag is_stuck too_much_in tally_flag
judge q c i [] = pick (between (last q)) (took (steps_of (last q))) (refused_7 i)
judge q c i (b ∷ t) =
    pick (i == 131072) (refused_8 i)
    (pick (is_stuck (next q b)) (refused_7 i)
    (pick (too_much_in (tally_flag (next_flag q b) c)) (refused_8 i) (judge (next q b) (tally_flag (next_flag q b) c) (suc i) t)))

unfoldable pub answer_to : List ℕ → Answer
unfolding judge start
answer_to t = judge start nothing 0 t
