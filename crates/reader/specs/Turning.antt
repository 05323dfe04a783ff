-- What the code's values say in the automaton's words.
use Rattle.std.specs.Prelude.{◌≡◌, ℕ, ◌-◌, ◌^◌, ◌<◌, ◌≤◌, List, [], ◌∷◌, ◌++◌, Some, None, Option}
use Rattle.std.specs.Option.{option_to_list}
use Rattle.semantics.specs.Shapes.{pick}
use Rattle.grammar.specs.Letters.{Flag, inside, begins, opens, closes}
use Rattle.grammar.specs.Words.{Word}
use Rattle.grammar.specs.Moves.{operands, head_rest, Ended, no, ended, Move, stop, move}
use Rattle.grammar.specs.declared.symbol.Symbol.{Symbol}
use Rattle.grammar.specs.declared.symbol.Head.{Head}
use Rattle.reader.specs.declared.turn.Mark.{Mark}
use Rattle.reader.specs.declared.turn.Ending.{Ending}
use Rattle.reader.specs.declared.turn.Turn.{Turn}
use Rattle.reader.specs.Pushed.{symbols_of}
use Rattle.reader.specs.Names.{part}

abbrev pub flag_of : Mark → Flag
flag_of Mark.Inside = inside
flag_of Mark.Begins = begins
flag_of Mark.Opens = opens
flag_of Mark.Closes = closes

-- the word so far: none, or the text from where it began up to e
abbrev pub word_from : List ℕ → ℕ → Option ℕ → Word
word_from t e None = []
word_from t e (Some f) = part t f e

abbrev pub move_as : List ℕ → ℕ → Turn → Move
move_as t e x = move (flag_of x.mark) (option_to_list x.step) (symbols_of x.pushes) (word_from t e x.word) x.value

abbrev pub move_or : List ℕ → ℕ → Move → Option Turn → Move
move_or t e other None = other
move_or t e other (Some x) = move_as t e x

abbrev pub move_of : List ℕ → ℕ → Option Turn → Move
move_of t e r = move_or t e stop r

abbrev pub ended_as : List Word → Word → Ending → Ended
ended_as ns w x = ended (pick x.named (ns ++ w ∷ []) ns) (option_to_list x.step) (symbols_of x.pushes)

abbrev pub ended_of : List Word → Word → Option Ending → Ended
ended_of ns w None = no
ended_of ns w (Some x) = ended_as ns w x

-- the number so far is below its limit
abbrev pub Fit : Symbol → ℕ → Type 0
Fit Symbol.Lines v = Unit {0}
Fit Symbol.Body v = Unit {0}
Fit (Symbol.Byte c) v = Unit {0}
Fit (Symbol.Target x) v = Unit {0}
Fit Symbol.Expr v = Unit {0}
Fit Symbol.Word v = Unit {0}
Fit (Symbol.Binary a) v = Unit {0}
Fit (Symbol.Number p) v = Unit {0}
Fit (Symbol.Digits p) v = v < 2 ^ 32
Fit (Symbol.Hex n) v = (n ≤ 16) × (v < 16 ^ (16 - n))
Fit (Symbol.Operands n) v = Unit {0}
Fit (Symbol.First k) v = Unit {0}
Fit (Symbol.More k) v = Unit {0}
Fit (Symbol.Item k) v = Unit {0}
Fit (Symbol.Step f) v = Unit {0}

-- so many operands more than one follow at once, or something else does
abbrev pub Opens : Head → Option ℕ → Type 0
Opens h None = (n : ℕ) → head_rest h ≡ operands n → ⊥
Opens h (Some n) = head_rest h ≡ operands n
