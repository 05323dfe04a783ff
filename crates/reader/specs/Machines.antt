-- The automaton's state that a machine stands for.
use Rattle.std.specs.Prelude.{◌≡◌, ℕ, ◌+◌, ◌<◌, ◌≤◌, Bool, true, false, List, [], ◌∷◌, ◌++◌, length, take, drop, Some, None, Option, slice_index, slice_index_or}
use Rattle.std.specs.Option.{option_to_list}
use Rattle.program.specs.declared.step.Step.{Step}
use Rattle.grammar.specs.declared.symbol.Symbol.{Symbol}
use Rattle.grammar.specs.declared.symbol.Target.{Target}
use Rattle.grammar.specs.Words.{shaped, are_names}
use Rattle.grammar.specs.Automaton.{State, stuck, at, settle, top_move, moved, move_flag, next, next_flag}
use Rattle.reader.specs.declared.machine.Machine.{Machine}
use Rattle.reader.specs.declared.turn.Mark.{Mark}
use Rattle.reader.specs.declared.stepping.Said.{Said}
use Rattle.reader.specs.declared.stepping.Advance.{Advance}
use Rattle.reader.specs.Names.{part, spellings}
use Rattle.reader.specs.Turning.{flag_of, Fit}

-- with i bytes of t read, and these steps said
unfoldable pub state_of : List ℕ → ℕ → Machine → List Step → State
state_of t i m out = at (spellings t (take m.count m.names)) out (drop m.top m.stack) (part t m.word i) m.value

-- a number so far is only that of the topmost symbol
abbrev pub Plain : Symbol → Type 0
Plain Symbol.Lines = Unit {0}
Plain Symbol.Body = Unit {0}
Plain (Symbol.Byte c) = Unit {0}
Plain (Symbol.Target x) = Unit {0}
Plain Symbol.Expr = Unit {0}
Plain Symbol.Word = Unit {0}
Plain (Symbol.Binary a) = Unit {0}
Plain (Symbol.Number p) = Unit {0}
Plain (Symbol.Digits p) = ⊥
Plain (Symbol.Hex n) = ⊥
Plain (Symbol.Operands n) = Unit {0}
Plain (Symbol.First k) = Unit {0}
Plain (Symbol.More k) = Unit {0}
Plain (Symbol.Item k) = Unit {0}
Plain (Symbol.Step f) = Unit {0}

pub data Plains : List Symbol → Type 0 where
  none : Plains []
  more : {s : Symbol} {ss : List Symbol} → Plain s → Plains ss → Plains (s ∷ ss)

pub data Fits : List Symbol → ℕ → Type 0 where
  empty : {v : ℕ} → Fits [] v
  over : {s : Symbol} {ss : List Symbol} {v : ℕ} → Fit s v → Plains ss → Fits (s ∷ ss) v

-- with i bytes read, and room for so many symbols more
pub record Good (i spare : ℕ) (m : Machine) : Type 0 where
  pub few : m.count ≤ 64
  pub wide : length m.stack ≡ 2112
  pub spans : length m.names ≡ 64
  pub begun : m.word ≤ i
  pub deep : m.top ≤ 2112
  pub room : spare ≤ m.top
  pub fits : Fits (drop m.top m.stack) m.value

-- one symbol less, and these in its place
pub record Replaced (old : List Symbol) (top : ℕ) (new : List Symbol) (low : ℕ) (s : List Symbol) : Type 0 where
  pub is : drop low new ≡ s ++ drop (top + 1) old
  pub down : low + length s ≡ top + 1
  pub long : length new ≡ length old

-- the topmost symbol
pub record TopIs (m : Machine) (s : Symbol) : Type 0 where
  pub there : m.top < length m.stack
  pub is : slice_index_or m.stack m.top Symbol.Lines ≡ s

abbrev pub Topmost : Machine → Option Symbol → Type 0
Topmost m None = length m.stack ≤ m.top
Topmost m (Some s) = TopIs m s

-- these in its place, with a new word from `word` on, and no number
pub record Placed (old new : Machine) (s : List Symbol) (word : ℕ) : Type 0 where
  pub down : Replaced old.stack old.top new.stack new.top s
  pub names : new.names ≡ old.names
  pub count : new.count ≡ old.count
  pub hints : new.hints ≡ old.hints
  pub begins : new.word ≡ word
  pub value : new.value ≡ 0
  pub dirty : new.clean ≡ false

-- how the topmost word or number is settled before byte b
pub record Settled (t : List ℕ) (i b : ℕ) (old new : Machine) (s : Said) : Type 0 where
  pub is : (out : List Step) → settle (state_of t i old out) b ≡ state_of t i new (option_to_list s.step ++ out)
  pub good : Good i 8 new

abbrev pub Settles : List ℕ → ℕ → ℕ → Machine → Machine → Option Said → Type 0
Settles t i b old new None = (out : List Step) → settle (state_of t i old out) b ≡ stuck
Settles t i b old new (Some s) = Settled t i b old new s

-- how the byte at i is read by the topmost symbol
pub record Turned (t : List ℕ) (i : ℕ) (old new : Machine) (x : Advance) : Type 0 where
  pub is : (out : List Step) → moved (top_move (state_of t i old out) (slice_index t i)) (state_of t i old out) ≡ state_of t (i + 1) new (option_to_list x.step ++ out)
  pub flag : (out : List Step) → move_flag (top_move (state_of t i old out) (slice_index t i)) ≡ flag_of x.mark
  pub good : Good (i + 1) 0 new

abbrev pub Turns : List ℕ → ℕ → Machine → Machine → Option Advance → Type 0
Turns t i old new None = (out : List Step) → moved (top_move (state_of t i old out) (slice_index t i)) (state_of t i old out) ≡ stuck
Turns t i old new (Some x) = Turned t i old new x

-- how the byte at i is read
pub record Advanced (t : List ℕ) (i : ℕ) (old new : Machine) (x : Advance) : Type 0 where
  pub is : (out : List Step) → next (state_of t i old out) (slice_index t i) ≡ state_of t (i + 1) new (option_to_list x.step ++ (option_to_list x.before ++ out))
  pub flag : (out : List Step) → next_flag (state_of t i old out) (slice_index t i) ≡ flag_of x.mark
  pub good : Good (i + 1) 0 new

abbrev pub Advances : List ℕ → ℕ → Machine → Machine → Option Advance → Type 0
Advances t i old new None = (out : List Step) → next (state_of t i old out) (slice_index t i) ≡ stuck
Advances t i old new (Some x) = Advanced t i old new x

-- BYTES READ IN PLACE

-- what is noted beside the state, with i bytes of t read: a hint for each sum, names that are all names, and a word so
-- far that is shaped as one, where that is noted
pub record Hinted (t : List ℕ) (i : ℕ) (m : Machine) : Type 0 where
  pub slots : length m.hints ≡ 256
  pub named : are_names (spellings t (take m.count m.names)) ≡ true
  pub shape : m.clean ≡ true → shaped (part t m.word i) ≡ true

-- before the byte at i is read
pub record Reading (t : List ℕ) (i : ℕ) (m : Machine) : Type 0 where
  pub inside : i < length t
  pub good : Good i 8 m
  pub hinted : Hinted t i m

-- before a word or number may end at i
pub record Standing (t : List ℕ) (i : ℕ) (m : Machine) : Type 0 where
  pub good : Good i 16 m
  pub hinted : Hinted t i m

-- the byte at i belongs to the topmost symbol, and says no step
pub record ReadOn (t : List ℕ) (i : ℕ) (old new : Machine) (mark : Mark) : Type 0 where
  pub still : (out : List Step) → settle (state_of t i old out) (slice_index t i) ≡ state_of t i old out
  pub turned : Turned t i old new (record { before = None; step = None; mark = mark })
  pub hinted : Hinted t (i + 1) new

-- whether it is so read; where it is not, nothing has changed
abbrev pub ReadsOn : List ℕ → ℕ → Machine → Machine → Mark → Bool → Type 0
ReadsOn t i old new mark true = ReadOn t i old new mark
ReadsOn t i old new mark false = new ≡ old

-- the word or number on top has ended before byte b
pub record EndedNow (t : List ℕ) (i b : ℕ) (old new : Machine) (s : Said) : Type 0 where
  pub settled : Settled t i b old new s
  pub hinted : Hinted t i new

-- whether it ends in one of the common ways; where it does not, nothing has changed
abbrev pub EndsNow : List ℕ → ℕ → ℕ → Machine → Machine → Option Said → Type 0
EndsNow t i b old new None = new ≡ old
EndsNow t i b old new (Some s) = EndedNow t i b old new s

-- a word that is read
pub data Spells : Symbol → Type 0 where
  in_expression : Spells Symbol.Word
  as_target : {x : Target} → Spells (Symbol.Target x)

-- where a statement may begin
pub data BetweenLines : Symbol → Type 0 where
  outside : BetweenLines Symbol.Lines
  within : BetweenLines Symbol.Body
