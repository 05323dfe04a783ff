-- The table of the automaton: what the topmost symbol becomes where a word or number ends, and what it becomes with a byte.
use Rattle.std.specs.Prelude.{ℕ, zero, suc, ◌+◌, ◌-◌, ◌*◌, Bool, true, false, ◌&&◌, ◌||◌, List, [], ◌∷◌, ◌++◌, length, Some, None, codes, Option, ◌==◌, nat_le, nat_lt}
use Rattle.semantics.specs.Shapes.{pick}
use Rattle.semantics.specs.declared.operation.Binary.{Binary as Two}
use Rattle.program.specs.Words.{sliced}
use Rattle.program.specs.declared.step.Step.{Step}
use Rattle.grammar.specs.Letters.{Flag, inside, begins, opens, closes}
use Rattle.grammar.specs.Words.{Word, same_word, find, is_some, begins_some, itself, head_word, heads, binary_word, binaries, is_digit, in_word, shaped, is_name}
use Rattle.grammar.specs.Constants.{canonical}
use Rattle.grammar.specs.declared.symbol.Head.{Head}
use Rattle.grammar.specs.declared.symbol.Along.{Along}
use Rattle.grammar.specs.declared.symbol.Target.{Target}
use Rattle.grammar.specs.declared.symbol.Bracket.{Bracket}
use Rattle.grammar.specs.declared.symbol.Number.{Number}
use Rattle.grammar.specs.declared.symbol.Symbol.{Symbol}

-- NAMES

-- the number of a name: that of its first coming, or the next one
unfoldable pub place : List Word → Word → ℕ
unfolding same_word
place [] w = 0
place (u ∷ us) w = pick (same_word w u) 0 (suc (place us w))

unfoldable pub with_name : List Word → Word → List Word
unfolding is_some
with_name ns w = pick (is_some itself ns w) ns (ns ++ w ∷ [])

-- a name that has come, or a new one where there is room
unfoldable pub can_name : List Word → Word → Bool
unfolding is_name is_some
can_name ns w = is_name w && (is_some itself ns w || nat_lt (length ns) 64)

-- it may still become a name
unfoldable pub viable_name : List Word → Word → Bool
unfolding shaped begins_some
viable_name ns w = shaped w && (begins_some itself ns w || nat_lt (length ns) 64)

-- it may still become a word that begins an expression, or a name
unfoldable pub viable : List Word → Word → Bool
unfolding begins_some head_word heads viable_name
viable ns w = begins_some head_word heads w || viable_name ns w

-- PUSHES

unfoldable pub spelled : Word → List Symbol → List Symbol
spelled [] s = s
spelled (b ∷ w) s = Symbol.Byte b ∷ spelled w s

-- behind an operation's head: (e, with so many more operands
unfoldable pub operands : ℕ → List Symbol
operands n = Symbol.Byte 40 ∷ Symbol.Expr ∷ Symbol.Operands n ∷ []

unfoldable pub bracket : Bracket → List Symbol → List Symbol
bracket k s = Symbol.Byte 32 ∷ Symbol.Byte 91 ∷ Symbol.First k ∷ s

-- the step that a word says, where it says one, and what follows it
unfoldable pub head_step : Head → List Step
head_step Head.In = []
head_step Head.Count = []
head_step (Head.Each k) = Step.Each k ∷ []
head_step (Head.Both k) = Step.Both k ∷ []
head_step Head.Choose = Step.Choose ∷ []
head_step Head.Fold = []
head_step Head.Scan = []
head_step Head.Shape = Step.Shape ∷ []
head_step Head.Turn = Step.Turn ∷ []
head_step Head.Part = Step.Part ∷ []
head_step Head.Join = []
head_step Head.Rows = Step.Rows ∷ []

unfoldable pub head_rest : Head → List Symbol
unfolding operands bracket
head_rest Head.In = Symbol.Byte 32 ∷ Symbol.Number Number.Input ∷ []
head_rest Head.Count = Symbol.Byte 32 ∷ Symbol.Number Number.Count ∷ []
head_rest (Head.Each k) = operands 0
head_rest (Head.Both k) = operands 1
head_rest Head.Choose = operands 2
head_rest Head.Fold = Symbol.Byte 32 ∷ Symbol.Binary Along.Fold ∷ []
head_rest Head.Scan = Symbol.Byte 32 ∷ Symbol.Binary Along.Scan ∷ []
head_rest Head.Shape = bracket Bracket.Numbers (operands 0)
head_rest Head.Turn = bracket Bracket.Numbers (operands 0)
head_rest Head.Part = bracket Bracket.Parts (operands 0)
head_rest Head.Join = Symbol.Byte 32 ∷ Symbol.Number Number.Join ∷ []
head_rest Head.Rows = operands 1

unfoldable pub target_step : Target → ℕ → Step
target_step Target.Let k = Step.Let k
target_step Target.Put k = Step.Put k

unfoldable pub target_rest : Target → List Symbol
unfolding spelled bracket
target_rest Target.Let = spelled (codes " = ") (Symbol.Expr ∷ [])
target_rest Target.Put = bracket Bracket.Parts (spelled (codes " = ") (Symbol.Expr ∷ []))

unfoldable pub along_step : Along → Two → ℕ → Step
along_step Along.Fold k x = Step.Fold k x
along_step Along.Scan k x = Step.Scan k x

unfoldable pub number_step : Number → ℕ → List Step
unfolding along_step
number_step Number.Input v = Step.Input v ∷ []
number_step Number.Count v = Step.Count v ∷ []
number_step (Number.Along a k) v = along_step a k v ∷ []
number_step Number.Join v = Step.Join v ∷ []
number_step Number.Again v = Step.Again v ∷ []
number_step Number.Item v = Step.Item v ∷ []
number_step Number.From v = []
number_step (Number.Step f b) v = []
number_step (Number.Many f b s) v = sliced f b s v ∷ []

unfoldable pub number_rest : Number → ℕ → List Symbol
unfolding operands
number_rest Number.Input v = []
number_rest Number.Count v = []
number_rest (Number.Along a k) v = operands 0
number_rest Number.Join v = operands 1
number_rest Number.Again v = Symbol.Byte 10 ∷ Symbol.Body ∷ []
number_rest Number.Item v = []
number_rest Number.From v = Symbol.Byte 58 ∷ Symbol.Step v ∷ []
number_rest (Number.Step f b) v = Symbol.Byte 58 ∷ Symbol.Number (Number.Many f b v) ∷ []
number_rest (Number.Many f b s) v = []

-- ENDS: a word or number ends where a byte does not belong to it

unfoldable pub belongs : Symbol → ℕ → Bool
unfolding in_word is_digit
belongs Symbol.Lines b = true
belongs Symbol.Body b = true
belongs (Symbol.Byte c) b = true
belongs (Symbol.Target x) b = in_word b
belongs Symbol.Expr b = true
belongs Symbol.Word b = in_word b
belongs (Symbol.Binary a) b = in_word b
belongs (Symbol.Number p) b = true
belongs (Symbol.Digits p) b = is_digit b
belongs (Symbol.Hex n) b = true
belongs (Symbol.Operands n) b = true
belongs (Symbol.First k) b = true
belongs (Symbol.More k) b = true
belongs (Symbol.Item k) b = true
belongs (Symbol.Step f) b = true

-- names from then on, a step or none, and what takes the topmost symbol's place
pub data Ended : Type 0 where
  no : Ended
  ended : List Word → List Step → List Symbol → Ended

unfoldable pub name_ends : List Word → Word → (ℕ → Step) → List Symbol → Ended
unfolding can_name with_name place
name_ends ns w step rest = pick (can_name ns w) (ended (with_name ns w) (step (place ns w) ∷ []) rest) no

unfoldable pub word_ends : List Word → Word → Option Head → Ended
unfolding head_step head_rest name_ends
word_ends ns w (Some h) = ended ns (head_step h) (head_rest h)
word_ends ns w None = name_ends ns w (λ k. Step.Name k) []

unfoldable pub binary_ends : List Word → Along → Option Two → Ended
binary_ends ns a (Some k) = ended ns [] (Symbol.Byte 32 ∷ Symbol.Number (Number.Along a k) ∷ [])
binary_ends ns a None = no

unfoldable pub ends : List Word → Symbol → Word → ℕ → Ended
unfolding word_ends find head_word heads name_ends target_step target_rest binary_ends binary_word binaries number_step number_rest
ends ns Symbol.Lines w v = no
ends ns Symbol.Body w v = no
ends ns (Symbol.Byte c) w v = no
ends ns (Symbol.Target x) w v = name_ends ns w (λ k. target_step x k) (target_rest x)
ends ns Symbol.Expr w v = no
ends ns Symbol.Word w v = word_ends ns w (find head_word heads w)
ends ns (Symbol.Binary a) w v = binary_ends ns a (find binary_word binaries w)
ends ns (Symbol.Number p) w v = no
ends ns (Symbol.Digits p) w v = ended ns (number_step p v) (number_rest p v)
ends ns (Symbol.Hex n) w v = no
ends ns (Symbol.Operands n) w v = no
ends ns (Symbol.First k) w v = no
ends ns (Symbol.More k) w v = no
ends ns (Symbol.Item k) w v = no
ends ns (Symbol.Step f) w v = no

-- MOVES: a byte, read by the topmost symbol

-- where it stands in a mark, a step or none, what takes the topmost symbol's place, the word and the number so far
pub data Move : Type 0 where
  stop : Move
  move : Flag → List Step → List Symbol → Word → ℕ → Move

unfoldable pub push : List Symbol → Move
push s = move inside [] s [] 0

unfoldable pub when : Bool → Move → Move
when true m = m
when false m = stop

-- the first byte of a statement, and what else may come
unfoldable pub line_move : Symbol → Move → ℕ → Move
unfolding spelled when
line_move here other b =
    pick (b == 108) (move begins [] (spelled (codes "et ") (Symbol.Target Target.Let ∷ Symbol.Byte 10 ∷ here ∷ [])) [] 0)
    (pick (b == 112) (move begins [] (spelled (codes "ut ") (Symbol.Target Target.Put ∷ Symbol.Byte 10 ∷ here ∷ [])) [] 0)
    (pick (b == 115) (move begins (Step.Show ∷ []) (spelled (codes "how ") (Symbol.Expr ∷ Symbol.Byte 10 ∷ here ∷ [])) [] 0)
    (pick (b == 97) (move opens [] (spelled (codes "gain ") (Symbol.Number Number.Again ∷ Symbol.Byte 10 ∷ here ∷ [])) [] 0) other)))

-- the first digit of a number
unfoldable pub digit_move : Flag → Number → List Symbol → ℕ → Move
unfolding is_digit when
digit_move x p rest b = when (is_digit b) (move x [] (Symbol.Digits p ∷ rest) [] (b - 48))

unfoldable pub item_number : Bracket → Number
item_number Bracket.Numbers = Number.Item
item_number Bracket.Parts = Number.From

unfoldable pub is_hex : ℕ → Bool
unfolding is_digit
is_hex b = is_digit b || (nat_le 97 b && nat_le b 102)

unfoldable pub hex_of : ℕ → ℕ
hex_of b = pick (nat_lt b 97) (b - 48) (b - 87)

unfoldable pub hex_move : ℕ → ℕ → Move
unfolding canonical
hex_move zero x = stop
hex_move (suc zero) x = move inside (Step.Constant (canonical x) ∷ []) [] [] 0
hex_move (suc (suc n)) x = move inside [] (Symbol.Hex (suc n) ∷ []) [] x

unfoldable pub operands_move : ℕ → ℕ → Move
unfolding when push
operands_move zero b = when (b == 41) (push [])
operands_move (suc n) b = when (b == 44) (push (Symbol.Byte 32 ∷ Symbol.Expr ∷ Symbol.Operands n ∷ []))

unfoldable pub moves : List Word → Symbol → Word → ℕ → ℕ → Move
unfolding line_move spelled when push viable viable_name begins_some binary_word binaries digit_move item_number is_digit is_hex hex_of hex_move operands_move
moves ns Symbol.Lines w v b = line_move Symbol.Lines stop b
moves ns Symbol.Body w v b =
    line_move Symbol.Body (when (b == 101) (move closes (Step.End ∷ []) (spelled (codes "nd") []) [] 0)) b
moves ns (Symbol.Byte c) w v b = when (b == c) (push [])
moves ns (Symbol.Target x) w v b =
    when (viable_name ns (w ++ b ∷ [])) (move inside [] (Symbol.Target x ∷ []) (w ++ b ∷ []) 0)
moves ns Symbol.Expr w v b =
    pick (b == 35) (move begins [] (Symbol.Hex 16 ∷ []) [] 0) (when (viable ns (b ∷ [])) (move begins [] (Symbol.Word ∷ []) (b ∷ []) 0))
moves ns Symbol.Word w v b = when (viable ns (w ++ b ∷ [])) (move inside [] (Symbol.Word ∷ []) (w ++ b ∷ []) 0)
moves ns (Symbol.Binary a) w v b =
    when (begins_some binary_word binaries (w ++ b ∷ [])) (move inside [] (Symbol.Binary a ∷ []) (w ++ b ∷ []) 0)
moves ns (Symbol.Number p) w v b = digit_move inside p [] b
moves ns (Symbol.Digits p) w v b =
    when (is_digit b && (nat_le 1 v && nat_lt (v * 10 + (b - 48)) 4294967296)) (move inside [] (Symbol.Digits p ∷ []) [] (v * 10 + (b - 48)))
moves ns (Symbol.Hex n) w v b = when (is_hex b) (hex_move n (v * 16 + hex_of b))
moves ns (Symbol.Operands n) w v b = operands_move n b
moves ns (Symbol.First k) w v b = pick (b == 93) (push []) (digit_move begins (item_number k) (Symbol.More k ∷ []) b)
moves ns (Symbol.More k) w v b = pick (b == 93) (push []) (when (b == 44) (push (Symbol.Byte 32 ∷ Symbol.Item k ∷ Symbol.More k ∷ [])))
moves ns (Symbol.Item k) w v b = digit_move begins (item_number k) [] b
moves ns (Symbol.Step f) w v b =
    pick (b == 45) (push (Symbol.Number (Number.Step f true) ∷ [])) (digit_move inside (Number.Step f false) [] b)
