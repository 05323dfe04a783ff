-- The end of a text: the newline that may be left out.
use Rattle.std.proofs.Common.{◌≡◌, ℕ, zero, suc, Bool, true, false, ◌&&◌, eqb, List, [], ◌∷◌, ◌++◌, refl, ◌∙◌, arith}
use Rattle.std.proofs.lemmas.Bool.{and_parts, false≢true}
use Rattle.program.specs.declared.step.Step.{Step}
use Rattle.grammar.specs.declared.symbol.Symbol.{Symbol}
use Rattle.grammar.specs.Letters.{inside, begins}
use Rattle.grammar.specs.Words.{Word, begins_some, binary_word, binaries}
use Rattle.grammar.specs.Moves.{Move, move, push, when, viable, viable_name, moves}
use Rattle.grammar.specs.Automaton.{at, top_move, moved, is_lines, between, onto, steps_of}
use Rattle.reader.specs.Judging.{is_newline, only_lines, line_ends}
use Rattle.reader.proofs.Depths.{pendings}

pub between_is : (ns : List Word) (out : List Step) (ss : List Symbol) (w : Word) (v : ℕ) → between (at ns out ss w v) ≡ only_lines ss
unfolding between only_lines
between_is ns out [] w v = refl
between_is ns out (s ∷ []) w v = refl
between_is ns out (s ∷ t ∷ ss) w v = refl

between_not : (ns : List Word) (out : List Step) (s : Symbol) (rest : List Symbol) (w : Word) (v : ℕ) → is_lines s ≡ false → between (at ns out (s ∷ rest) w v) ≡ false
unfolding between
between_not ns out s [] w v e = e
between_not ns out s (t ∷ rest) w v e = refl

module _ (ns : List Word) (out : List Step) (rest : List Symbol) (w : Word) (v : ℕ) where
  when_not : (s : Symbol) (x : Bool) (m : Move) → between (moved m (at ns out (s ∷ rest) w v)) ≡ false → between (moved (when x m) (at ns out (s ∷ rest) w v)) ≡ false
  unfolding when moved between
  when_not s true m e = e
  when_not s false m e = refl

  newline_byte : (c : ℕ) (x : Bool) → between (moved (when x (push [])) (at ns out (Symbol.Byte c ∷ rest) w v)) ≡ (x && only_lines rest)
  unfolding when push moved between
  newline_byte c true = between_is ns out rest [] 0
  newline_byte c false = refl

  said_byte : (c : ℕ) (x : Bool) → x ≡ true → steps_of (moved (when x (push [])) (at ns out (Symbol.Byte c ∷ rest) w v)) ≡ onto out []
  unfolding when push moved steps_of
  said_byte c true e = refl
  said_byte c false e = absurd (false≢true e)

  -- what reads a newline and is then between lines
  pub newline : (s : Symbol) → between (moved (moves ns s w v 10) (at ns out (s ∷ rest) w v)) ≡ (is_newline s && only_lines rest)
  unfolding moves moved between is_lines
  newline Symbol.Lines = refl
  newline Symbol.Body = refl
  newline (Symbol.Byte c) = newline_byte c (eqb 10 c)
  newline (Symbol.Target x) = when_not (Symbol.Target x) (viable_name ns (w ++ 10 ∷ [])) (move inside [] (Symbol.Target x ∷ []) (w ++ 10 ∷ []) 0) (between_not ns out (Symbol.Target x) rest (w ++ 10 ∷ []) 0 refl)
  newline Symbol.Expr = when_not Symbol.Expr (viable ns (10 ∷ [])) (move begins [] (Symbol.Word ∷ []) (10 ∷ []) 0) (between_not ns out Symbol.Word rest (10 ∷ []) 0 refl)
  newline Symbol.Word = when_not Symbol.Word (viable ns (w ++ 10 ∷ [])) (move inside [] (Symbol.Word ∷ []) (w ++ 10 ∷ []) 0) (between_not ns out Symbol.Word rest (w ++ 10 ∷ []) 0 refl)
  newline (Symbol.Binary a) = when_not (Symbol.Binary a) (begins_some binary_word binaries (w ++ 10 ∷ [])) (move inside [] (Symbol.Binary a ∷ []) (w ++ 10 ∷ []) 0) (between_not ns out (Symbol.Binary a) rest (w ++ 10 ∷ []) 0 refl)
  newline (Symbol.Number p) = refl
  newline (Symbol.Digits p) = refl
  newline (Symbol.Hex n) = refl
  newline (Symbol.Operands zero) = refl
  newline (Symbol.Operands (suc n)) = refl
  newline (Symbol.First k) = refl
  newline (Symbol.More k) = refl
  newline (Symbol.Item k) = refl
  newline (Symbol.Step f) = refl

  pub said_newline : (s : Symbol) → is_newline s ≡ true → steps_of (moved (moves ns s w v 10) (at ns out (s ∷ rest) w v)) ≡ onto out []
  unfolding moves
  said_newline Symbol.Lines e = absurd (false≢true e)
  said_newline Symbol.Body e = absurd (false≢true e)
  said_newline (Symbol.Byte c) e = said_byte c (eqb 10 c) e
  said_newline (Symbol.Target x) e = absurd (false≢true e)
  said_newline Symbol.Expr e = absurd (false≢true e)
  said_newline Symbol.Word e = absurd (false≢true e)
  said_newline (Symbol.Binary a) e = absurd (false≢true e)
  said_newline (Symbol.Number p) e = absurd (false≢true e)
  said_newline (Symbol.Digits p) e = absurd (false≢true e)
  said_newline (Symbol.Hex n) e = absurd (false≢true e)
  said_newline (Symbol.Operands n) e = absurd (false≢true e)
  said_newline (Symbol.First k) e = absurd (false≢true e)
  said_newline (Symbol.More k) e = absurd (false≢true e)
  said_newline (Symbol.Item k) e = absurd (false≢true e)
  said_newline (Symbol.Step f) e = absurd (false≢true e)

-- the last newline is read, or it is not
pub ends_between : (ns : List Word) (out : List Step) (ss : List Symbol) (w : Word) (v : ℕ) → between (moved (top_move (at ns out ss w v) 10) (at ns out ss w v)) ≡ line_ends ss
unfolding line_ends top_move moved between
ends_between ns out [] w v = refl
ends_between ns out (s ∷ rest) w v = newline ns out rest w v s

pub ends_said : (ns : List Word) (out : List Step) (ss : List Symbol) (w : Word) (v : ℕ) → line_ends ss ≡ true → steps_of (moved (top_move (at ns out ss w v) 10) (at ns out ss w v)) ≡ onto out []
unfolding line_ends top_move
ends_said ns out [] w v e = absurd (false≢true e)
ends_said ns out (s ∷ rest) w v e = said_newline ns out rest w v s (and_parts (is_newline s) (only_lines rest) e).0

-- no step is then still to come
none_one : (s : Symbol) → is_lines s ≡ true → pendings (s ∷ []) ≡ 0
unfolding is_lines pendings
none_one Symbol.Lines e = refl
none_one Symbol.Body e = absurd (false≢true e)
none_one (Symbol.Byte c) e = absurd (false≢true e)
none_one (Symbol.Target x) e = absurd (false≢true e)
none_one Symbol.Expr e = absurd (false≢true e)
none_one Symbol.Word e = absurd (false≢true e)
none_one (Symbol.Binary a) e = absurd (false≢true e)
none_one (Symbol.Number p) e = absurd (false≢true e)
none_one (Symbol.Digits p) e = absurd (false≢true e)
none_one (Symbol.Hex n) e = absurd (false≢true e)
none_one (Symbol.Operands n) e = absurd (false≢true e)
none_one (Symbol.First k) e = absurd (false≢true e)
none_one (Symbol.More k) e = absurd (false≢true e)
none_one (Symbol.Item k) e = absurd (false≢true e)
none_one (Symbol.Step f) e = absurd (false≢true e)

pub none_pending : (ss : List Symbol) → only_lines ss ≡ true → pendings ss ≡ 0
unfolding only_lines
none_pending [] e = absurd (false≢true e)
none_pending (s ∷ []) e = none_one s e
none_pending (s ∷ t ∷ ss) e = absurd (false≢true e)

newline_pending : (s : Symbol) (rest : List Symbol) → is_newline s ≡ true → pendings (s ∷ rest) ≡ pendings rest
unfolding pendings
newline_pending Symbol.Lines rest e = absurd (false≢true e)
newline_pending Symbol.Body rest e = absurd (false≢true e)
newline_pending (Symbol.Byte c) rest e = omega arith
newline_pending (Symbol.Target x) rest e = absurd (false≢true e)
newline_pending Symbol.Expr rest e = absurd (false≢true e)
newline_pending Symbol.Word rest e = absurd (false≢true e)
newline_pending (Symbol.Binary a) rest e = absurd (false≢true e)
newline_pending (Symbol.Number p) rest e = absurd (false≢true e)
newline_pending (Symbol.Digits p) rest e = absurd (false≢true e)
newline_pending (Symbol.Hex n) rest e = absurd (false≢true e)
newline_pending (Symbol.Operands n) rest e = absurd (false≢true e)
newline_pending (Symbol.First k) rest e = absurd (false≢true e)
newline_pending (Symbol.More k) rest e = absurd (false≢true e)
newline_pending (Symbol.Item k) rest e = absurd (false≢true e)
newline_pending (Symbol.Step f) rest e = absurd (false≢true e)

pub none_pending_last : (ss : List Symbol) → line_ends ss ≡ true → pendings ss ≡ 0
unfolding line_ends
none_pending_last [] e = absurd (false≢true e)
none_pending_last (s ∷ rest) e =
    let both = and_parts (is_newline s) (only_lines rest) e in newline_pending s rest both.0 ∙ none_pending rest both.1
