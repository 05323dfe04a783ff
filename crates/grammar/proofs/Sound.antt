-- What holds of every state that the automaton comes to: its names are names, and what has begun may still become something.
use Rattle.std.proofs.Common.{◌≡◌, ℕ, zero, suc, ◌+◌, ◌-◌, ◌*◌, ◌<◌, ◌≤◌, Bool, true, false, ◌&&◌, ◌||◌, eqb, ltb, leb, List, [], ◌∷◌, ◌++◌, length, Some, None, codes, Option, sym, refl, ap, subst, arith, length-append}
use Rattle.std.proofs.lemmas.Bool.{and_parts, leb-true, ltb-true}
use Rattle.semantics.specs.Shapes.{pick}
use Rattle.program.specs.declared.step.Step.{Step}
use Rattle.grammar.specs.Words.{Word, is_digit, is_name, is_some, itself, begins_some, find, head_word, heads, binary_word, binaries}
use Rattle.grammar.specs.Sayable.{Small}
use Rattle.grammar.specs.Moves.{Move, stop, move, moves, when, push, spelled, operands, bracket, head_step, head_rest, target_step, target_rest, number_step, number_rest, line_move, digit_move, item_number, is_hex, hex_of, hex_move, operands_move, viable, viable_name, can_name, with_name, Ended, no, ended, name_ends, word_ends, binary_ends, ends}
use Rattle.grammar.specs.Automaton.{State, stuck, at, settle, settled, top_move, moved, next}
use Rattle.grammar.specs.declared.symbol.Head.{Head}
use Rattle.grammar.specs.declared.symbol.Along.{Along}
use Rattle.grammar.specs.declared.symbol.Target.{Target}
use Rattle.grammar.specs.declared.symbol.Bracket.{Bracket}
use Rattle.grammar.specs.declared.symbol.Number.{Number}
use Rattle.grammar.specs.declared.symbol.Symbol.{Symbol}
use Rattle.grammar.proofs.NameLaws.{are_names_snoc}
use Rattle.grammar.proofs.ExprAlong.{Spellings}
use Rattle.grammar.proofs.Back.{pick_told, when_told}

-- a symbol of which nothing has come
pub data Fresh : Symbol → Type 0 where
  fresh_lines : Fresh Symbol.Lines
  fresh_body : Fresh Symbol.Body
  fresh_byte : {c : ℕ} → Fresh (Symbol.Byte c)
  fresh_target : {x : Target} → Fresh (Symbol.Target x)
  fresh_expr : Fresh Symbol.Expr
  fresh_binary : {x : Along} → Fresh (Symbol.Binary x)
  fresh_number : {p : Number} → Fresh (Symbol.Number p)
  fresh_hex : {n : ℕ} → 1 ≤ n → Fresh (Symbol.Hex n)
  fresh_operands : {n : ℕ} → Fresh (Symbol.Operands n)
  fresh_first : {k : Bracket} → Fresh (Symbol.First k)
  fresh_more : {k : Bracket} → Fresh (Symbol.More k)
  fresh_item : {k : Bracket} → Fresh (Symbol.Item k)
  fresh_step : {f : ℕ} → Fresh (Symbol.Step f)

pub data AllFresh : List Symbol → Type 0 where
  none : AllFresh []
  more : {s : Symbol} {rest : List Symbol} → Fresh s → AllFresh rest → AllFresh (s ∷ rest)

-- a symbol of which a word or number may have come
pub data Sound (ns : List Word) : Symbol → Word → ℕ → Type 0 where
  sound_fresh : {s : Symbol} → Fresh s → Sound ns s [] 0
  sound_target : {x : Target} {w : Word} → viable_name ns w ≡ true → Sound ns (Symbol.Target x) w 0
  sound_word : {w : Word} → 1 ≤ length w → viable ns w ≡ true → Sound ns Symbol.Word w 0
  sound_binary : {x : Along} {w : Word} → begins_some binary_word binaries w ≡ true → Sound ns (Symbol.Binary x) w 0
  sound_digits : {p : Number} {v : ℕ} → Small v → Sound ns (Symbol.Digits p) [] v
  sound_hex : {n v : ℕ} → 1 ≤ n → Sound ns (Symbol.Hex n) [] v

pub data SoundAll (ns : List Word) : List Symbol → Word → ℕ → Type 0 where
  sound_none : {w : Word} {v : ℕ} → SoundAll ns [] w v
  sound_more : {s : Symbol} {rest : List Symbol} {w : Word} {v : ℕ} → Sound ns s w v → AllFresh rest → SoundAll ns (s ∷ rest) w v

pub data SoundState : State → Type 0 where
  sound_stuck : SoundState stuck
  sound_at : {ns : List Word} {o : List Step} {s : List Symbol} {w : Word} {v : ℕ} → Spellings ns → SoundAll ns s w v → SoundState (at ns o s w v)

all_sound : {ns : List Word} {s : List Symbol} → AllFresh s → SoundAll ns s [] 0
all_sound none = sound_none
all_sound (more h r) = sound_more (sound_fresh h) r

spelled_fresh : (w : Word) {s : List Symbol} → AllFresh s → AllFresh (spelled w s)
unfolding spelled
spelled_fresh [] h = h
spelled_fresh (b ∷ w) h = more fresh_byte (spelled_fresh w h)

spelled_append : (w : Word) (s r : List Symbol) → spelled w s ++ r ≡ spelled w (s ++ r)
unfolding spelled
spelled_append [] s r = refl
spelled_append (b ∷ w) s r = ap {B = List Symbol} (λ x. Symbol.Byte b ∷ x) (spelled_append w s r)

-- MOVES

pub data Keep (ns : List Word) (rest : List Symbol) : Move → Type 0 where
  keep_stop : Keep ns rest stop
  keep_move : {x : _} {es : List Step} {s : List Symbol} {u : Word} {k : ℕ} → SoundAll ns (s ++ rest) u k → Keep ns rest (move x es s u k)

push_keep : {ns : List Word} {rest : List Symbol} (s : List Symbol) → AllFresh (s ++ rest) → Keep ns rest (push s)
unfolding push
push_keep s h = keep_move (all_sound h)

line_keep : (ns : List Word) {rest : List Symbol} (here : Symbol) (other : Move) (b : ℕ) → AllFresh rest → Fresh here → Keep ns rest other → Keep ns rest (line_move here other b)
unfolding line_move spelled
line_keep ns {rest} here other b r h k =
    let P : Move → Type 0 = Keep ns rest in
    pick_told P (eqb b 108) (λ _. keep_move (all_sound (spelled_fresh (codes "et ") (more fresh_target (more fresh_byte (more h r))))))
    (λ _. pick_told P (eqb b 112) (λ _. keep_move (all_sound (spelled_fresh (codes "ut ") (more fresh_target (more fresh_byte (more h r))))))
    (λ _. pick_told P (eqb b 115) (λ _. keep_move (all_sound (spelled_fresh (codes "how ") (more fresh_expr (more fresh_byte (more h r))))))
    (λ _. pick_told P (eqb b 97) (λ _. keep_move (all_sound (spelled_fresh (codes "gain ") (more fresh_number (more fresh_byte (more h r))))))
    (λ _. k))))

digit_keep : (ns : List Word) {rest : List Symbol} (x : _) (p : Number) (s : List Symbol) (b : ℕ) → AllFresh (s ++ rest) → Keep ns rest (digit_move x p s b)
unfolding digit_move is_digit
digit_keep ns {rest} x p s b r =
    when_told (Keep ns rest) (is_digit b)
    (λ e. let l = leb-true b 57 (and_parts (leb 48 b) (leb b 57) e).1 in keep_move (sound_more (sound_digits (omega arith)) r))
    keep_stop

hex_keep : (ns : List Word) {rest : List Symbol} (i x : ℕ) → AllFresh rest → Keep ns rest (hex_move i x)
unfolding hex_move
hex_keep ns zero x r = keep_stop
hex_keep ns (suc zero) x r = keep_move (all_sound r)
hex_keep ns (suc (suc i)) x r = keep_move (sound_more (sound_hex (omega arith)) r)

operands_keep : (ns : List Word) {rest : List Symbol} (i b : ℕ) → AllFresh rest → Keep ns rest (operands_move i b)
unfolding operands_move
operands_keep ns {rest} zero b r = when_told (Keep ns rest) (eqb b 41) (λ _. push_keep [] r) keep_stop
operands_keep ns {rest} (suc i) b r = when_told (Keep ns rest) (eqb b 44) (λ _. push_keep (Symbol.Byte 32 ∷ Symbol.Expr ∷ Symbol.Operands i ∷ []) (more fresh_byte (more fresh_expr (more fresh_operands r)))) keep_stop

pub moves_keep : (ns : List Word) {rest : List Symbol} (s : Symbol) (w : Word) (v b : ℕ) → AllFresh rest → Keep ns rest (moves ns s w v b)
unfolding moves
moves_keep ns Symbol.Lines w v b r = line_keep ns Symbol.Lines stop b r fresh_lines keep_stop
moves_keep ns {rest} Symbol.Body w v b r =
    line_keep ns Symbol.Body _ b r fresh_body (when_told (Keep ns rest) (eqb b 101) (λ _. keep_move (all_sound (subst AllFresh (sym (spelled_append (codes "nd") [] rest)) (spelled_fresh (codes "nd") r)))) keep_stop)
moves_keep ns {rest} (Symbol.Byte c) w v b r = when_told (Keep ns rest) (eqb b c) (λ _. push_keep [] r) keep_stop
moves_keep ns {rest} (Symbol.Target x) w v b r = when_told (Keep ns rest) (viable_name ns (w ++ b ∷ [])) (λ e. keep_move (sound_more (sound_target e) r)) keep_stop
moves_keep ns {rest} Symbol.Expr w v b r =
    pick_told (Keep ns rest) (eqb b 35) (λ _. keep_move (sound_more (sound_hex (omega arith)) r))
    (λ _. when_told (Keep ns rest) (viable ns (b ∷ [])) (λ e. keep_move (sound_more (sound_word (omega arith) e) r)) keep_stop)
moves_keep ns {rest} Symbol.Word w v b r =
    when_told (Keep ns rest) (viable ns (w ++ b ∷ [])) (λ e. keep_move (sound_more (sound_word (rw length-append (omega arith)) e) r)) keep_stop
moves_keep ns {rest} (Symbol.Binary x) w v b r = when_told (Keep ns rest) (begins_some binary_word binaries (w ++ b ∷ [])) (λ e. keep_move (sound_more (sound_binary e) r)) keep_stop
moves_keep ns {rest} (Symbol.Number p) w v b r = digit_keep ns _ p [] b r
moves_keep ns {rest} (Symbol.Digits p) w v b r =
    when_told (Keep ns rest) (is_digit b && (leb 1 v && ltb (v * 10 + (b - 48)) 4294967296))
    (λ e.
    let x = and_parts (is_digit b) (leb 1 v && ltb (v * 10 + (b - 48)) 4294967296) e in
    let y = and_parts (leb 1 v) (ltb (v * 10 + (b - 48)) 4294967296) x.1 in
    keep_move (sound_more (sound_digits (ltb-true (v * 10 + (b - 48)) 4294967296 y.1)) r))
    keep_stop
moves_keep ns {rest} (Symbol.Hex i) w v b r = when_told (Keep ns rest) (is_hex b) (λ _. hex_keep ns i (v * 16 + hex_of b) r) keep_stop
moves_keep ns {rest} (Symbol.Operands i) w v b r = operands_keep ns i b r
moves_keep ns {rest} (Symbol.First k) w v b r = pick_told (Keep ns rest) (eqb b 93) (λ _. push_keep [] r) (λ _. digit_keep ns _ (item_number k) (Symbol.More k ∷ []) b (more fresh_more r))
moves_keep ns {rest} (Symbol.More k) w v b r =
    pick_told (Keep ns rest) (eqb b 93) (λ _. push_keep [] r)
    (λ _. when_told (Keep ns rest) (eqb b 44) (λ _. push_keep (Symbol.Byte 32 ∷ Symbol.Item k ∷ Symbol.More k ∷ []) (more fresh_byte (more fresh_item (more fresh_more r)))) keep_stop)
moves_keep ns {rest} (Symbol.Item k) w v b r = digit_keep ns _ (item_number k) [] b r
moves_keep ns {rest} (Symbol.Step k) w v b r = pick_told (Keep ns rest) (eqb b 45) (λ _. push_keep (Symbol.Number (Number.Step k true) ∷ []) (more fresh_number r)) (λ _. digit_keep ns _ (Number.Step k false) [] b r)

-- ENDS

pub data KeepEnd (rest : List Symbol) : Ended → Type 0 where
  keep_no : KeepEnd rest no
  keep_so : {ns : List Word} {es : List Step} {s : List Symbol} → Spellings ns → AllFresh (s ++ rest) → KeepEnd rest (ended ns es s)

name_spellings : {ns : List Word} (w : Word) → Spellings ns → can_name ns w ≡ true → Spellings (with_name ns w)
unfolding can_name with_name
name_spellings {ns} w sp h = go (is_some itself ns w) refl
  where
    p : (is_name w ≡ true) × ((is_some itself ns w || ltb (length ns) 64) ≡ true)
    p = and_parts (is_name w) (is_some itself ns w || ltb (length ns) 64) h

    go : (t : Bool) → is_some itself ns w ≡ t → Spellings (pick t ns (ns ++ w ∷ []))
    go true e = sp
    go false e =
        let l : length ns < 64 = ltb-true (length ns) 64 (rw e at p.1) in
        record { are = are_names_snoc ns w sp.are p.0 e; few = rw length-append (omega arith) }

name_keep : {ns : List Word} {rest : List Symbol} (w : Word) (step : ℕ → Step) (s : List Symbol) → Spellings ns → AllFresh (s ++ rest) → KeepEnd rest (name_ends ns w step s)
unfolding name_ends
name_keep {ns} {rest} w step s sp r = pick_told (KeepEnd rest) (can_name ns w) (λ e. keep_so (name_spellings w sp e) r) (λ _. keep_no)

operands_fresh : (n : ℕ) {rest : List Symbol} → AllFresh rest → AllFresh (operands n ++ rest)
unfolding operands
operands_fresh n r = more fresh_byte (more fresh_expr (more fresh_operands r))

head_fresh : (h : Head) {rest : List Symbol} → AllFresh rest → AllFresh (head_rest h ++ rest)
unfolding head_rest bracket
head_fresh Head.In r = more fresh_byte (more fresh_number r)
head_fresh Head.Count r = more fresh_byte (more fresh_number r)
head_fresh (Head.Each k) r = operands_fresh 0 r
head_fresh (Head.Both k) r = operands_fresh 1 r
head_fresh Head.Choose r = operands_fresh 2 r
head_fresh Head.Fold r = more fresh_byte (more fresh_binary r)
head_fresh Head.Scan r = more fresh_byte (more fresh_binary r)
head_fresh Head.Shape r = more fresh_byte (more fresh_byte (more fresh_first (operands_fresh 0 r)))
head_fresh Head.Turn r = more fresh_byte (more fresh_byte (more fresh_first (operands_fresh 0 r)))
head_fresh Head.Part r = more fresh_byte (more fresh_byte (more fresh_first (operands_fresh 0 r)))
head_fresh Head.Join r = more fresh_byte (more fresh_number r)
head_fresh Head.Rows r = operands_fresh 1 r

target_fresh : (x : Target) {rest : List Symbol} → AllFresh rest → AllFresh (target_rest x ++ rest)
unfolding target_rest bracket spelled
target_fresh Target.Let r = more fresh_byte (more fresh_byte (more fresh_byte (more fresh_expr r)))
target_fresh Target.Put r = more fresh_byte (more fresh_byte (more fresh_first (more fresh_byte (more fresh_byte (more fresh_byte (more fresh_expr r))))))

number_fresh : (p : Number) (v : ℕ) {rest : List Symbol} → AllFresh rest → AllFresh (number_rest p v ++ rest)
unfolding number_rest
number_fresh Number.Input v r = r
number_fresh Number.Count v r = r
number_fresh (Number.Along a k) v r = operands_fresh 0 r
number_fresh Number.Join v r = operands_fresh 1 r
number_fresh Number.Again v r = more fresh_byte (more fresh_body r)
number_fresh Number.Item v r = r
number_fresh Number.From v r = more fresh_byte (more fresh_step r)
number_fresh (Number.Step f b) v r = more fresh_byte (more fresh_number r)
number_fresh (Number.Many f b s) v r = r

word_keep : {ns : List Word} {rest : List Symbol} (w : Word) (h : Option Head) → Spellings ns → AllFresh rest → KeepEnd rest (word_ends ns w h)
unfolding word_ends
word_keep w (Some h) sp r = keep_so sp (head_fresh h r)
word_keep w None sp r = name_keep w (λ k. Step.Name k) [] sp r

binary_keep : {ns : List Word} {rest : List Symbol} (a : Along) (t : Option _) → Spellings ns → AllFresh rest → KeepEnd rest (binary_ends ns a t)
unfolding binary_ends
binary_keep a (Some t) sp r = keep_so sp (more fresh_byte (more fresh_number r))
binary_keep a None sp r = keep_no

pub ends_keep : {ns : List Word} {rest : List Symbol} (s : Symbol) (w : Word) (v : ℕ) → Spellings ns → AllFresh rest → KeepEnd rest (ends ns s w v)
unfolding ends
ends_keep Symbol.Lines w v sp r = keep_no
ends_keep Symbol.Body w v sp r = keep_no
ends_keep (Symbol.Byte c) w v sp r = keep_no
ends_keep (Symbol.Target x) w v sp r = name_keep w (λ k. target_step x k) (target_rest x) sp (target_fresh x r)
ends_keep Symbol.Expr w v sp r = keep_no
ends_keep Symbol.Word w v sp r = word_keep w (find head_word heads w) sp r
ends_keep (Symbol.Binary x) w v sp r = binary_keep x (find binary_word binaries w) sp r
ends_keep (Symbol.Number p) w v sp r = keep_no
ends_keep (Symbol.Digits p) w v sp r = keep_so sp (number_fresh p v r)
ends_keep (Symbol.Hex n) w v sp r = keep_no
ends_keep (Symbol.Operands n) w v sp r = keep_no
ends_keep (Symbol.First k) w v sp r = keep_no
ends_keep (Symbol.More k) w v sp r = keep_no
ends_keep (Symbol.Item k) w v sp r = keep_no
ends_keep (Symbol.Step k) w v sp r = keep_no

-- STATES

settled_keep : {rest : List Symbol} {d : Ended} (o : List Step) → KeepEnd rest d → SoundState (settled d o rest)
unfolding settled
settled_keep o keep_no = sound_stuck
settled_keep o (keep_so sp r) = sound_at sp (all_sound r)

pub settle_keep : {q : State} (b : ℕ) → SoundState q → SoundState (settle q b)
unfolding settle
settle_keep b sound_stuck = sound_stuck
settle_keep b (sound_at sp sound_none) = sound_stuck
settle_keep b (sound_at {o = o} sp (sound_more {s = s} {w = w} {v = v} h r)) =
    pick_told SoundState (Rattle.grammar.specs.Moves.belongs s b) (λ _. sound_at sp (sound_more h r)) (λ _. settled_keep o (ends_keep s w v sp r))

moved_keep : {ns : List Word} (s : Symbol) {rest : List Symbol} (w : Word) (v : ℕ) {m : Move} (o : List Step) → Spellings ns → Keep ns rest m → SoundState (moved m (at ns o (s ∷ rest) w v))
unfolding moved
moved_keep s w v o sp keep_stop = sound_stuck
moved_keep s w v o sp (keep_move h) = sound_at sp h

read_keep : {q : State} (b : ℕ) → SoundState q → SoundState (moved (top_move q b) q)
unfolding top_move moved
read_keep b sound_stuck = sound_stuck
read_keep b (sound_at sp sound_none) = sound_stuck
read_keep b (sound_at {ns = ns} {o = o} sp (sound_more {s = s} {w = w} {v = v} h r)) = moved_keep s w v o sp (moves_keep ns s w v b r)

pub next_keep : {q : State} (b : ℕ) → SoundState q → SoundState (next q b)
unfolding next
next_keep b h = read_keep b (settle_keep b h)

-- what it tells of a word or number on top
word_begun_at : {ns : List Word} {w : Word} {v : ℕ} → Sound ns Symbol.Word w v → 1 ≤ length w
word_begun_at (sound_fresh h) = elim h [ ]
word_begun_at (sound_word l e) = l

pub word_begun : {ns : List Word} {s : Symbol} {w : Word} {v : ℕ} → Sound ns s w v → s ≡ Symbol.Word → 1 ≤ length w
word_begun {ns} {w = w} {v = v} h e = word_begun_at (subst (λ s. Sound ns s w v) e h)

digits_small_at : {ns : List Word} {p : Number} {w : Word} {v : ℕ} → Sound ns (Symbol.Digits p) w v → Small v
digits_small_at (sound_fresh h) = elim h [ ]
digits_small_at (sound_digits l) = l

pub digits_small : {ns : List Word} {s : Symbol} {w : Word} {v : ℕ} → Sound ns s w v → (p : Number) → s ≡ Symbol.Digits p → Small v
digits_small {ns} {w = w} {v = v} h p e = digits_small_at (subst (λ s. Sound ns s w v) e h)
