-- The automaton along letters: it goes on only where its flag is the letter's. What it does at one letter.
use Rattle.std.proofs.Common.{◌≡◌, ℕ, true, false, eqb, List, [], ◌∷◌, ◌++◌, sym, refl, ap, ◌∙◌}
use Rattle.semantics.specs.Shapes.{pick}
use Rattle.program.specs.declared.step.Step.{Step}
use Rattle.grammar.specs.Letters.{Flag, inside, begins, opens, closes, Letter, letter}
use Rattle.grammar.specs.Words.{Word}
use Rattle.grammar.specs.Moves.{belongs, ended, ends, move, moves}
use Rattle.grammar.specs.Automaton.{State, stuck, at, settle, settled, top_move, moved, move_flag, next, next_flag}
use Rattle.grammar.specs.declared.symbol.Symbol.{Symbol}

unfoldable pub flag_code : Flag → ℕ
flag_code inside = 0
flag_code begins = 1
flag_code opens = 2
flag_code closes = 3

unfoldable pub checked : Flag → Flag → State → State
unfolding flag_code
checked x y q = pick (eqb (flag_code x) (flag_code y)) q stuck

unfoldable pub next_letter : State → Letter → State
unfolding checked next_flag next
next_letter q (letter x b) = checked x (next_flag q b) (next q b)

unfoldable pub along : State → List Letter → State
unfolding next_letter
along q [] = q
along q (x ∷ f) = along (next_letter q x) f

pub checked_same : (x : Flag) (q : State) → checked x x q ≡ q
unfolding checked
checked_same inside q = refl
checked_same begins q = refl
checked_same opens q = refl
checked_same closes q = refl

-- only what a state settles to counts
pub along_settled : (p q : State) (x : Flag) (b : ℕ) (f : List Letter) → settle p b ≡ settle q b → along p (letter x b ∷ f) ≡ along q (letter x b ∷ f)
unfolding along next next_flag next_letter
along_settled p q x b f e =
    ap (λ s. along (checked x (move_flag (top_move s b)) (moved (top_move s b) s)) f) e

pub settle_fresh : (ns : List Word) (out : List Step) (s : Symbol) (rest : List Symbol) (w : Word) (v b : ℕ) → belongs s b ≡ true → settle (at ns out (s ∷ rest) w v) b ≡ at ns out (s ∷ rest) w v
unfolding settle
settle_fresh ns out s rest w v b h = ap (λ t. pick t (at ns out (s ∷ rest) w v) (settled (ends ns s w v) out rest)) h

-- a byte that belongs to the topmost symbol
pub along_moves : (ns : List Word) (out : List Step) (s : Symbol) (rest : List Symbol) (w : Word) (v : ℕ) {x : Flag} (b : ℕ) {es : List Step} {s' : List Symbol} {u : Word} {n : ℕ} (f : List Letter) → belongs s b ≡ true → moves ns s w v b ≡ move x es s' u n → along (at ns out (s ∷ rest) w v) (letter x b ∷ f) ≡ along (at ns (es ++ out) (s' ++ rest) u n) f
unfolding along next_letter next next_flag
along_moves ns out s rest w v {x} b {es} {s'} {u} {n} f h e =
    ap (λ t. along (checked x (move_flag (top_move t b)) (moved (top_move t b) t)) f) (settle_fresh ns out s rest w v b h)
    ∙ ap (λ m. along (checked x (move_flag m) (moved m (at ns out (s ∷ rest) w v))) f) e
    ∙ ap (λ q. along q f) (checked_same x (at ns (es ++ out) (s' ++ rest) u n))

-- a word or number that ends, and the byte is for what then stands on top
pub along_ends : (ns : List Word) (out : List Step) (s : Symbol) (rest : List Symbol) (w : Word) (v : ℕ) (x : Flag) (b : ℕ) {ns' : List Word} {es : List Step} {s' : List Symbol} {t : Symbol} {rest' : List Symbol} (f : List Letter) → belongs s b ≡ false → ends ns s w v ≡ ended ns' es s' → s' ++ rest ≡ t ∷ rest' → belongs t b ≡ true → along (at ns out (s ∷ rest) w v) (letter x b ∷ f) ≡ along (at ns' (es ++ out) (t ∷ rest') [] 0) (letter x b ∷ f)
unfolding settle settled
along_ends ns out s rest w v x b {ns'} {es} {s'} {t} {rest'} f h e j k =
    along_settled _ _ x b f
    (ap (λ d. pick d (at ns out (s ∷ rest) w v) (settled (ends ns s w v) out rest)) h
    ∙ ap (λ d. settled d out rest) e
    ∙ ap (λ r. at ns' (es ++ out) r [] 0) j
    ∙ sym (settle_fresh ns' (es ++ out) t rest' [] 0 b k))
