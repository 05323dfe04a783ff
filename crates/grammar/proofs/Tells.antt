-- What a state tells: letters that may still come, and all steps then. One byte backward it tells a letter more, and the same steps.
use Rattle.std.proofs.Common.{◌≡◌, ℕ, ◌≤◌, List, [], ◌∷◌, ◌++◌, length, sym, refl, ap, ◌∙◌}
use Rattle.program.specs.declared.step.Step.{Step}
use Rattle.grammar.specs.Letters.{Flag, Letter, letter, bytes}
use Rattle.grammar.specs.Words.{Word}
use Rattle.grammar.specs.Moves.{belongs, Move, stop, move, moves, Ended, no, ended, ends}
use Rattle.grammar.specs.Automaton.{State, at, settle, settled, top_move, moved, next, run}
use Rattle.grammar.specs.declared.symbol.Symbol.{Symbol}
use Rattle.grammar.specs.Automaton.{onto}
use Rattle.grammar.proofs.ExprAlong.{Spellings}
use Rattle.grammar.proofs.Says.{SaysAll}
use Rattle.grammar.proofs.Back.{Back, Backs, back_move, moves_back, pick_told}
use Rattle.grammar.proofs.EndsBack.{Front, EndsBack, ends_so, ends_back}
use Rattle.grammar.proofs.Sound.{SoundState, sound_stuck, sound_at, sound_none, sound_more, word_begun, digits_small, settle_keep, next_keep}

pub data Tells : State → List Letter → List Step → Type 0 where
  tells : {ns ms : List Word} {o : List Step} {s : List Symbol} {w : Word} {v used : ℕ} {f : List Letter} {a t : List Step} → Spellings ms → Front ns ms → SaysAll ms s w v (length ns) used f a → used ≤ length ms → onto o a ≡ t → Tells (at ns o s w v) f t

onto_append : (es o a : List Step) → onto (es ++ o) a ≡ onto o (onto es a)
onto_append [] o a = refl
onto_append (e ∷ es) o a = onto_append es o (e ∷ a)

back_use : {ms : List Word} {s : Symbol} {w : Word} {v b : ℕ} {x : Flag} {es : List Step} {s' : List Symbol} {u : Word} {k : ℕ} → Back ms s w v b (move x es s' u k) → Backs ms s w v b x es s' u k
back_use (back_move h) = h

ends_use : {ms ns : List Word} {s : Symbol} {w : Word} {v : ℕ} {ns' : List Word} {es : List Step} {s' : List Symbol} → EndsBack ms ns s w v (ended ns' es s') → (rest : List Symbol) (o : ℕ) (f : List Letter) (a : List Step) → Front ns' ms → SaysAll ms (s' ++ rest) [] 0 (length ns') o f a → Front ns ms × SaysAll ms (s ∷ rest) w v (length ns) o f (onto es a)
ends_use (ends_so h) = h

-- a letter of byte b before f
pub record LetterMore (q : State) (b : ℕ) (f : List Letter) (t : List Step) : Type 0 where
  pub flag : Flag
  pub told : Tells q (letter flag b ∷ f) t

moved_back : {ns : List Word} {s : Symbol} {rest : List Symbol} {w : Word} {v b : ℕ} {f : List Letter} {t : List Step} (o : List Step) (m : Move) → ((ms : List Word) → Back ms s w v b m) → Tells (moved m (at ns o (s ∷ rest) w v)) f t → LetterMore (at ns o (s ∷ rest) w v) b f t
unfolding moved
moved_back o stop h k = elim k [ ]
moved_back {rest = rest} o (move x es s' u n) h (tells {ms = ms} {f = f} {a = a} sp fr says en e) =
    record { flag = x; told = tells sp fr (back_use (h ms) rest _ _ f a says) en (sym (onto_append es o a) ∙ e) }

read_back : {q : State} (b : ℕ) {f : List Letter} {t : List Step} → SoundState q → Tells (moved (top_move q b) q) f t → LetterMore q b f t
unfolding moved top_move
read_back b sound_stuck k = elim k [ ]
read_back b (sound_at sp sound_none) k = elim k [ ]
read_back b (sound_at {ns = ns} {o = o} sp (sound_more {s = s} {w = w} {v = v} h r)) k =
    moved_back o (moves ns s w v b) (λ ms. moves_back ms ns s w v b (word_begun h)) k

settled_back : {ns : List Word} {s : Symbol} {rest : List Symbol} {w : Word} {v : ℕ} {f : List Letter} {t : List Step} (o : List Step) (d : Ended) → ((ms : List Word) → EndsBack ms ns s w v d) → Tells (settled d o rest) f t → Tells (at ns o (s ∷ rest) w v) f t
unfolding settled
settled_back o no h k = elim k [ ]
settled_back {rest = rest} o (ended ns' es s') h (tells {ms = ms} {f = f} {a = a} sp fr says en e) =
    let p = ends_use (h ms) rest _ f a fr says in tells sp p.0 p.1 en (sym (onto_append es o a) ∙ e)

settle_back : {q : State} (b : ℕ) {f : List Letter} {t : List Step} → SoundState q → Tells (settle q b) f t → Tells q f t
unfolding settle
settle_back b sound_stuck k = elim k [ ]
settle_back b (sound_at sp sound_none) k = elim k [ ]
settle_back b {f} {t} (sound_at {ns = ns} {o = o} sp (sound_more {s = s} {rest = rest} {w = w} {v = v} h r)) k =
    pick_told (λ q. Tells q f t → Tells (at ns o (s ∷ rest) w v) f t) (belongs s b) (λ _ j. j) (λ _ j. settled_back o (ends ns s w v) (λ ms. ends_back ms ns s w v (digits_small h)) j) k

pub next_back : {q : State} (b : ℕ) {f : List Letter} {t : List Step} → SoundState q → Tells (next q b) f t → LetterMore q b f t
unfolding next
next_back b h k = let r = read_back b (settle_keep b h) k in record { flag = r.flag; told = settle_back b h r.told }

pub run_keep : (t : List ℕ) {q : State} → SoundState q → SoundState (run q t)
unfolding run
run_keep [] h = h
run_keep (b ∷ t) h = run_keep t (next_keep b h)

-- letters of the bytes u before f
pub record LettersMore (q : State) (u : List ℕ) (f : List Letter) (t : List Step) : Type 0 where
  pub before : List Letter
  pub told : Tells q (before ++ f) t
  pub are : bytes before ≡ u

pub run_back : (u : List ℕ) {q : State} {f : List Letter} {t : List Step} → SoundState q → Tells (run q u) f t → LettersMore q u f t
unfolding run bytes
run_back [] h k = record { before = []; told = k; are = refl }
run_back (b ∷ u) h k =
    let r = run_back u (next_keep b h) k in
    let s = next_back b h r.told in
    record { before = letter s.flag b ∷ r.before; told = s.told; are = ap {B = List ℕ} (λ y. b ∷ y) r.are }
