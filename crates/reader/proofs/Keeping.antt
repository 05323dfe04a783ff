-- What holds of every state on the way: numbers below their limits, few names, a sound stack.
use Rattle.std.proofs.Common.{ℕ, ◌≤◌, Bool, true, false, List, [], ◌∷◌, ◌++◌, length, arith}
use Rattle.semantics.specs.Shapes.{pick}
use Rattle.program.specs.declared.step.Step.{Step}
use Rattle.grammar.specs.declared.symbol.Symbol.{Symbol}
use Rattle.grammar.specs.Letters.{inside, Tally, tally_flag}
use Rattle.grammar.specs.Words.{Word}
use Rattle.grammar.specs.Moves.{belongs, Ended, no, ended, ends, Move, stop, move, moves}
use Rattle.grammar.specs.Automaton.{State, stuck, at, start, settled, settle, top_move, moved, next, move_flag, next_flag}
use Rattle.reader.specs.Machines.{Plains, none, more, Fits, empty, over}
use Rattle.reader.proofs.Depths.{Sound, Tidy, weights, lights, pendings, sound_replace}
use Rattle.reader.proofs.Legal.{plain_fits, Ready, gone, top, LegalEnd, ending, ends_legal, LegalMove, goes, moves_legal}

pub data Well : State → Type 0 where
  well_stuck : Well stuck
  well : {ns : List Word} {out : List Step} {ss : List Symbol} {w : Word} {v : ℕ} → length ns ≤ 64 → Fits ss v → Well (at ns out ss w v)

pub data SoundState (c : Tally) : State → Type 0 where
  sound_stuck : SoundState c stuck
  sound_at : {ns : List Word} {out : List Step} {ss : List Symbol} {w : Word} {v : ℕ} → Sound ss out c → SoundState c (at ns out ss w v)

plains_fit : {ss : List Symbol} (v : ℕ) → Plains ss → Fits ss v
plains_fit v none = empty
plains_fit v (more {s = s} p ps) = over (plain_fits s v p) ps

plains_append : {s t : List Symbol} → Plains s → Plains t → Plains (s ++ t)
plains_append none q = q
plains_append (more p ps) q = more p (plains_append ps q)

ready_over : {t rest : List Symbol} {n : ℕ} → Ready t n → Plains rest → Fits (t ++ rest) n
ready_over gone q = plains_fit 0 q
ready_over (top fit ps) q = over fit (plains_append ps q)

-- SETTLING

well_settled : {s : Symbol} (e : Ended) (out : List Step) (rest : List Symbol) → LegalEnd s e → Plains rest → Well (settled e out rest)
unfolding settled
well_settled no out rest h q = well_stuck
well_settled (ended ns es t) out rest (ending l p few) q = well few (plains_fit 0 (plains_append p q))

well_pick : (x : Bool) (p q : State) → Well p → Well q → Well (pick x p q)
well_pick true p q h k = h
well_pick false p q h k = k

pub well_settle : (q : State) (b : ℕ) → Well q → Well (settle q b)
unfolding settle
well_settle stuck b h = well_stuck
well_settle (at ns out [] w v) b h = well_stuck
well_settle (at ns out (s ∷ rest) w v) b (well few (over fit ps)) =
    well_pick (belongs s b) (at ns out (s ∷ rest) w v) (settled (ends ns s w v) out rest) (well few (over fit ps)) (well_settled (ends ns s w v) out rest (ends_legal ns few s w v) ps)

sound_settled : {c : Tally} {s : Symbol} (e : Ended) (out : List Step) (rest : List Symbol) → LegalEnd s e → Sound (s ∷ rest) out c → SoundState c (settled e out rest)
unfolding settled tally_flag
sound_settled no out rest h sound = sound_stuck
sound_settled {c} {s} (ended ns es t) out rest (ending l p few) sound = sound_at (sound_replace s inside es t rest out c l sound)

sound_pick : {c : Tally} (x : Bool) (p q : State) → SoundState c p → SoundState c q → SoundState c (pick x p q)
sound_pick true p q h k = h
sound_pick false p q h k = k

pub sound_settle : {c : Tally} (q : State) (b : ℕ) → Well q → SoundState c q → SoundState c (settle q b)
unfolding settle
sound_settle stuck b h k = sound_stuck
sound_settle (at ns out [] w v) b h k = sound_stuck
sound_settle (at ns out (s ∷ rest) w v) b (well few fits) (sound_at sound) =
    sound_pick (belongs s b) (at ns out (s ∷ rest) w v) (settled (ends ns s w v) out rest) (sound_at sound) (sound_settled (ends ns s w v) out rest (ends_legal ns few s w v) sound)

-- MOVING

well_after : {s : Symbol} {rest : List Symbol} (ns : List Word) (out : List Step) (w : Word) (v : ℕ) (m : Move) → length ns ≤ 64 → LegalMove s m → Plains rest → Well (moved m (at ns out (s ∷ rest) w v))
unfolding moved
well_after ns out w v stop few h q = well_stuck
well_after ns out w v (move x es t u n) few (goes l r) q = well few (ready_over r q)

pub well_moved : (q : State) (b : ℕ) → Well q → Well (moved (top_move q b) q)
unfolding top_move moved
well_moved stuck b h = well_stuck
well_moved (at ns out [] w v) b h = well_stuck
well_moved (at ns out (s ∷ rest) w v) b (well few (over fit ps)) = well_after ns out w v (moves ns s w v b) few (moves_legal ns s w v b fit) ps

sound_after : {c : Tally} {s : Symbol} {out : List Step} {rest : List Symbol} (ns : List Word) (w : Word) (v : ℕ) (m : Move) → LegalMove s m → Sound (s ∷ rest) out c → SoundState (tally_flag (move_flag m) c) (moved m (at ns out (s ∷ rest) w v))
unfolding moved move_flag
sound_after ns w v stop h sound = sound_stuck
sound_after {c} {s} {out} {rest} ns w v (move x es t u n) (goes l r) sound = sound_at (sound_replace s x es t rest out c l sound)

pub sound_moved : {c : Tally} (q : State) (b : ℕ) → Well q → SoundState c q → SoundState (tally_flag (move_flag (top_move q b)) c) (moved (top_move q b) q)
unfolding top_move moved
sound_moved stuck b h k = sound_stuck
sound_moved (at ns out [] w v) b h k = sound_stuck
sound_moved (at ns out (s ∷ rest) w v) b (well few (over fit ps)) (sound_at sound) = sound_after ns w v (moves ns s w v b) (moves_legal ns s w v b fit) sound

-- ONE BYTE

pub well_next : (q : State) (b : ℕ) → Well q → Well (next q b)
unfolding next
well_next q b h = well_moved (settle q b) b (well_settle q b h)

pub sound_next : {c : Tally} (q : State) (b : ℕ) → Well q → SoundState c q → SoundState (tally_flag (next_flag q b) c) (next q b)
unfolding next next_flag
sound_next q b h k = sound_moved (settle q b) b (well_settle q b h) (sound_settle q b h k)

pub well_start : Well start
unfolding start
well_start = well (omega arith) (over tt none)

pub sound_start : SoundState (record { marks = 0; level = 0 }) start
unfolding start Tidy weights pendings lights
sound_start = sound_at (record { tidy = (omega arith, tt); weigh = omega arith; pend = omega arith })
