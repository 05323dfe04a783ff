-- What holds between two bytes of a text that is read.
use Rattle.std.proofs.Common.{◌≡◌, ℕ, suc, ◌+◌, ◌<◌, ◌≤◌, true, false, List, [], ◌∷◌, ◌++◌, reverse, length, get_or, take, drop, sym, ap, ◌∙◌, subst, add-one, arith}
use Rattle.std.proofs.lemmas.List.{at_drop_more}
use Rattle.std.proofs.lemmas.Bool.{eq-eqb, ne_eqb}
use Rattle.semantics.specs.Shapes.{pick}
use Rattle.program.specs.declared.step.Step.{Step}
use Rattle.grammar.specs.Letters.{Tally, tally_flag}
use Rattle.grammar.specs.Automaton.{State, stuck, start, next, next_flag, is_stuck, refused_7, refused_8, too_much_in, judge, answer_to}
use Rattle.reader.specs.declared.machine.Machine.{Machine}
use Rattle.reader.specs.declared.judging.Count.{Count}
use Rattle.reader.specs.Machines.{state_of, Good}
use Rattle.reader.specs.Judging.{tally_of, place_at, places_from, mark_places}
use Rattle.reader.proofs.Keeping.{SoundState, sound_start}

-- the state with these steps said
abbrev pub state_with : List ℕ → ℕ → Machine → ℕ → List Step → State
state_with t i m said steps = state_of t i m (reverse (take said steps))

pub record OnWay (t : List ℕ) (i : ℕ) (m : Machine) (c : Count) (said : ℕ) (steps : List Step) (places : List ℕ) : Type 0 where
  pub short : i ≤ 131072
  pub good : Good i 16 m
  pub few : c.marks ≤ 2048
  pub low : c.level ≤ 8
  pub long : length steps ≡ 2048
  pub wide : length places ≡ 2048
  pub stored : said ≤ 2048
  pub sound : SoundState (tally_of c) (state_with t i m said steps)
  pub answer : answer_to t ≡ judge (state_with t i m said steps) (tally_of c) i (drop i t)
  pub marks : mark_places t ≡ take c.marks places ++ places_from (state_with t i m said steps) i (drop i t)

-- before the first byte
pub way_start : (t : List ℕ) (m : Machine) (steps : List Step) (places : List ℕ) → Good 0 16 m → state_of t 0 m [] ≡ start → length steps ≡ 2048 → length places ≡ 2048 → OnWay t 0 m (record { marks = 0; level = 0 }) 0 steps places
unfolding answer_to mark_places
way_start t m steps places good is long wide =
    record {
      short = omega arith;
      good = good;
      few = omega arith;
      low = omega arith;
      long = long;
      wide = wide;
      stored = omega arith;
      sound = subst (λ q. SoundState (record { marks = 0; level = 0 }) q) (sym is) sound_start;
      answer = ap (λ q. judge q (record { marks = 0; level = 0 }) 0 t) (sym is);
      marks = ap (λ q. places_from q 0 t) (sym is);
    }

-- with the machine as it was
pub unchanged : {t : List ℕ} {i : ℕ} {m n : Machine} {c : Count} {said : ℕ} {steps : List Step} {places : List ℕ} → n ≡ m → OnWay t i m c said steps places → OnWay t i n c said steps places
unchanged {t} {i} {m} {n} {c} {said} {steps} {places} e on = subst (λ k. OnWay t i k c said steps places) (sym e) on

-- behind the last byte
pub at_end : (t : List ℕ) (i : ℕ) (m : Machine) (c : Count) (said : ℕ) (steps : List Step) (places : List ℕ) → i ≡ length t → OnWay t i m c said steps places → OnWay t (length t) m c said steps places
at_end t i m c said steps places e on = subst (λ n. OnWay t n m c said steps places) e on

-- ONE BYTE

module _ (q : State) (c : Tally) (t : List ℕ) (i : ℕ) (there : i < length t) where
  judge_here : judge q c i (drop i t) ≡ judge q c i (get_or t i 0 ∷ drop (i + 1) t)
  judge_here = at_drop_more (judge q c i) t i 0 there

  pub judge_long : i ≡ 131072 → judge q c i (drop i t) ≡ refused_8 i
  unfolding judge
  judge_long e =
      judge_here
      ∙ ap (λ x. pick x (refused_8 i) (pick (is_stuck (next q (get_or t i 0))) (refused_7 i) (pick (too_much_in (tally_flag (next_flag q (get_or t i 0)) c)) (refused_8 i) (judge (next q (get_or t i 0)) (tally_flag (next_flag q (get_or t i 0)) c) (suc i) (drop (i + 1) t))))) (eq-eqb i 131072 e)

  judge_short : (i ≡ 131072 → ⊥) → judge q c i (drop i t) ≡ pick (is_stuck (next q (get_or t i 0))) (refused_7 i) (pick (too_much_in (tally_flag (next_flag q (get_or t i 0)) c)) (refused_8 i) (judge (next q (get_or t i 0)) (tally_flag (next_flag q (get_or t i 0)) c) (suc i) (drop (i + 1) t)))
  unfolding judge
  judge_short e =
      judge_here
      ∙ ap (λ x. pick x (refused_8 i) (pick (is_stuck (next q (get_or t i 0))) (refused_7 i) (pick (too_much_in (tally_flag (next_flag q (get_or t i 0)) c)) (refused_8 i) (judge (next q (get_or t i 0)) (tally_flag (next_flag q (get_or t i 0)) c) (suc i) (drop (i + 1) t))))) (ne_eqb i 131072 e)

  pub judge_stuck : (i ≡ 131072 → ⊥) → next q (get_or t i 0) ≡ stuck → judge q c i (drop i t) ≡ refused_7 i
  unfolding is_stuck
  judge_stuck e is =
      judge_short e
      ∙ ap (λ x. pick (is_stuck x) (refused_7 i) (pick (too_much_in (tally_flag (next_flag q (get_or t i 0)) c)) (refused_8 i) (judge (next q (get_or t i 0)) (tally_flag (next_flag q (get_or t i 0)) c) (suc i) (drop (i + 1) t)))) is

  module _ (m : Machine) (out : List Step) (d : Tally) (is : next q (get_or t i 0) ≡ state_of t (i + 1) m out) (count : tally_flag (next_flag q (get_or t i 0)) c ≡ d) where
    judge_goes : (i ≡ 131072 → ⊥) → judge q c i (drop i t) ≡ pick (too_much_in d) (refused_8 i) (judge (state_of t (i + 1) m out) d (suc i) (drop (i + 1) t))
    unfolding is_stuck state_of
    judge_goes e =
        judge_short e
        ∙ (ap (λ x. pick (is_stuck x) (refused_7 i) (pick (too_much_in (tally_flag (next_flag q (get_or t i 0)) c)) (refused_8 i) (judge x (tally_flag (next_flag q (get_or t i 0)) c) (suc i) (drop (i + 1) t)))) is
        ∙ ap (λ x. pick (too_much_in x) (refused_8 i) (judge (state_of t (i + 1) m out) x (suc i) (drop (i + 1) t))) count)

    pub judge_over : (i ≡ 131072 → ⊥) → too_much_in d ≡ true → judge q c i (drop i t) ≡ refused_8 i
    judge_over e over = judge_goes e ∙ ap (λ x. pick x (refused_8 i) (judge (state_of t (i + 1) m out) d (suc i) (drop (i + 1) t))) over

    pub judge_on : (i ≡ 131072 → ⊥) → too_much_in d ≡ false → judge q c i (drop i t) ≡ judge (state_of t (i + 1) m out) d (i + 1) (drop (i + 1) t)
    judge_on e over =
        judge_goes e
        ∙ (ap (λ x. pick x (refused_8 i) (judge (state_of t (i + 1) m out) d (suc i) (drop (i + 1) t))) over ∙ ap (λ n. judge (state_of t (i + 1) m out) d n (drop (i + 1) t)) (sym (add-one i)))

    pub places_on : places_from q i (drop i t) ≡ place_at (next_flag q (get_or t i 0)) i ++ places_from (state_of t (i + 1) m out) (i + 1) (drop (i + 1) t)
    unfolding places_from
    places_on =
        at_drop_more (places_from q i) t i 0 there
        ∙ (ap (λ x. place_at (next_flag q (get_or t i 0)) i ++ places_from x (suc i) (drop (i + 1) t)) is
        ∙ ap (λ n. place_at (next_flag q (get_or t i 0)) i ++ places_from (state_of t (i + 1) m out) n (drop (i + 1) t)) (sym (add-one i)))
