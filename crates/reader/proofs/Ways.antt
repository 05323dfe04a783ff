-- The ways of the loop over a text, and of its end.
use Rattle.std.proofs.Common.{◌≡◌, ℕ, ◌+◌, ◌<◌, ◌≤◌, true, false, ltb, List, [], ◌∷◌, ◌++◌, reverse, length, get_or, take, drop, Some, None, Option, Ok, sym, refl, ap, ◌∙◌, subst, arith}
use mathlib.Core.List.{reverse_aux}
use Rattle.std.specs.Option.{option_to_list}
use Rattle.std.proofs.lemmas.List.{at_drop_all, length-reverse, length-take-le, length-append, length-drop, reverse-append, append_assoc, append-nil}
use Rattle.std.proofs.lemmas.Bool.{lt-ltb, le-ltb, or_left, or_right, or_from}
use Rattle.semantics.specs.Shapes.{pick}
use Rattle.program.specs.declared.step.Step.{Step}
use Rattle.grammar.specs.declared.symbol.Symbol.{Symbol}
use Rattle.grammar.specs.Letters.{Tally, tally_flag}
use Rattle.grammar.specs.Words.{Word}
use Rattle.grammar.specs.Automaton.{State, stuck, at, settle, top_move, moved, next, next_flag, between, onto, steps_of, last, took, refused_7, refused_8, too_much_in, judge, answer_to}
use Rattle.reader.specs.declared.machine.Machine.{Machine}
use Rattle.reader.specs.declared.turn.Mark.{Mark}
use Rattle.reader.specs.declared.stepping.Advance.{Advance}
use Rattle.reader.specs.declared.stepping.Said.{Said}
use Rattle.reader.specs.declared.judging.Count.{Count}
use Rattle.reader.specs.Turning.{flag_of}
use Rattle.reader.specs.Machines.{state_of, Advanced, Settled, ReadOn}
use Rattle.reader.specs.Judging.{tally_of, only_lines, line_ends, place_of, place_at, places_from, mark_places, ReadsText}
use Rattle.reader.proofs.Depths.{Sound, deep}
use Rattle.reader.proofs.Keeping.{SoundState, sound_at, sound_next, sound_settle}
use Rattle.reader.proofs.Settling.{well_of, advanced_on}
use Rattle.reader.proofs.AtEnd.{between_is, ends_between, ends_said, none_pending, none_pending_last}
use Rattle.reader.proofs.OnWay.{state_with, OnWay, judge_long, judge_stuck, judge_over, judge_on, places_on}

same_place : (x : Mark) (i : ℕ) → place_at (flag_of x) i ≡ place_of x i
same_place Mark.Inside i = refl
same_place Mark.Begins i = refl
same_place Mark.Opens i = refl
same_place Mark.Closes i = refl

marks_more : (x : Mark) (i : ℕ) (c : Tally) → (tally_flag (flag_of x) c).marks ≡ c.marks + length (place_of x i)
unfolding tally_flag
marks_more Mark.Inside i c = omega arith
marks_more Mark.Begins i c = omega arith
marks_more Mark.Opens i c = omega arith
marks_more Mark.Closes i c = omega arith

-- the automaton has its steps the last one first
onto_reverse_aux : (xs ys o : List Step) → onto (reverse_aux xs ys) o ≡ onto ys (xs ++ o)
onto_reverse_aux [] ys o = refl
onto_reverse_aux (x ∷ xs) ys o = onto_reverse_aux xs (x ∷ ys) o

onto_reverse : (xs : List Step) → onto (reverse xs) [] ≡ xs
onto_reverse xs = onto_reverse_aux xs [] [] ∙ append-nil xs

same_back : (o : Option Step) → reverse (option_to_list o) ≡ option_to_list o
same_back None = refl
same_back (Some s) = refl

pub said_more : (ss ts : List Step) (o : Option Step) → ts ≡ ss ++ option_to_list o → reverse ts ≡ option_to_list o ++ reverse ss
said_more ss ts o e = ap reverse e ∙ (reverse-append ss (option_to_list o) ∙ ap (λ x. x ++ reverse ss) (same_back o))

sound_part : {c : Tally} {ns : List Word} {out : List Step} {ss : List Symbol} {w : Word} {v : ℕ} → SoundState c (at ns out ss w v) → Sound ss out c
sound_part (sound_at s) = s

pub sound_of : (c : Tally) (t : List ℕ) (i : ℕ) (m : Machine) (out : List Step) → SoundState c (state_of t i m out) → Sound (drop m.top m.stack) out c
unfolding state_of
sound_of c t i m out h = sound_part h

few_marks : (c : Count) → c.marks ≤ 2048 → c.level ≤ 8 → too_much_in (tally_of c) ≡ false
unfolding too_much_in
few_marks c few low = or_from (ltb 2048 c.marks) (ltb 8 c.level) (le-ltb 2048 c.marks few) (le-ltb 8 c.level low)

pub many_marks : (c : Count) → 2048 < c.marks → too_much_in (tally_of c) ≡ true
unfolding too_much_in
many_marks c many = or_left (ltb 2048 c.marks) (ltb 8 c.level) (lt-ltb 2048 c.marks many)

pub deep_level : (c : Count) → 8 < c.level → too_much_in (tally_of c) ≡ true
unfolding too_much_in
deep_level c many = or_right (ltb 2048 c.marks) (ltb 8 c.level) (lt-ltb 8 c.level many)

module _ (t : List ℕ) (i : ℕ) (m : Machine) (c : Count) (said : ℕ) (steps : List Step) (places : List ℕ) (on : OnWay t i m c said steps places) where
  pub length_said : length (reverse (take said steps)) ≡ said
  length_said = length-reverse (take said steps) ∙ length-take-le said steps (omega (arith, on.long, on.stored))

  -- ON THE WAY

  module _ (there : i < length t) where
    pub way_long : i ≡ 131072 → answer_to t ≡ refused_8 i
    way_long e = on.answer ∙ judge_long (state_with t i m said steps) (tally_of c) t i there e

    module _ (short : i ≡ 131072 → ⊥) where
      pub way_stuck : ((o : List Step) → next (state_of t i m o) (get_or t i 0) ≡ stuck) → answer_to t ≡ refused_7 i
      way_stuck e = on.answer ∙ judge_stuck (state_with t i m said steps) (tally_of c) t i there short (e (reverse (take said steps)))

      module _ (new : Machine) (x : Advance) (adv : Advanced t i m new x) (d : Count) (counts : tally_of d ≡ tally_flag (flag_of x.mark) (tally_of c)) where
        said_now : List Step
        said_now = option_to_list x.step ++ (option_to_list x.before ++ reverse (take said steps))

        counted : tally_flag (next_flag (state_with t i m said steps) (get_or t i 0)) (tally_of c) ≡ tally_of d
        counted = ap (λ f. tally_flag f (tally_of c)) (adv.flag (reverse (take said steps))) ∙ sym counts

        pub way_over : too_much_in (tally_of d) ≡ true → answer_to t ≡ refused_8 i
        way_over over =
            on.answer
            ∙ judge_over (state_with t i m said steps) (tally_of c) t i there new (option_to_list x.step ++ (option_to_list x.before ++ reverse (take said steps))) (tally_of d) (adv.is (reverse (take said steps))) counted short over

        sound_now : SoundState (tally_of d) (state_of t (i + 1) new (option_to_list x.step ++ (option_to_list x.before ++ reverse (take said steps))))
        sound_now =
            subst (λ q. SoundState (tally_of d) q) (adv.is (reverse (take said steps)))
            (subst (λ e. SoundState e (next (state_with t i m said steps) (get_or t i 0))) counted (sound_next (state_with t i m said steps) (get_or t i 0) (well_of t i 16 m (reverse (take said steps)) on.good) on.sound))

        -- no more steps than marks
        pub room_now : said + length (option_to_list x.before) + length (option_to_list x.step) ≤ d.marks
        room_now =
            let pend = (sound_of (tally_of d) t (i + 1) new (option_to_list x.step ++ (option_to_list x.before ++ reverse (take said steps))) sound_now).pend in
            omega (arith, pend, length-append (option_to_list x.step) (option_to_list x.before ++ reverse (take said steps)), length-append (option_to_list x.before) (reverse (take said steps)), length_said)

        pub place_room : d.marks ≡ c.marks + length (place_of x.mark i)
        place_room = ap (λ e. e.marks) counts ∙ marks_more x.mark i (tally_of c)

        pub way_on : d.marks ≤ 2048 → d.level ≤ 8 → (said' : ℕ) (steps' : List Step) (places' : List ℕ) → length steps' ≡ 2048 → length places' ≡ 2048 → said' ≤ 2048
            → reverse (take said' steps') ≡ option_to_list x.step ++ (option_to_list x.before ++ reverse (take said steps))
            → take d.marks places' ≡ take c.marks places ++ place_of x.mark i → OnWay t (i + 1) new d said' steps' places'
        way_on few low said' steps' places' long wide stored says placed =
            let now = option_to_list x.step ++ (option_to_list x.before ++ reverse (take said steps)) in
            let sound = sound_now in
            let depth = deep (drop new.top new.stack) now (tally_of d) (sound_of (tally_of d) t (i + 1) new now sound) in
            let rest = places_from (state_of t (i + 1) new now) (i + 1) (drop (i + 1) t) in
            record {
              short = omega (arith, on.short);
              good =
                  record {
                    few = adv.good.few;
                    wide = adv.good.wide;
                    spans = adv.good.spans;
                    begun = adv.good.begun;
                    deep = adv.good.deep;
                    room = omega (arith, depth, length-drop new.top new.stack, adv.good.wide, adv.good.deep);
                    fits = adv.good.fits;
                  };
              few = few;
              low = low;
              long = long;
              wide = wide;
              stored = stored;
              sound = subst (λ o. SoundState (tally_of d) (state_of t (i + 1) new o)) (sym says) sound;
              answer =
                  on.answer
                  ∙ (judge_on (state_with t i m said steps) (tally_of c) t i there new now (tally_of d) (adv.is (reverse (take said steps))) counted short (few_marks d few low)
                  ∙ ap (λ o. judge (state_of t (i + 1) new o) (tally_of d) (i + 1) (drop (i + 1) t)) (sym says));
              marks =
                  on.marks
                  ∙ (ap (λ ps. take c.marks places ++ ps) (places_on (state_with t i m said steps) (tally_of c) t i there new now (tally_of d) (adv.is (reverse (take said steps))) counted)
                  ∙ (ap (λ ps. take c.marks places ++ (ps ++ rest)) (ap (λ f. place_at f i) (adv.flag (reverse (take said steps))) ∙ same_place x.mark i)
                  ∙ (sym (append_assoc (take c.marks places) (place_of x.mark i) rest)
                  ∙ (ap (λ ps. ps ++ rest) (sym placed) ∙ ap (λ o. take d.marks places' ++ places_from (state_of t (i + 1) new o) (i + 1) (drop (i + 1) t)) (sym says)))));
            }

      -- a byte that says no step and begins no mark
      pub way_skim : (new : Machine) → ReadOn t i m new Mark.Inside → OnWay t (i + 1) new c said steps places
      unfolding tally_flag
      way_skim new read =
          way_on new (record { before = None; step = None; mark = Mark.Inside }) (advanced_on t i m new Mark.Inside on.good read) c refl on.few on.low said steps places
          on.long on.wide on.stored refl (sym (append-nil (take c.marks places)))

  -- AT THE END

  module _ (ended : i ≡ length t) where
    judge_end : judge (state_with t i m said steps) (tally_of c) i (drop i t) ≡ judge (state_with t i m said steps) (tally_of c) i []
    judge_end = at_drop_all (judge (state_with t i m said steps) (tally_of c) i) t i (omega arith)

    places_end : mark_places t ≡ take c.marks places
    unfolding places_from
    places_end =
        on.marks
        ∙ (ap (λ ps. take c.marks places ++ ps) (at_drop_all (places_from (state_with t i m said steps) i) t i (omega arith)) ∙ append-nil (take c.marks places))

    at_between : between (state_with t i m said steps) ≡ only_lines (drop m.top m.stack)
    unfolding state_of
    at_between = between_is _ (reverse (take said steps)) (drop m.top m.stack) _ m.value

    steps_now : steps_of (state_with t i m said steps) ≡ take said steps
    unfolding state_of steps_of
    steps_now = onto_reverse (take said steps)

    pub way_lines : true ≡ only_lines (drop m.top m.stack) → ReadsText t steps places (Ok said)
    unfolding judge last
    way_lines e =
        let q = state_with t i m said steps in
        let still : between q ≡ true = at_between ∙ sym e in
        let same : last q ≡ q = ap (λ x. pick x q (next q 10)) still in
        let all : said ≡ c.marks =
        omega (arith, length_said, (sound_of (tally_of c) t i m (reverse (take said steps)) on.sound).pend, none_pending (drop m.top m.stack) (sym e)) in (
          on.answer
              ∙ (judge_end ∙ (ap (λ x. pick (between x) (took (steps_of x)) (refused_7 i)) same ∙ (ap (λ x. pick x (took (steps_of q)) (refused_7 i)) still ∙ ap took steps_now))),
          ap (λ n. take n places) all ∙ sym places_end,
          on.stored,
        )

    module _ (e : false ≡ only_lines (drop m.top m.stack)) where
      last_is : last (state_with t i m said steps) ≡ next (state_with t i m said steps) 10
      unfolding last
      last_is = ap (λ x. pick x (state_with t i m said steps) (next (state_with t i m said steps) 10)) (at_between ∙ sym e)

      answer_end : (q : State) → next (state_with t i m said steps) 10 ≡ q → answer_to t ≡ pick (between q) (took (steps_of q)) (refused_7 i)
      unfolding judge
      answer_end q is = on.answer ∙ (judge_end ∙ ap (λ x. pick (between x) (took (steps_of x)) (refused_7 i)) (last_is ∙ is))

      pub way_unsettled : ((o : List Step) → settle (state_of t i m o) 10 ≡ stuck) → answer_to t ≡ refused_7 i
      unfolding next moved between
      way_unsettled h = answer_end stuck (ap (λ q. moved (top_move q 10) q) (h (reverse (take said steps))))

      module _ (new : Machine) (x : Said) (st : Settled t i 10 m new x) where
        now_is : next (state_with t i m said steps) 10 ≡ moved (top_move (state_of t i new (option_to_list x.step ++ reverse (take said steps))) 10) (state_of t i new (option_to_list x.step ++ reverse (take said steps)))
        unfolding next
        now_is = ap (λ q. moved (top_move q 10) q) (st.is (reverse (take said steps)))

        between_now : between (moved (top_move (state_of t i new (option_to_list x.step ++ reverse (take said steps))) 10) (state_of t i new (option_to_list x.step ++ reverse (take said steps)))) ≡ line_ends (drop new.top new.stack)
        unfolding state_of
        between_now = ends_between _ (option_to_list x.step ++ reverse (take said steps)) (drop new.top new.stack) _ new.value

        said_last : line_ends (drop new.top new.stack) ≡ true → steps_of (moved (top_move (state_of t i new (option_to_list x.step ++ reverse (take said steps))) 10) (state_of t i new (option_to_list x.step ++ reverse (take said steps)))) ≡ onto (option_to_list x.step ++ reverse (take said steps)) []
        unfolding state_of
        said_last done = ends_said _ (option_to_list x.step ++ reverse (take said steps)) (drop new.top new.stack) _ new.value done

        sound_last : SoundState (tally_of c) (state_of t i new (option_to_list x.step ++ reverse (take said steps)))
        sound_last =
            subst (λ q. SoundState (tally_of c) q) (st.is (reverse (take said steps)))
            (sound_settle (state_with t i m said steps) 10 (well_of t i 16 m (reverse (take said steps)) on.good) on.sound)

        pub room_last : said + length (option_to_list x.step) ≤ 2048
        room_last =
            omega (arith, (sound_of (tally_of c) t i new (option_to_list x.step ++ reverse (take said steps)) sound_last).pend, length-append (option_to_list x.step) (reverse (take said steps)), length_said, on.few)

        pub way_refused : false ≡ line_ends (drop new.top new.stack) → answer_to t ≡ refused_7 i
        way_refused never =
            let q = moved (top_move (state_of t i new (option_to_list x.step ++ reverse (take said steps))) 10) (state_of t i new (option_to_list x.step ++ reverse (take said steps))) in
            answer_end q now_is ∙ ap (λ y. pick y (took (steps_of q)) (refused_7 i)) (between_now ∙ sym never)

        pub way_taken : true ≡ line_ends (drop new.top new.stack) → (said' : ℕ) (steps' : List Step) → said' ≡ said + length (option_to_list x.step) → reverse (take said' steps') ≡ option_to_list x.step ++ reverse (take said steps) → ReadsText t steps' places (Ok said')
        way_taken done said' steps' more says =
            let q = moved (top_move (state_of t i new (option_to_list x.step ++ reverse (take said steps))) 10) (state_of t i new (option_to_list x.step ++ reverse (take said steps))) in
            let all : said' ≡ c.marks =
            omega (arith, (sound_of (tally_of c) t i new (option_to_list x.step ++ reverse (take said steps)) sound_last).pend, length-append (option_to_list x.step) (reverse (take said steps)), length_said, none_pending_last (drop new.top new.stack) (sym done)) in (
              answer_end q now_is ∙ (ap (λ y. pick y (took (steps_of q)) (refused_7 i)) (between_now ∙ sym done) ∙ ap took (said_last (sym done) ∙ (ap (λ xs. onto xs []) (sym says) ∙ onto_reverse (take said' steps')))),
              ap (λ n. take n places) all ∙ sym places_end,
              omega (arith, room_last),
            )
