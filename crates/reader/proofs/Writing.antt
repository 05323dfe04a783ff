-- Steps stored one after the other, and what reading a text answers.
use Rattle.std.proofs.Common.{◌≡◌, ℕ, ◌+◌, ◌-◌, ◌*◌, ◌/◌, ◌<◌, ◌≤◌, Bool, true, false, List, [], ◌∷◌, ◌++◌, length, get_or, take, drop, Ok, Err, Result, sym, ap, ◌∙◌, arith}
use Rattle.std.proofs.lemmas.List.{length-take-le, take_more, take_more_set, get_or-take, ext_get_or, drop-drop}
use Rattle.std.proofs.lemmas.Bool.{lt-ltb, le-ltb}
use Rattle.semantics.specs.Shapes.{pick}
use Rattle.program.specs.declared.step.Step.{Step}
use Rattle.program.specs.Words.{step_of, step_in, place_in, steps_in, places_in, Stored, Stores}
use Rattle.program.proofs.Storing.{length_steps_in, length_places_in, steps_in_at, places_in_at}
use Rattle.grammar.specs.Automaton.{answer_to}
use Rattle.reader.specs.declared.judging.Flaw.{Flaw}
use Rattle.reader.specs.declared.refusal.Refusal.{Refusal}
use Rattle.reader.specs.Refusals.{refusal_of}
use Rattle.reader.specs.Judging.{ReadsText, mark_places}
use Rattle.reader.specs.Reading.{verdict_of, steps_said, result_of, Written}

-- the steps of the first words are the first steps
module _ (ws : List ℕ) (n : ℕ) (fits : 5 * n ≤ length ws) where
  front : length (take (5 * n) ws) ≡ 5 * n
  front = length-take-le (5 * n) ws fits

  step_in_take : (k : ℕ) → k < n → step_in (take (5 * n) ws) k ≡ step_in ws k
  unfolding step_in
  step_in_take k low =
      let at : (j : ℕ) → j < 5 → get_or (take (5 * n) ws) (5 * k + j) 0 ≡ get_or ws (5 * k + j) 0 = λ j h. get_or-take (5 * n) ws (5 * k + j) 0 (omega arith) in
      let first : get_or (take (5 * n) ws) (5 * k) 0 ≡ get_or ws (5 * k) 0 = get_or-take (5 * n) ws (5 * k) 0 (omega arith) in
      let ts = take (5 * n) ws in
      ap (λ x. step_of x (get_or ts (5 * k + 2) 0) (get_or ts (5 * k + 3) 0) (get_or ts (5 * k + 4) 0)) first
      ∙ (ap (λ x. step_of (get_or ws (5 * k) 0) x (get_or ts (5 * k + 3) 0) (get_or ts (5 * k + 4) 0)) (at 2 (omega arith))
      ∙ (ap (λ x. step_of (get_or ws (5 * k) 0) (get_or ws (5 * k + 2) 0) x (get_or ts (5 * k + 4) 0)) (at 3 (omega arith))
      ∙ ap (λ x. step_of (get_or ws (5 * k) 0) (get_or ws (5 * k + 2) 0) (get_or ws (5 * k + 3) 0) x) (at 4 (omega arith))))

  place_in_take : (k : ℕ) → k < n → place_in (take (5 * n) ws) k ≡ place_in ws k
  unfolding place_in
  place_in_take k low = get_or-take (5 * n) ws (5 * k + 1) 0 (omega arith)

  fifth : length (take (5 * n) ws) / 5 ≡ n
  fifth = omega (arith, front)

  many : n ≤ length ws / 5
  many = omega arith

  pub steps_in_take : steps_in (take (5 * n) ws) ≡ take n (steps_in ws)
  steps_in_take =
      let left : length (steps_in (take (5 * n) ws)) ≡ n = length_steps_in (take (5 * n) ws) ∙ fifth in
      let right : length (take n (steps_in ws)) ≡ n = length-take-le n (steps_in ws) (omega (arith, length_steps_in ws, many)) in
      ext_get_or Step.End (steps_in (take (5 * n) ws)) (take n (steps_in ws)) (left ∙ sym right)
      (λ k h. let low : k < n = omega arith in
      steps_in_at (take (5 * n) ws) k (omega (arith, fifth)) ∙ (step_in_take k low ∙ (sym (steps_in_at ws k (omega (arith, many))) ∙ sym (get_or-take n (steps_in ws) k Step.End low))))

  pub places_in_take : places_in (take (5 * n) ws) ≡ take n (places_in ws)
  places_in_take =
      let left : length (places_in (take (5 * n) ws)) ≡ n = length_places_in (take (5 * n) ws) ∙ fifth in
      let right : length (take n (places_in ws)) ≡ n = length-take-le n (places_in ws) (omega (arith, length_places_in ws, many)) in
      ext_get_or 0 (places_in (take (5 * n) ws)) (take n (places_in ws)) (left ∙ sym right)
      (λ k h. let low : k < n = omega arith in
      places_in_at (take (5 * n) ws) k (omega (arith, fifth)) ∙ (place_in_take k low ∙ (sym (places_in_at ws k (omega (arith, many))) ∙ sym (get_or-take n (places_in ws) k 0 low))))

-- k steps are stored
pub record Storing (old now : List ℕ) (n k : ℕ) (steps : List Step) (places : List ℕ) : Type 0 where
  pub long : length now ≡ length old
  pub are : take k (steps_in now) ≡ take k steps
  pub stand : take k (places_in now) ≡ take k places
  pub rest : drop (5 * n) now ≡ drop (5 * n) old

module _ (old now : List ℕ) (n k : ℕ) (steps : List Step) (places : List ℕ) (room : 5 * n ≤ length old) (on : Storing old now n k steps places) where
  stored_more : (new : List ℕ) → k < n → n ≤ length steps → n ≤ length places → length new ≡ length now → Stored now new k (get_or steps k Step.End) (get_or places k 0) → Storing old new n (k + 1) steps places
  stored_more new low many wide same st =
      let count : k < length (steps_in now) = st.there in
      let count-p : k < length (places_in now) = omega (arith, st.there, length_steps_in now, length_places_in now) in
      let far : 5 * k + 5 + (5 * n - (5 * k + 5)) ≡ 5 * n = omega arith in
      record {
        long = same ∙ on.long;
        are =
            ap (take (k + 1)) st.steps
            ∙ (take_more_set (steps_in now) k (get_or steps k Step.End) count ∙ (ap (λ xs. xs ++ get_or steps k Step.End ∷ []) on.are ∙ sym (take_more steps k Step.End (omega arith))));
        stand =
            ap (take (k + 1)) st.places
            ∙ (take_more_set (places_in now) k (get_or places k 0) count-p ∙ (ap (λ xs. xs ++ get_or places k 0 ∷ []) on.stand ∙ sym (take_more places k 0 (omega arith))));
        rest =
            ap (λ j. drop j new) (sym far)
            ∙ (sym (drop-drop (5 * n - (5 * k + 5)) (5 * k + 5) new)
            ∙ (ap (drop (5 * n - (5 * k + 5))) st.behind ∙ (drop-drop (5 * n - (5 * k + 5)) (5 * k + 5) now ∙ (ap (λ j. drop j now) far ∙ on.rest))));
      }

  -- there is always a place for the next
  pub stores_more : (new : List ℕ) (r : Bool) → k < n → n ≤ length steps → n ≤ length places → length new ≡ length now → Stores now new k (get_or steps k Step.End) (get_or places k 0) r → Storing old new n (k + 1) steps places
  stores_more new true low many wide same st = stored_more new low many wide same st
  stores_more new false low many wide same st = absurd (omega (arith, st.0, length_steps_in now, on.long))

  pub all_stored : k ≡ n → Written old now n (take n steps) (take n places)
  all_stored e =
      let fits : 5 * n ≤ length now = omega (arith, on.long) in
      record {
        are = steps_in_take now n fits ∙ (ap (λ j. take j (steps_in now)) (sym e) ∙ (on.are ∙ ap (λ j. take j steps) e));
        stand = places_in_take now n fits ∙ (ap (λ j. take j (places_in now)) (sym e) ∙ (on.stand ∙ ap (λ j. take j places) e));
        rest = on.rest;
      }

-- WHAT IS ANSWERED

length_back : (n : ℕ) (steps : List Step) → length steps ≡ 2048 → n ≤ 2048 → length (take n steps) ≡ n
length_back n steps long few = length-take-le n steps (omega arith)

pub verdict_is : (t : List ℕ) (steps : List Step) (places : List ℕ) (r : Result ℕ Flaw) → length steps ≡ 2048 → ReadsText t steps places r → r ≡ verdict_of (answer_to t)
unfolding verdict_of
verdict_is t steps places (Ok n) long (is, marks, few) = ap Ok (sym (length_back n steps long few)) ∙ ap verdict_of (sym is)
verdict_is t steps places (Err (Flaw.NoProgram i)) long is = ap verdict_of (sym is)
verdict_is t steps places (Err (Flaw.TooMuch i)) long is = ap verdict_of (sym is)

module _ (t : List ℕ) (steps : List Step) (places : List ℕ) (n lent : ℕ) (long : length steps ≡ 2048) (read : ReadsText t steps places (Ok n)) where
  back_is : 16 * length (take n steps) ≡ 16 * n
  back_is = ap (λ k. 16 * k) (length_back n steps long read.2)

  pub short_is : lent < 16 * n → Err Refusal.ShortWords ≡ result_of (answer_to t) lent
  unfolding result_of
  short_is few =
      sym (ap (λ a. result_of a lent) read.0 ∙ ap (λ x. pick x (Err Refusal.ShortWords) (Ok (length (take n steps)))) (lt-ltb lent (16 * length (take n steps)) (omega (arith, back_is))))

  pub taken_is : 16 * n ≤ lent → Ok n ≡ result_of (answer_to t) lent
  unfolding result_of
  taken_is enough =
      sym (ap (λ a. result_of a lent) read.0
      ∙ (ap (λ x. pick x (Err Refusal.ShortWords) (Ok (length (take n steps)))) (le-ltb lent (16 * length (take n steps)) (omega (arith, back_is))) ∙ ap Ok (length_back n steps long read.2)))

  pub steps_are : take n steps ≡ steps_said (answer_to t)
  unfolding steps_said
  steps_are = sym (ap steps_said read.0)

  pub written_is : (old new : List ℕ) → Written old new n (take n steps) (take n places) → Written old new n (steps_said (answer_to t)) (mark_places t)
  written_is old new w = record { are = w.are ∙ steps_are; stand = w.stand ∙ read.1; rest = w.rest }

pub refused_is : (t : List ℕ) (steps : List Step) (places : List ℕ) (e : Flaw) (lent : ℕ) → ReadsText t steps places (Err e) → Err (refusal_of e) ≡ result_of (answer_to t) lent
unfolding result_of
refused_is t steps places (Flaw.NoProgram i) lent is = sym (ap (λ a. result_of a lent) is)
refused_is t steps places (Flaw.TooMuch i) lent is = sym (ap (λ a. result_of a lent) is)
