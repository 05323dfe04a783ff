-- The automaton's answer is the verdict on a text, and there is one verdict.
use Rattle.std.proofs.Common.{◌≡◌, ℕ, zero, suc, ◌+◌, ◌-◌, ◌<◌, ◌≤◌, true, false, eqb, ltb, List, [], ◌∷◌, ◌++◌, length, take, sym, refl, ap, ◌∙◌, subst, inl, ⊎_elim, append_assoc, add-one, arith, length-append}
use Rattle.std.proofs.lemmas.Bool.{both_ways, or_cases, or_parts, or_left, or_right, lt-ltb, ltb-true, ltb-false, eqb-true, eqb-false, cases_lt, cases_order}
use Rattle.semantics.specs.Programs.{Program}
use Rattle.grammar.specs.Letters.{Flag, inside, begins, opens, closes, Letter, letter, bytes, Tally, nothing, tally_flag, tally}
use Rattle.grammar.specs.Texts.{letters, Reads, GoesOn, Passes, many, deep, BeginsOver, Stops, wrong, short, NoProgram, TooMuch, long, over, Verdict, taken, no_program, too_much, Judged, is_taken, is_no_program, is_too_much}
use Rattle.grammar.specs.Automaton.{start, next, next_flag, run, run_tally, is_stuck, between, last, steps_of, Answer, took, refused_7, refused_8, too_much_in, judge, answer_to, answer_of}
use Rattle.grammar.proofs.EndsBack.{append_nil}
use Rattle.grammar.proofs.Back.{pick_told}
use Rattle.grammar.proofs.Accepts.{run_append, tally_append, writing_tally, reads_accepted, accepted_reads, one_program, run_begun, goes_on_run, run_goes_on, reads_begun, stuck_before}

-- LISTS

take_front : (u t : List ℕ) → take (length u) (u ++ t) ≡ u
take_front [] t = refl
take_front (b ∷ u) t = ap {B = List ℕ} (λ y. b ∷ y) (take_front u t)

take_front_more : (u : List ℕ) (b : ℕ) (t : List ℕ) → take (suc (length u)) (u ++ b ∷ t) ≡ u ++ b ∷ []
take_front_more [] b t = refl
take_front_more (c ∷ u) b t = ap {B = List ℕ} (λ y. c ∷ y) (take_front_more u b t)

take_split : {A : Type 0} (i j : ℕ) (t : List A) → i ≤ j → (rest : List A) × (take j t ≡ take i t ++ rest)
take_split zero j t h = (take j t, refl)
take_split (suc i) zero t h = absurd (omega arith)
take_split (suc i) (suc j) [] h = ([], refl)
take_split {A} (suc i) (suc j) (x ∷ t) h = let k = take_split i j t (omega arith) in (k.0, ap {B = List A} (λ y. x ∷ y) k.1)

pub take_all : {A : Type 0} (i : ℕ) (t : List A) → (rest : List A) × (t ≡ take i t ++ rest)
take_all zero t = (t, refl)
take_all (suc i) [] = ([], refl)
take_all {A} (suc i) (x ∷ t) = let k = take_all i t in (k.0, ap {B = List A} (λ y. x ∷ y) k.1)

pub bytes_take : (i : ℕ) (f : List Letter) → bytes (take i f) ≡ take i (bytes f)
unfolding bytes
bytes_take zero f = refl
bytes_take (suc i) [] = refl
bytes_take (suc i) (letter x b ∷ f) = ap {B = List ℕ} (λ y. b ∷ y) (bytes_take i f)

take_take : (i : ℕ) (t more : List ℕ) → i ≤ length t → take i (take i t ++ more) ≡ take i t
take_take zero t more h = refl
take_take (suc i) [] more h = absurd (omega arith)
take_take (suc i) (b ∷ t) more h = ap {B = List ℕ} (λ y. b ∷ y) (take_take i t more (omega arith))

take_less : (i : ℕ) (t more : List ℕ) → i < length t → take i (take (suc i) t ++ more) ≡ take i t
take_less zero t more h = refl
take_less (suc i) [] more h = absurd (omega arith)
take_less (suc i) (b ∷ t) more h = ap {B = List ℕ} (λ y. b ∷ y) (take_less i t more (omega arith))

-- what is counted along the first bytes
unfoldable pub counted : List ℕ → Tally
counted u = run_tally start nothing u

goes_on_less : (t : List ℕ) (i j : ℕ) → i ≤ j → GoesOn t j → GoesOn t i
goes_on_less t i j h g =
    let k = take_split i j t h in
    run_goes_on t i (stuck_before (take i t) start k.0 (subst (λ x. is_stuck (run start x) ≡ false) k.1 (goes_on_run t j g)))

pub reads_goes_on : (t : List ℕ) (p : Program ℕ) (i : ℕ) → Reads t p → GoesOn t i
reads_goes_on t p i r =
    let k = take_all i t in
    run_goes_on t i (reads_begun (take i t) k.0 p (subst (λ x. Reads x p) k.1 r))

-- a byte that begins what is too much, as it is counted
pub record Over (t : List ℕ) (i : ℕ) : Type 0 where
  pub goes : is_stuck (run start (take (suc i) t)) ≡ false
  pub passes : Passes (counted (take i t)) (counted (take (suc i) t))

pub over_counted : {t : List ℕ} {i : ℕ} → BeginsOver t i → Over t i
unfolding counted
over_counted {t} {i} h =
    let f = letters h.writing in
    let a = take_all i f in
    let b = take_all (suc i) f in
    let c = h.inside in
    let x : bytes (take i f) ≡ take i t = bytes_take i f ∙ ap (take i) h.is ∙ take_less i t h.more h.inside in
    let y : bytes (take (suc i) f) ≡ take (suc i) t = bytes_take (suc i) f ∙ ap (take (suc i)) h.is ∙ take_take (suc i) t h.more (omega arith) in
    record {
      goes = reads_begun (take (suc i) t) h.more _ (record { writing = h.writing; is = refl; lines = inl h.is });
      passes =
          subst (λ d. Passes d (run_tally start nothing (take (suc i) t))) (sym (writing_tally h.writing (take i f) a.0 a.1) ∙ ap (run_tally start nothing) x)
          (subst (λ d. Passes (tally (take i f)) d) (sym (writing_tally h.writing (take (suc i) f) b.0 b.1) ∙ ap (run_tally start nothing) y) h.over);
    }

pub counted_over : (t : List ℕ) (i : ℕ) → i < length t → Over t i → BeginsOver t i
unfolding counted
counted_over t i l h =
    let w = run_begun (take (suc i) t) h.goes in
    let f = letters w.writing in
    let a = take_all i f in
    let b = take_all (suc i) f in
    let x : bytes (take i f) ≡ take i t = bytes_take i f ∙ ap (take i) w.is ∙ take_less i t w.more l in
    let y : bytes (take (suc i) f) ≡ take (suc i) t = bytes_take (suc i) f ∙ ap (take (suc i)) w.is ∙ take_take (suc i) t w.more (omega arith) in
    record {
      inside = l;
      writing = w.writing;
      more = w.more;
      is = w.is;
      over =
          subst (λ d. Passes d (tally (take (suc i) f))) (ap (run_tally start nothing) (sym x) ∙ writing_tally w.writing (take i f) a.0 a.1)
          (subst (λ d. Passes (run_tally start nothing (take i t)) d) (ap (run_tally start nothing) (sym y) ∙ writing_tally w.writing (take (suc i) f) b.0 b.1) h.passes);
    }

pub passes_too_much : {c d : Tally} → Passes c d → too_much_in d ≡ true
unfolding too_much_in
passes_too_much {d = d} (many e f) = or_left _ _ (lt-ltb 2048 d.marks (omega arith))
passes_too_much {d = d} (deep e f) = or_right _ _ (lt-ltb 8 d.level (omega arith))

-- no more than may be
record Calm (c : Tally) : Type 0 where
  few : c.marks ≤ 2048
  flat : c.level ≤ 8

calm : (c : Tally) → too_much_in c ≡ false → Calm c
unfolding too_much_in
calm c h = let p = or_parts (ltb 2048 c.marks) (ltb 8 c.level) h in record { few = ltb-false 2048 c.marks p.0; flat = ltb-false 8 c.level p.1 }

-- more than may be, with the one flag
pub flag_passes : (x : Flag) (c : Tally) → too_much_in c ≡ false → too_much_in (tally_flag x c) ≡ true → Passes c (tally_flag x c)
unfolding too_much_in tally_flag
flag_passes inside c h k = absurd (both_ways (too_much_in c) h k)
flag_passes begins c h k =
    let a = calm c h in
    ⊎_elim (λ e. let l = ltb-true 2048 (suc c.marks) e in many (omega arith) (omega arith)) (λ e. let l = ltb-true 8 c.level e in absurd (omega arith)) (or_cases (ltb 2048 (suc c.marks)) (ltb 8 c.level) k)
flag_passes opens c h k =
    let a = calm c h in
    ⊎_elim (λ e. let l = ltb-true 2048 (suc c.marks) e in many (omega arith) (omega arith)) (λ e. let l = ltb-true 8 (suc c.level) e in deep (omega arith) (omega arith)) (or_cases (ltb 2048 (suc c.marks)) (ltb 8 (suc c.level)) k)
flag_passes closes c h k =
    let a = calm c h in
    ⊎_elim (λ e. let l = ltb-true 2048 (suc c.marks) e in many (omega arith) (omega arith)) (λ e. let l = ltb-true 8 (c.level - 1) e in absurd (omega arith)) (or_cases (ltb 2048 (suc c.marks)) (ltb 8 (c.level - 1)) k)

-- the verdict that an answer is
pub record Right (t : List ℕ) (a : Answer) : Type 0 where
  pub verdict : Verdict
  pub judged : Judged t verdict
  pub is : a ≡ answer_of verdict

-- up to here nothing is wrong: u has been read, r is still to come
record Fine (t u r : List ℕ) : Type 0 where
  whole : t ≡ u ++ r
  free : is_stuck (run start u) ≡ false
  so_far : length u ≤ 131072
  now : too_much_in (counted u) ≡ false
  before : (j : ℕ) → j < length u → too_much_in (counted (take (suc j) t)) ≡ false

module _ {t u r : List ℕ} (h : Fine t u r) where
  fine_length : length t ≡ length u + length r
  fine_length = ap length h.whole ∙ length-append u r

  fine_front : take (length u) t ≡ u
  fine_front = ap (take (length u)) h.whole ∙ take_front u r

  fine_goes : GoesOn t (length u)
  fine_goes = run_goes_on t (length u) (subst (λ x. is_stuck (run start x) ≡ false) (sym fine_front) h.free)

  -- nothing is too much, nor wrong, before
  fine_over : (j : ℕ) → j < length u → BeginsOver t j → ⊥
  fine_over j l o = both_ways _ (h.before j l) (passes_too_much (over_counted o).passes)

  fine_before : (j : ℕ) → j < length u → TooMuch t j → ⊥
  fine_before j l (long m e) = let s = h.so_far in omega arith
  fine_before j l (over o) = fine_over j l o

  fine_goes_before : (j : ℕ) → j < length u → NoProgram t j → ⊥
  fine_goes_before j l n = go n.stops
    where
      go : Stops t j → ⊥
      go (wrong i k) = k (goes_on_less t (suc j) (length u) l fine_goes)
      go (short e k) = omega (arith, fine_length)

-- at the end of the text
fine_end : {t u : List ℕ} → Fine t u [] → Right t (judge (run start u) (counted u) (length u) [])
unfolding judge answer_of
fine_end {t} {u} h = pick_told (Right t) (between (last (run start u))) yes not
  where
    same : u ≡ t
    same = sym (h.whole ∙ append_nil u)

    none_over : (j : ℕ) → TooMuch t j → ⊥
    none_over j (long m e) = let s = h.so_far in omega (arith, fine_length h)
    none_over j (over o) = let i = o.inside in fine_over h j (omega (arith, fine_length h)) o

    yes : between (last (run start u)) ≡ true → Right t (took (steps_of (last (run start u))))
    yes e =
        let k = accepted_reads u e in
        record { verdict = taken k.program; judged = is_taken (subst (λ x. Reads x k.program) same k.reads) none_over; is = ap took k.steps }

    not : between (last (run start u)) ≡ false → Right t (refused_7 (length u))
    not e =
        record {
          verdict = no_program (length u);
          judged = is_no_program (record { goes = fine_goes h; stops = short (ap length same) (λ p r. both_ways _ e (reads_accepted u p (subst (λ x. Reads x p) (sym same) r)).whole) }) (λ j l. none_over j);
          is = refl;
        }

-- one more byte
module _ {t u r : List ℕ} {b : ℕ} (h : Fine t u (b ∷ r)) where
  one_front : take (suc (length u)) t ≡ u ++ b ∷ []
  one_front = ap (take (suc (length u))) h.whole ∙ take_front_more u b r

  one_inside : length u < length t
  one_inside = omega (arith, fine_length h)

  one_run : run start (take (suc (length u)) t) ≡ next (run start u) b
  unfolding run
  one_run = ap (run start) one_front ∙ run_append u start (b ∷ [])

  one_counted : counted (take (suc (length u)) t) ≡ tally_flag (next_flag (run start u) b) (counted u)
  unfolding counted run_tally
  one_counted = ap (run_tally start nothing) one_front ∙ tally_append u start nothing (b ∷ [])

  too_long : eqb (length u) 131072 ≡ true → Right t (refused_8 (length u))
  unfolding answer_of
  too_long e =
      let i = eqb-true (length u) 131072 e in
      record { verdict = too_much (length u); judged = is_too_much (long (omega (arith, one_inside)) i) (fine_before h) (fine_goes_before h); is = refl }

  no_way : eqb (length u) 131072 ≡ false → is_stuck (next (run start u) b) ≡ true → Right t (refused_7 (length u))
  unfolding answer_of
  no_way e s =
      record {
        verdict = no_program (length u);
        judged = is_no_program (record { goes = fine_goes h; stops = wrong one_inside none_goes }) none_over;
        is = refl;
      }
    where
      none_goes : GoesOn t (suc (length u)) → ⊥
      none_goes g = both_ways (is_stuck (next (run start u) b)) (subst (λ x. is_stuck x ≡ false) one_run (goes_on_run t (suc (length u)) g)) s

      none_over : (j : ℕ) → j ≤ length u → TooMuch t j → ⊥
      none_over j l (long m k) = let n = eqb-false (length u) 131072 e in let f = h.so_far in n (omega arith)
      none_over j l (over o) =
          ⊎_elim
          (λ (i : j < length u). fine_over h j i o)
          (λ (i : length u ≤ j).
          let q : j ≡ length u = omega arith in
          both_ways (is_stuck (next (run start u) b)) (subst (λ x. is_stuck x ≡ false) one_run (subst (λ k. is_stuck (run start (take (suc k) t)) ≡ false) q (over_counted o).goes)) s)
          (cases_lt j (length u))

  one_over : is_stuck (next (run start u) b) ≡ false → too_much_in (tally_flag (next_flag (run start u) b) (counted u)) ≡ true → Right t (refused_8 (length u))
  unfolding answer_of
  one_over f m =
      record {
        verdict = too_much (length u);
        judged = is_too_much (over (counted_over t (length u) one_inside (record {
          goes = subst (λ x. is_stuck x ≡ false) (sym one_run) f;
          passes = subst (λ c. Passes c (counted (take (suc (length u)) t))) (sym (ap counted (fine_front h)))
              (subst (λ d. Passes (counted u) d) (sym one_counted) (flag_passes (next_flag (run start u) b) (counted u) h.now m));
        }))) (fine_before h) (fine_goes_before h);
        is = refl;
      }

  one_more : eqb (length u) 131072 ≡ false → is_stuck (next (run start u) b) ≡ false → too_much_in (tally_flag (next_flag (run start u) b) (counted u)) ≡ false → Fine t (u ++ b ∷ []) r
  one_more e f m =
      let n = eqb-false (length u) 131072 e in
      let l = h.so_far in
      let x : length (u ++ b ∷ []) ≡ suc (length u) = length-append u (b ∷ []) ∙ omega arith in
      record {
        whole = h.whole ∙ sym (append_assoc u (b ∷ []) r);
        free = subst (λ y. is_stuck y ≡ false) (sym one_run ∙ ap (run start) one_front) f;
        so_far = ⊎_elim (λ (k : length u < 131072). omega arith) (λ (k : 131072 ≤ length u). absurd (n (omega arith))) (cases_lt (length u) 131072);
        now = subst (λ y. too_much_in y ≡ false) (sym one_counted ∙ ap counted one_front) m;
        before = λ j i. ⊎_elim
            (λ (k : j < length u). h.before j k)
            (λ (k : length u ≤ j). subst (λ y. too_much_in (counted (take (suc y) t)) ≡ false) (omega arith) (subst (λ y. too_much_in y ≡ false) (sym one_counted) m))
            (cases_lt j (length u));
      }

-- the automaton one byte further
further : (t u r : List ℕ) (b : ℕ) → judge (run start (u ++ b ∷ [])) (counted (u ++ b ∷ [])) (length (u ++ b ∷ [])) r ≡ judge (next (run start u) b) (tally_flag (next_flag (run start u) b) (counted u)) (suc (length u)) r
unfolding run counted run_tally
further t u r b =
    ap (λ q. judge q (counted (u ++ b ∷ [])) (length (u ++ b ∷ [])) r) (run_append u start (b ∷ []))
    ∙ ap (λ c. judge (next (run start u) b) c (length (u ++ b ∷ [])) r) (tally_append u start nothing (b ∷ []))
    ∙ ap (λ i. judge (next (run start u) b) (tally_flag (next_flag (run start u) b) (counted u)) i r) (length-append u (b ∷ []) ∙ add-one (length u))

fine_right : (r : List ℕ) {t u : List ℕ} → Fine t u r → Right t (judge (run start u) (counted u) (length u) r)
unfolding judge
fine_right [] h = fine_end h
fine_right (b ∷ r) {t} {u} h =
    pick_told (Right t) (eqb (length u) 131072) (too_long h)
    (λ e. pick_told (Right t) (is_stuck (next (run start u) b)) (no_way h e)
    (λ f. pick_told (Right t) (too_much_in (tally_flag (next_flag (run start u) b) (counted u))) (one_over h f)
    (λ m. subst (Right t) (further t u r b) (fine_right r (one_more h e f m)))))

fine_start : (t : List ℕ) → Fine t [] t
unfolding run start is_stuck counted run_tally too_much_in
fine_start t = record { whole = refl; free = refl; so_far = omega arith; now = refl; before = λ j l. absurd (omega arith) }

pub answer_right : (t : List ℕ) → Right t (answer_to t)
unfolding answer_to counted run run_tally
answer_right t = fine_right t (fine_start t)

-- ONE VERDICT

no_program_length : {t : List ℕ} {i : ℕ} → NoProgram t i → i ≤ length t
no_program_length {t} {i} h = go h.stops
  where
    go : Stops t i → i ≤ length t
    go (wrong l k) = omega arith
    go (short e k) = omega arith

-- where it is no program it is none further on
no_program_first : {t : List ℕ} {i j : ℕ} → NoProgram t i → NoProgram t j → i < j → ⊥
no_program_first {t} {i} {j} h k l = go h.stops
  where
    go : Stops t i → ⊥
    go (wrong m n) = n (goes_on_less t (suc i) j l k.goes)
    go (short e n) = let m = no_program_length k in omega arith

no_program_taken : {t : List ℕ} {i : ℕ} {p : Program ℕ} → NoProgram t i → Reads t p → ⊥
no_program_taken {t} {i} {p} h r = go h.stops
  where
    go : Stops t i → ⊥
    go (wrong m n) = n (reads_goes_on t p (suc i) r)
    go (short e n) = n p r

pub one_verdict : (t : List ℕ) (v v' : Verdict) → Judged t v → Judged t v' → v ≡ v'
one_verdict t (taken p) (taken q) (is_taken r _) (is_taken s _) = ap taken (one_program t p q r s)
one_verdict t (taken p) (no_program j) (is_taken r _) (is_no_program n _) = absurd (no_program_taken n r)
one_verdict t (taken p) (too_much j) (is_taken r o) (is_too_much m _ _) = absurd (o j m)
one_verdict t (no_program i) (taken q) (is_no_program n _) (is_taken s _) = absurd (no_program_taken n s)
one_verdict t (no_program i) (no_program j) (is_no_program n _) (is_no_program k _) =
    ap no_program (⊎_elim (λ e. e) (λ e. absurd (⊎_elim (λ l. no_program_first n k l) (λ l. no_program_first k n l) e)) (cases_order i j))
one_verdict t (no_program i) (too_much j) (is_no_program n o) (is_too_much m _ k) =
    absurd (⊎_elim (λ (l : i < j). k i l n) (λ (l : j ≤ i). o j l m) (cases_lt i j))
one_verdict t (too_much i) (taken q) (is_too_much m _ _) (is_taken s o) = absurd (o i m)
one_verdict t (too_much i) (no_program j) (is_too_much m _ k) (is_no_program n o) =
    absurd (⊎_elim (λ (l : j < i). k j l n) (λ (l : i ≤ j). o i l m) (cases_lt j i))
one_verdict t (too_much i) (too_much j) (is_too_much m a _) (is_too_much n b _) =
    ap too_much (⊎_elim (λ e. e) (λ e. absurd (⊎_elim (λ l. b i l m) (λ l. a j l n) e)) (cases_order i j))
