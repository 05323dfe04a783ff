-- Only the text of a program within the limits is taken.
use Rattle.std.proofs.Common.{◌≡◌, ℕ, zero, suc, ◌+◌, ◌<◌, ◌≤◌, Bool, true, false, eqb, ltb, List, [], ◌∷◌, ◌++◌, length, take, sym, refl, ap, ◌∙◌, subst, ⊎_elim, arith, length-append}
use Rattle.std.proofs.lemmas.Bool.{or_parts, ltb-false, cases_Bool, cases_lt}
use Rattle.semantics.specs.Programs.{Program}
use Rattle.grammar.specs.Letters.{Flag, inside, begins, opens, closes, Letter, letter, bytes, Tally, nothing, tally_flag, tally, tally_from}
use Rattle.grammar.specs.Words.{Word, begins_some, binary_word, binaries}
use Rattle.grammar.specs.Limits.{marks_of, depth_of}
use Rattle.grammar.specs.Texts.{Writing, letters, Reads, TooMuch, Passes, over, taken, Judged, is_taken}
use Rattle.grammar.specs.Moves.{Move, move, moves, when, push, viable, viable_name}
use Rattle.grammar.specs.Automaton.{State, stuck, at, start, settle, top_move, move_flag, next_flag, run, run_tally, too_much_in}
use Rattle.grammar.specs.declared.symbol.Symbol.{Symbol}
use Rattle.grammar.proofs.Accepts.{tally_append, writing_tally, goes_on_run}
use Rattle.grammar.proofs.Counts.{marks_along, peak_along, level_flag, lines_add}
use Rattle.grammar.proofs.EndsBack.{append_nil}
use Rattle.grammar.proofs.Within.{first_bytes}
use Rattle.grammar.proofs.Lengths.{length_bytes, marks_of_read, depth_of_read}
use Rattle.grammar.proofs.Judges.{counted, flag_passes, counted_over, reads_goes_on, take_all}

take_one : (j : ℕ) (t : List ℕ) → j < length t → (b : ℕ) × (take (suc j) t ≡ take j t ++ b ∷ [])
take_one j [] h = absurd (omega arith)
take_one zero (b ∷ t) h = (b, refl)
take_one (suc j) (b ∷ t) h = let k = take_one j t (omega arith) in (k.0, ap {B = List ℕ} (λ y. b ∷ y) k.1)

-- nowhere too much: never more than may be
calm_step : (t : List ℕ) (p : Program ℕ) (j : ℕ) → Reads t p → ((i : ℕ) → TooMuch t i → ⊥) → j < length t → too_much_in (counted (take j t)) ≡ false → too_much_in (counted (take (suc j) t)) ≡ true → ⊥
unfolding counted run_tally
calm_step t p j r h l c e =
    let k = take_one j t l in
    let b = k.0 in
    let q : counted (take (suc j) t) ≡ tally_flag (next_flag (run start (take j t)) b) (counted (take j t)) = ap (run_tally start nothing) k.1 ∙ tally_append (take j t) start nothing (b ∷ []) in
    h j (over (counted_over t j l (record {
      goes = goes_on_run t (suc j) (reads_goes_on t p (suc j) r);
      passes = subst (λ d. Passes (counted (take j t)) d) (sym q) (flag_passes (next_flag (run start (take j t)) b) (counted (take j t)) c (sym (ap too_much_in q) ∙ e));
    })))

calm_all : (t : List ℕ) (p : Program ℕ) → Reads t p → ((i : ℕ) → TooMuch t i → ⊥) → (j : ℕ) → j ≤ length t → too_much_in (counted (take j t)) ≡ false
unfolding counted run_tally too_much_in
calm_all t p r h zero l = refl
calm_all t p r h (suc j) l =
    let c = calm_all t p r h j (omega arith) in
    ⊎_elim (λ e. absurd (calm_step t p j r h l c e)) (λ e. e) (cases_Bool (too_much_in (counted (take (suc j) t))))

record Few (c : Tally) : Type 0 where
  few : c.marks ≤ 2048
  flat : c.level ≤ 8

few_of : (c : Tally) → too_much_in c ≡ false → Few c
unfolding too_much_in
few_of c h = let p = or_parts (ltb 2048 c.marks) (ltb 8 c.level) h in record { few = ltb-false 2048 c.marks p.0; flat = ltb-false 8 c.level p.1 }

-- a newline begins no mark
when_inside : (t : Bool) (m : Move) → move_flag m ≡ inside → move_flag (when t m) ≡ inside
unfolding move_flag when
when_inside true m h = h
when_inside false m h = refl

newline_moves : (ns : List Word) (s : Symbol) (w : Word) (v : ℕ) → move_flag (moves ns s w v 10) ≡ inside
unfolding moves move_flag push
newline_moves ns Symbol.Lines w v = refl
newline_moves ns Symbol.Body w v = refl
newline_moves ns (Symbol.Byte c) w v = when_inside (eqb 10 c) (push []) refl
newline_moves ns (Symbol.Target x) w v = when_inside (viable_name ns (w ++ 10 ∷ [])) (move inside [] (Symbol.Target x ∷ []) (w ++ 10 ∷ []) 0) refl
newline_moves ns Symbol.Expr w v = refl
newline_moves ns Symbol.Word w v = when_inside (viable ns (w ++ 10 ∷ [])) (move inside [] (Symbol.Word ∷ []) (w ++ 10 ∷ []) 0) refl
newline_moves ns (Symbol.Binary a) w v = when_inside (begins_some binary_word binaries (w ++ 10 ∷ [])) (move inside [] (Symbol.Binary a ∷ []) (w ++ 10 ∷ []) 0) refl
newline_moves ns (Symbol.Number p) w v = refl
newline_moves ns (Symbol.Digits p) w v = refl
newline_moves ns (Symbol.Hex n) w v = refl
newline_moves ns (Symbol.Operands zero) w v = refl
newline_moves ns (Symbol.Operands (suc n)) w v = refl
newline_moves ns (Symbol.First k) w v = refl
newline_moves ns (Symbol.More k) w v = refl
newline_moves ns (Symbol.Item k) w v = refl
newline_moves ns (Symbol.Step f) w v = refl

newline_top : (q : State) → move_flag (top_move q 10) ≡ inside
unfolding top_move move_flag
newline_top stuck = refl
newline_top (at ns o [] w v) = refl
newline_top (at ns o (s ∷ r) w v) = newline_moves ns s w v

newline_flag : (q : State) → next_flag q 10 ≡ inside
unfolding next_flag
newline_flag q = newline_top (settle q 10)

-- the whole of a writing is counted as its text
whole_counted : (t : List ℕ) (p : Program ℕ) (r : Reads t p) → tally (letters r.writing) ≡ counted t
unfolding counted run_tally tally_flag
whole_counted t p r =
    let w = r.writing in
    sym (writing_tally w (letters w) [] (sym (append_nil (letters w))))
    ∙ ⊎_elim
    (λ e. ap (run_tally start nothing) e)
    (λ e. ap (run_tally start nothing) e ∙ tally_append t start nothing (10 ∷ []) ∙ ap (λ x. tally_flag x (run_tally start nothing t)) (newline_flag (run start t)))
    r.lines

take_over : {A : Type 0} (i : ℕ) (f : List A) → length f ≤ i → take i f ≡ f
take_over zero [] h = refl
take_over zero (x ∷ f) h = absurd (omega arith)
take_over (suc i) [] h = refl
take_over {A} (suc i) (x ∷ f) h = ap {B = List A} (λ y. x ∷ y) (take_over i f (omega arith))

letters_long : (t : List ℕ) (p : Program ℕ) (r : Reads t p) → length (letters r.writing) ≤ suc (length t)
letters_long t p r =
    ⊎_elim
    (λ e. let c : length (bytes (letters r.writing)) ≡ length t = ap length e in omega (arith, length_bytes (letters r.writing)))
    (λ e. let c : length (bytes (letters r.writing)) ≡ length (t ++ 10 ∷ []) = ap length e in omega (arith, length_bytes (letters r.writing), length-append t (10 ∷ [])))
    r.lines

-- every beginning of it is counted as one of the text's
record FrontCounted (t : List ℕ) (w : Writing) (i : ℕ) : Type 0 where
  place : ℕ
  there : place ≤ length t
  same : tally (take i (letters w)) ≡ counted (take place t)

front_counted : (t : List ℕ) (p : Program ℕ) (r : Reads t p) (i : ℕ) → FrontCounted t r.writing i
unfolding counted
front_counted t p r i =
    ⊎_elim
    (λ (l : i < suc (length t)).
    let k = take_all i (letters r.writing) in
    record { place = i; there = omega arith; same = sym (writing_tally r.writing (take i (letters r.writing)) k.0 k.1) ∙ ap (run_tally start nothing) (first_bytes t p r i (omega arith)) })
    (λ (l : suc (length t) ≤ i).
    record { place = length t; there = omega arith; same = ap tally (take_over i (letters r.writing) (omega (arith, letters_long t p r))) ∙ whole_counted t p r ∙ ap (run_tally start nothing) (sym (take_over (length t) t (omega arith))) })
    (cases_lt i (suc (length t)))

marks_whole : (c : Tally) (f : List Letter) → (tally_from c f).marks ≡ c.marks + marks_along f
unfolding tally_from tally_flag marks_along
marks_whole c [] = omega arith
marks_whole c (letter inside b ∷ f) = marks_whole c f
marks_whole c (letter begins b ∷ f) = omega (arith, marks_whole (tally_flag begins c) f)
marks_whole c (letter opens b ∷ f) = omega (arith, marks_whole (tally_flag opens c) f)
marks_whole c (letter closes b ∷ f) = omega (arith, marks_whole (tally_flag closes c) f)

-- the highest level is come to
record Reached (c : Tally) (f : List Letter) : Type 0 where
  at_place : ℕ
  high : peak_along c.level f ≤ (tally_from c (take at_place f)).level

reached_more : (x : Flag) (b : ℕ) (c : Tally) (f : List Letter) → (tally_flag x c).level ≡ level_flag x c.level → Reached (tally_flag x c) f → Reached c (letter x b ∷ f)
unfolding peak_along tally_from
reached_more x b c f e h =
    let k : peak_along (level_flag x c.level) f ≤ (tally_from (tally_flag x c) (take h.at_place f)).level = subst (λ l. peak_along l f ≤ (tally_from (tally_flag x c) (take h.at_place f)).level) e h.high in
    ⊎_elim
    (λ (l : c.level < peak_along (level_flag x c.level) f). record { at_place = suc h.at_place; high = omega arith })
    (λ (l : peak_along (level_flag x c.level) f ≤ c.level). record { at_place = 0; high = omega arith })
    (cases_lt c.level (peak_along (level_flag x c.level) f))

reached : (f : List Letter) (c : Tally) → Reached c f
unfolding peak_along tally_from tally_flag level_flag
reached [] c = record { at_place = 0; high = omega arith }
reached (letter inside b ∷ f) c = reached_more inside b c f refl (reached f (tally_flag inside c))
reached (letter begins b ∷ f) c = reached_more begins b c f refl (reached f (tally_flag begins c))
reached (letter opens b ∷ f) c = reached_more opens b c f refl (reached f (tally_flag opens c))
reached (letter closes b ∷ f) c = reached_more closes b c f refl (reached f (tally_flag closes c))

within : (t : List ℕ) (p : Program ℕ) → Reads t p → ((i : ℕ) → TooMuch t i → ⊥) → (marks_of p ≤ 2048) × (depth_of p ≤ 8)
unfolding letters tally marks_along peak_along counted
within t p r h =
    let w = r.writing in
    let a = lines_add w.names w.are [] w.fits w.enough in
    let am = a.marks in
    let ah = a.high 0 in
    let m : marks_of p ≡ marks_of w.written = ap marks_of (sym r.is) ∙ marks_of_read w.written in
    let d : depth_of p ≡ depth_of w.written = ap depth_of (sym r.is) ∙ depth_of_read w.written in
    let c = few_of (counted (take (length t) t)) (calm_all t p r h (length t) (omega arith)) in
    let e : (tally (letters w)).marks ≡ (counted (take (length t) t)).marks = ap (λ x. x.marks) (whole_counted t p r ∙ ap (run_tally start nothing) (sym (take_over (length t) t (omega arith)))) in
    let g = reached (letters w) nothing in
    let f = front_counted t p r g.at_place in
    let k = few_of (counted (take f.place t)) (calm_all t p r h f.place f.there) in
    let y : (tally (take g.at_place (letters w))).level ≡ (counted (take f.place t)).level = ap (λ x. x.level) f.same in
    let cf = c.few in
    let kf = k.flat in
    let gh = g.high in
    (omega (arith, marks_whole nothing (letters w)), omega arith)

pub taken_only_within : (t : List ℕ) (p : Program ℕ) → Judged t (taken p) → (marks_of p ≤ 2048) × (depth_of p ≤ 8)
taken_only_within t p (is_taken r h) = within t p r h
