-- A text of a program within the limits is refused nowhere.
use Rattle.std.proofs.Common.{◌≡◌, ℕ, suc, ◌≤◌, false, List, [], ◌∷◌, length, take, sym, ap, ◌∙◌, ⊎_elim, arith}
use lib.Seq.{take-append-le}
use Rattle.std.proofs.lemmas.Bool.{both_ways, or_from, le-ltb}
use Rattle.semantics.specs.Programs.{Program}
use Rattle.grammar.specs.Letters.{bytes, Tally, nothing, tally}
use Rattle.grammar.specs.Limits.{marks_of, depth_of}
use Rattle.grammar.specs.Texts.{Writing, letters, Reads, TooMuch, long, over, taken, Judged, is_taken}
use Rattle.grammar.specs.Automaton.{start, run_tally, too_much_in}
use Rattle.grammar.proofs.Accepts.{writing_tally}
use Rattle.grammar.proofs.Counts.{marks_along, peak_along, tally_marks, tally_peak, lines_add}
use Rattle.grammar.proofs.Lengths.{reads_short, marks_of_read, depth_of_read}
use Rattle.grammar.proofs.Judges.{counted, over_counted, passes_too_much, take_all, bytes_take}

-- what is counted along the first letters of a writing
record Bounded (w : Writing) (i : ℕ) : Type 0 where
  few : (tally (take i (letters w))).marks ≤ marks_of w.written
  flat : (tally (take i (letters w))).level ≤ depth_of w.written

bounded : (w : Writing) (i : ℕ) → Bounded w i
unfolding letters tally marks_along peak_along
bounded w i =
    let a = lines_add w.names w.are [] w.fits w.enough in
    record {
      few = omega (arith, tally_marks i nothing (letters w), a.marks);
      flat = omega (arith, tally_peak i nothing (letters w), a.high 0);
    }

within_calm : (c : Tally) → c.marks ≤ 2048 → c.level ≤ 8 → too_much_in c ≡ false
unfolding too_much_in
within_calm c m l = or_from _ _ (le-ltb 2048 c.marks m) (le-ltb 8 c.level l)

-- the first bytes of a text are those of its writing
pub first_bytes : (t : List ℕ) (p : Program ℕ) (r : Reads t p) (i : ℕ) → i ≤ length t → bytes (take i (letters r.writing)) ≡ take i t
first_bytes t p r i l =
    bytes_take i (letters r.writing)
    ∙ ⊎_elim
    (λ e. ap (take i) e)
    (λ e. ap (take i) e ∙ take-append-le i t (10 ∷ []) l)
    r.lines

pub taken_within : (t : List ℕ) (p : Program ℕ) → Reads t p → marks_of p ≤ 2048 → depth_of p ≤ 8 → Judged t (taken p)
unfolding counted
taken_within t p r m d = is_taken r none
  where
    w : Writing
    w = r.writing

    marks_same : marks_of p ≡ marks_of w.written
    marks_same = ap marks_of (sym r.is) ∙ marks_of_read w.written

    depth_same : depth_of p ≡ depth_of w.written
    depth_same = ap depth_of (sym r.is) ∙ depth_of_read w.written

    none : (i : ℕ) → TooMuch t i → ⊥
    none i (long n e) = omega (arith, reads_short t p r)
    none i (over o) =
        let k = take_all (suc i) (letters w) in
        let b = bounded w (suc i) in
        let x = b.few in
        let y = b.flat in
        let q = o.inside in
        let e : run_tally start nothing (take (suc i) t) ≡ tally (take (suc i) (letters w)) = ap (run_tally start nothing) (sym (first_bytes t p r (suc i) (omega arith))) ∙ writing_tally w (take (suc i) (letters w)) k.0 k.1 in
        both_ways _ (ap too_much_in e ∙ within_calm _ (omega (arith, marks_same)) (omega (arith, depth_same))) (passes_too_much (over_counted o).passes)
