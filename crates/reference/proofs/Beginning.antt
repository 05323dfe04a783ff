-- Where a program begins, and how it ends.
use Rattle.std.proofs.Common.{◌≡◌, ℕ, zero, suc, ◌+◌, ◌^◌, ◌≤◌, List, [], ◌∷◌, ◌++◌, length, map, get_or, None, Ok, Err, vec_items, Vec, sym, refl, ap, ◌∙◌, subst, arith, Option, Result, MatchResult, IsOkAnd, add-one}
use Rattle.std.specs.declared.alloc.Global.{Global}
use Rattle.std.specs.List.{FoldsTo}
use Rattle.std.proofs.lemmas.List.{length-map}
use Rattle.semantics.specs.Values.{none}
use Rattle.semantics.specs.Programs as meaning
use Rattle.semantics.specs.Programs.{Program, Shown, cell_size, nothing, begin, run, shows, ends}
use Rattle.semantics.specs.ValueLaws.{LikeNames}
use Rattle.semantics.proofs.LikeRuns.{like_cell}
use Rattle.encoding.specs.ReadBack.{shown_bytes}
use Rattle.program.specs.Words.{steps_in}
use Rattle.program.specs.Standing.{steps_from, nothing as no_steps, Runs}
use Rattle.reference.specs.declared.fault.Stop.{Stop}
use Rattle.reference.specs.declared.fault.Stop.TheVariants.{Memory}
use Rattle.reference.specs.declared.array.Array as owned
use Rattle.reference.specs.declared.state.State.{State}
use Rattle.reference.specs.CellsOf.{cell_of, cells_of, sizes}
use Rattle.reference.specs.Running.{Stood, faulted, wanting, SmallNames}
use Rattle.reference.specs.Lines.{LinesEnd, done, halted, LinesRun}
use Rattle.reference.specs.Interpreting.{ProgramStands, Ends, ends_done, ends_fault, ends_memory, Interprets}

-- as many cells as steps made them, where each makes one that holds nothing
pub nothing_made : {F : Type 0} (made : F → Option owned.Array → F → Type 0) → ((p : F) (y : Option owned.Array) (q : F) → made p y q → y ≡ None) →
    (ys : List (Option owned.Array)) (p q : F) → FoldsTo made p ys q → map cell_of ys ≡ nothing (length ys)
unfolding nothing
nothing_made made empty [] p q k = refl
nothing_made made empty (y ∷ ys) p q k = ap (λ o. cell_of o ∷ map cell_of ys) (empty p y k.0 k.1) ∙ ap (λ l. none ∷ l) (nothing_made made empty ys k.0 q k.2)

nothing_suc : (k : ℕ) → nothing {Num = ℕ} k ++ none ∷ [] ≡ nothing (suc k)
unfolding nothing
nothing_suc zero = refl
nothing_suc (suc k) = ap (λ l. none ∷ l) (nothing_suc k)

pub nothing_push : (k : ℕ) → nothing {Num = ℕ} k ++ none ∷ [] ≡ nothing (k + 1)
nothing_push k = nothing_suc k ∙ ap nothing (sym (add-one k))

length_nothing : (k : ℕ) → length (nothing {Num = ℕ} k) ≡ k
unfolding nothing
length_nothing zero = refl
length_nothing (suc k) = ap suc (length_nothing k)

get_d_nothing : (n k : ℕ) → get_or (nothing {Num = ℕ} n) k none ≡ none
unfolding nothing
get_d_nothing zero k = refl
get_d_nothing (suc n) zero = refl
get_d_nothing (suc n) (suc k) = get_d_nothing n k

-- the steps from the first on
pub from_first : (ws : List ℕ) → steps_from ws 0 ≡ steps_in ws
unfolding steps_from
from_first ws = refl

pub runs_first : (ws : List ℕ) → ProgramStands ws → Runs ws 0
runs_first ws st = record { program = st.program; rest = []; close = no_steps; enc = from_first ws ∙ st.enc }

module _ (names : Vec (Option owned.Array) Global) (e : cells_of names ≡ nothing 64) where
  pub small_nothing : SmallNames names
  unfolding cell_size
  small_nothing = record { on = λ k. subst (λ c. cell_size c ≤ 2 ^ 26) (sym (ap (λ l. get_or l k none) e ∙ get_d_nothing 64 k)) (omega arith) }

  pub stood_begin : (p : ℕ) (shown : Vec ℕ Global) → vec_items shown ≡ [] → Stood (begin (sizes p)) (record { names = names; shown = shown })
  unfolding begin shown_bytes
  stood_begin p shown s =
      record {
        many = length_nothing 64;
        full = sym (length-map (vec_items names) cell_of) ∙ (ap length e ∙ length_nothing 64);
        names = subst (λ l. LikeNames (nothing 64) l) (sym e) (λ k. like_cell _);
        shown = sym s;
        ended = refl;
      }

-- how the run of all lines ends
module _ (ws bs : List ℕ) (p : ℕ) (old new : State) (sd : Stood (begin (sizes p)) old) where
  ends_by : {u : meaning.State ℕ} (r : Result ℕ Stop) (e : Result (Unit {0}) Stop) (Q : ℕ → Unit {0} → Type 0) → MatchResult r (λ j. IsOkAnd e (Q j)) (λ x. e ≡ Err x) → LinesEnd ws new u [] r → Ends u.shown u.ended (vec_items new.shown) e
  ends_by (Ok j) (Ok v) Q is (done s w) = ends_done s.shown s.ended
  ends_by (Ok j) (Err x) Q is (done s w) = absurd is
  ends_by {u} (Err x) e Q is (halted (faulted f s)) = subst (λ y. Ends u.shown u.ended (vec_items new.shown) y) (sym is) (ends_fault s f)
  ends_by {u} (Err x) e Q is (halted (wanting hs b s)) = subst (λ y. Ends u.shown u.ended (vec_items new.shown) y) (sym is) (ends_memory hs b s)

  pub ends_as : (r : Result ℕ Stop) (e : Result (Unit {0}) Stop) (Q : ℕ → Unit {0} → Type 0) → MatchResult r (λ j. IsOkAnd e (Q j)) (λ x. e ≡ Err x) → LinesRun ws bs p 0 old new r → Interprets ws bs p (record { shown = new.shown; end = e })
  unfolding shows ends
  ends_as r e Q is h = record { on = λ q enc. ends_by r e Q is (h.right q [] (begin (sizes p)) no_steps (from_first ws ∙ enc) sd) }

pub ends_at_once : (ws bs : List ℕ) (p : ℕ) (shown : Vec ℕ Global) → vec_items shown ≡ [] → Interprets ws bs p (record { shown = shown; end = Err Memory })
unfolding shown_bytes
ends_at_once ws bs p shown s = record { on = λ q e. ends_memory [] (record { more = _; is = refl }) (sym s) }
