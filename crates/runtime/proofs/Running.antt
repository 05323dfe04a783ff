-- Lines one after the other.
use Rattle.std.proofs.Common.{◌≡◌, ℕ, zero, suc, ◌+◌, ◌<◌, ◌≤◌, eqb, List, [], ◌∷◌, ◌++◌, length, get_or, Ok, Err, Result, sym, refl, ap, ◌∙◌, subst, zero-add, arith, length-append, Option}
use lib.Ieee.{Float}
use Rattle.semantics.specs.Shapes.{pick}
use Rattle.semantics.specs.Arrays.{Array}
use Rattle.semantics.specs.Values.{Expr, none, some}
use Rattle.semantics.specs.Programs.{Program, end, be, show, State, Shown as Listed, becomes, is_shown, value_in, nothing, begin, run, shows, ends}
use Rattle.semantics.specs.RunLaws.{Begins}
use Rattle.semantics.proofs.Runs.{ended_stays, shown_stays}
use Rattle.numbers.specs.Operations.{binary64}
use Rattle.encoding.specs.Format.{inputs_of}
use Rattle.encoding.specs.Words.{written}
use Rattle.encoding.specs.Writing.{array_bytes}
use Rattle.encoding.specs.ReadBack.{shown_bytes}
use Rattle.encoding.proofs.Writings.{written_none, written_written}
use Rattle.program.specs.declared.step.Step.{Step}
use Rattle.program.specs.declared.step.Step.TheVariants.{Let, Show}
use Rattle.program.specs.Spelling.{spell, spell_program}
use Rattle.program.specs.Words.{steps_in, At}
use Rattle.program.specs.Standing.{steps_from, Skips, nothing as no_steps, Runs, LinesView, is_let, is_show}
use Rattle.program.proofs.Nodes.{lines_view, lines_none, from_start}
use Rattle.views.specs.declared.view.View.{View}
use Rattle.kernels.specs.Filling.{Tabled}
use Rattle.memory.specs.declared.memory.Memory.{Memory}
use Rattle.runtime.specs.declared.fault.Fault.{Fault}
use Rattle.runtime.specs.declared.fault.Fault.TheVariants.{Shapes, Places, Nothing, Room}
use Rattle.runtime.specs.declared.fault.Stop.{Stop}
use Rattle.runtime.specs.declared.statements.Shown.{Shown}
use Rattle.runtime.specs.declared.run.Ran.{Ran}
use Rattle.runtime.specs.Faults.{fault_number}
use Rattle.runtime.specs.Planning.{sizes}
use Rattle.runtime.specs.States.{Stood, Standing}
use Rattle.runtime.specs.Statements.{Keeps, LetGoes, let_on, let_not, ShowGoes, show_on, show_not, show_full}
use Rattle.runtime.specs.Running.{bytes_of, ProgramStands, ShowsAs, RunsAs}
use Rattle.runtime.proofs.Fitting.{shown_none, shown_push, shows_whole, shows_cut}
use Rattle.runtime.proofs.Patterns.{Bytes, inputs_plain}

-- a program is at node `at`: `rest` is still to run from `state`, and comes to u; what was shown stands in the room
pub record Going (ws bs : List ℕ) (p at shown : ℕ) (area : List ℕ) (table : List (Option View)) (old room : List ℕ) (u : State ℕ) : Type 0 where
  pub rest : Program ℕ
  pub state : State ℕ
  pub enc : steps_from ws at ≡ spell_program rest []
  pub stood : Stood area bs table state.names
  pub ended : state.ended ≡ 0
  pub bytes : room ≡ written old 0 (shown_bytes state.shown)
  pub count : shown ≡ length (shown_bytes state.shown)
  pub same : run (sizes p) binary64 (inputs_of bs) rest state ≡ u

pub record LinesAt (ws bs : List ℕ) (p at shown : ℕ) (area : List ℕ) (m : Memory) (old room : List ℕ) (scratch : List Float) : Type 0 where
  pub runs : Runs ws at
  pub keeps : Keeps m area
  pub long : length area ≡ p
  pub wide : length room ≡ length old
  pub behind : shown ≤ length old
  pub blocks : 4352 ≤ length scratch
  pub on : (q : Program ℕ) → steps_in ws ≡ spell_program q [] → Going ws bs p at shown area m.names old room (run (sizes p) binary64 (inputs_of bs) q (begin (sizes p)))

-- a fault's number is not 0
fault_some : (f : Fault) → fault_number f ≡ 0 → ⊥
fault_some (Shapes s t) e = omega arith
fault_some Places e = omega arith
fault_some Nothing e = omega arith
fault_some Room e = omega arith

-- a run by its parts
pub runs_same : {ws bs : List ℕ} {p : ℕ} {old new : List ℕ} (ran : Ran) (shown : ℕ) (how : Result (Unit {0}) Stop) → ran.shown ≡ shown → ran.end ≡ how → RunsAs ws bs p old new (record { shown = shown; end = how }) → RunsAs ws bs p old new ran
runs_same {ws} {bs} {p} {old} {new} ran shown how e f h =
    subst (λ n. RunsAs ws bs p old new (record { shown = n; end = ran.end })) (sym e) (subst (λ r. RunsAs ws bs p old new (record { shown = shown; end = r })) (sym f) h)

-- ---- where a run begins
get_d_nothing : (n k : ℕ) → get_or (nothing {Num = ℕ} n) k none ≡ none
unfolding nothing
get_d_nothing zero k = refl
get_d_nothing (suc n) zero = refl
get_d_nothing (suc n) (suc k) = get_d_nothing n k

length_nothing : (k : ℕ) → length (nothing {Num = ℕ} k) ≡ k
unfolding nothing
length_nothing zero = refl
length_nothing (suc k) = ap suc (length_nothing k)

no_array : {a : Array ℕ} → none ≡ some a → ⊥
no_array e = let z : ◌≡◌ {A = ℕ} 0 1 = cc in omega arith

stood_nothing : (area bs : List ℕ) (table : List (Option View)) → Bytes bs → Tabled area bs table (nothing 64) → Stood area bs table (nothing 64)
stood_nothing area bs table b t =
    record { many = length_nothing 64; tabled = t; plain = record { inputs = inputs_plain bs b; names = λ k a e. absurd (no_array (sym (get_d_nothing 64 k) ∙ e)) } }

pub lines_start : (ws bs : List ℕ) (area : List ℕ) (m : Memory) (room : List ℕ) (scratch : List Float) → ProgramStands ws → Bytes bs → Keeps m area → ((area bs : List ℕ) → Tabled area bs m.names (nothing 64)) → 4352 ≤ length scratch → LinesAt ws bs (length area) 0 0 area m room room scratch
unfolding begin
lines_start ws bs area m room scratch st b k t s =
    record {
      runs = record { program = st.program; rest = []; close = no_steps; enc = from_start ws ∙ st.enc };
      keeps = k;
      long = refl;
      wide = refl;
      behind = omega arith;
      blocks = s;
      on = λ q e.
          record {
            rest = q;
            state = begin (sizes (length area));
            enc = from_start ws ∙ e;
            stood = stood_nothing area bs m.names b (t area bs);
            ended = refl;
            bytes = sym (ap (written room 0) shown_none ∙ written_none room 0);
            count = sym (ap length shown_none);
            same = refl;
          };
    }

-- ---- lines
module _ (p : ℕ) (ins : List (Array ℕ)) (t : State ℕ) (e : t.ended ≡ 0) where
  run_be : (k : ℕ) (x : Expr ℕ) (q : Program ℕ) → run (sizes p) binary64 ins q (becomes (sizes p) t k (value_in (sizes p) binary64 ins t x)) ≡ run (sizes p) binary64 ins (be k x q) t
  unfolding run
  run_be k x q = sym (ap (λ y. pick (eqb y 0) (run (sizes p) binary64 ins q (becomes (sizes p) t k (value_in (sizes p) binary64 ins t x))) t) e)

  run_show : (x : Expr ℕ) (q : Program ℕ) → run (sizes p) binary64 ins q (is_shown t (value_in (sizes p) binary64 ins t x)) ≡ run (sizes p) binary64 ins (show x q) t
  unfolding run
  run_show x q = sym (ap (λ y. pick (eqb y 0) (run (sizes p) binary64 ins q (is_shown t (value_in (sizes p) binary64 ins t x))) t) e)

module _ (ws bs : List ℕ) (p at shown : ℕ) (area : List ℕ) (m : Memory) (old room : List ℕ) (scratch : List Float) (inv : LinesAt ws bs p at shown area m old room scratch) (st : ProgramStands ws) where
  pub lines_standing : Standing area bs m.names
  lines_standing = let g = inv.on st.program st.enc in record { names = g.state.names; stood = g.stood }

  -- no more lines
  pub lines_over : length (steps_in ws) ≤ at → RunsAs ws bs p old room (record { shown = shown; end = Ok tt })
  unfolding shows ends run
  lines_over l =
      record {
        on = λ q e.
            let g = inv.on q e in
            let done : g.rest ≡ end = (lines_none ws at g.rest [] l g.enc).0 in
            let is : g.state ≡ run (sizes p) binary64 (inputs_of bs) q (begin (sizes p)) = ap (λ r. run (sizes p) binary64 (inputs_of bs) r g.state) (sym done) ∙ g.same in
            subst (λ u. ShowsAs u.shown u.ended old room (record { shown = shown; end = Ok tt })) is
            (shows_whole g.state.shown g.state.ended old room _ g.bytes g.count inv.behind (sym g.ended));
      }

  module _ (x : Step) (here : At ws at x) where
    -- a let
    module _ {k : ℕ} (is : x ≡ Let k) (new-area : List ℕ) (after : Memory) where
      abbrev pub Right : Result ℕ Stop → Type 0
      Right r = (e : Expr ℕ) (t : List Step) (u : State ℕ) → steps_from ws (at + 1) ≡ spell e t → Stood area bs m.names u.names → LetGoes u (becomes (sizes (length area)) u k (value_in (sizes (length area)) binary64 (inputs_of bs) u e)) new-area bs after.names r

      -- the program by its first line
      by_let : {u : State ℕ} (F : Type 0) (g : Going ws bs p at shown area m.names old room u) → ((e : Expr ℕ) (b : Program ℕ) → steps_from ws (at + 1) ≡ spell e (spell_program b []) → run (sizes p) binary64 (inputs_of bs) b (becomes (sizes p) g.state k (value_in (sizes p) binary64 (inputs_of bs) g.state e)) ≡ u → F) → F
      by_let {u} F g f = go g.rest (lines_view ws at x here (Let k) is g.rest [] no_steps g.enc) g.same
        where
          go : (q : Program ℕ) → LinesView [] (steps_from ws (at + 1)) q (Let k) → run (sizes p) binary64 (inputs_of bs) q g.state ≡ u → F
          go q (is_let {e = e} {p = b} w) same = f e b w (run_be p (inputs_of bs) g.state g.ended k e b ∙ same)

      pub let_more : (j : ℕ) (scratch : List Float) → 4352 ≤ length scratch → length new-area ≡ length area → Runs ws j → Skips ws (at + 1) j → Keeps after new-area → Right (Ok j) → LinesAt ws bs p j shown new-area after old room scratch
      let_more j scratch s same runs skips keeps right =
          record {
            runs = runs;
            keeps = keeps;
            long = same ∙ inv.long;
            wide = inv.wide;
            behind = inv.behind;
            blocks = s;
            on = λ q enc.
                let g = inv.on q enc in
                by_let _ g (λ e b w h. go g e b w h (right e (spell_program b []) g.state w g.stood));
          }
        where
          go : {u : State ℕ} (g : Going ws bs p at shown area m.names old room u) (e : Expr ℕ) (b : Program ℕ) → steps_from ws (at + 1) ≡ spell e (spell_program b []) → run (sizes p) binary64 (inputs_of bs) b (becomes (sizes p) g.state k (value_in (sizes p) binary64 (inputs_of bs) g.state e)) ≡ u →
              LetGoes g.state (becomes (sizes (length area)) g.state k (value_in (sizes (length area)) binary64 (inputs_of bs) g.state e)) new-area bs after.names (Ok j) → Going ws bs p j shown new-area after.names old room u
          go g e b w h (let_on stood shown-is ended) =
              record {
                rest = b;
                state = becomes (sizes (length area)) g.state k (value_in (sizes (length area)) binary64 (inputs_of bs) g.state e);
                enc = skips.on e (spell_program b []) w;
                stood = stood;
                ended = ended;
                bytes = g.bytes ∙ ap (λ l. written old 0 (shown_bytes l)) (sym shown-is);
                count = g.count ∙ ap (λ l. length (shown_bytes l)) (sym shown-is);
                same = ap (λ n. run (sizes p) binary64 (inputs_of bs) b (becomes (sizes n) g.state k (value_in (sizes n) binary64 (inputs_of bs) g.state e))) inv.long ∙ h;
              }

      pub let_stops : (y : Stop) → Right (Err y) → RunsAs ws bs p old room (record { shown = shown; end = Err y })
      unfolding shows ends
      let_stops y right =
          record {
            on = λ q enc.
                let g = inv.on q enc in
                by_let _ g (λ e b w h. go g e b h (right e (spell_program b []) g.state w g.stood));
          }
        where
          go : {u : State ℕ} (g : Going ws bs p at shown area m.names old room u) (e : Expr ℕ) (b : Program ℕ) → run (sizes p) binary64 (inputs_of bs) b (becomes (sizes p) g.state k (value_in (sizes p) binary64 (inputs_of bs) g.state e)) ≡ u →
              LetGoes g.state (becomes (sizes (length area)) g.state k (value_in (sizes (length area)) binary64 (inputs_of bs) g.state e)) new-area bs after.names (Err y) → ShowsAs u.shown u.ended old room (record { shown = shown; end = Err y })
          go {u} g e b h (let_not shown-is ended) =
              let v = becomes (sizes (length area)) g.state k (value_in (sizes (length area)) binary64 (inputs_of bs) g.state e) in
              let stays : run (sizes p) binary64 (inputs_of bs) b v ≡ v = ended_stays ℕ (sizes p) binary64 (inputs_of bs) b v (λ z. fault_some y.fault (sym ended ∙ z)) in
              let is : v ≡ u = sym stays ∙ (ap (λ n. run (sizes p) binary64 (inputs_of bs) b (becomes (sizes n) g.state k (value_in (sizes n) binary64 (inputs_of bs) g.state e))) inv.long ∙ h) in
              subst (λ u. ShowsAs u.shown u.ended old room (record { shown = shown; end = Err y })) is
              (shows_whole v.shown v.ended old room _ (g.bytes ∙ ap (λ l. written old 0 (shown_bytes l)) (sym shown-is)) (g.count ∙ ap (λ l. length (shown_bytes l)) (sym shown-is)) inv.behind (sym ended))

    -- a show
    module _ (is : x ≡ Show) (new : List ℕ) where
      abbrev pub ShowsRight : Result Shown Stop → Type 0
      ShowsRight r = (e : Expr ℕ) (t : List Step) (u : State ℕ) → steps_from ws (at + 1) ≡ spell e t → Stood area bs m.names u.names → ShowGoes u (is_shown u (value_in (sizes (length area)) binary64 (inputs_of bs) u e)) shown room new r

      by_show : {u : State ℕ} (F : Type 0) (g : Going ws bs p at shown area m.names old room u) → ((e : Expr ℕ) (b : Program ℕ) → steps_from ws (at + 1) ≡ spell e (spell_program b []) → run (sizes p) binary64 (inputs_of bs) b (is_shown g.state (value_in (sizes p) binary64 (inputs_of bs) g.state e)) ≡ u → F) → F
      by_show {u} F g f = go g.rest (lines_view ws at x here Show is g.rest [] no_steps g.enc) g.same
        where
          go : (q : Program ℕ) → LinesView [] (steps_from ws (at + 1)) q Show → run (sizes p) binary64 (inputs_of bs) q g.state ≡ u → F
          go q (is_show {e = e} {p = b} w) same = f e b w (run_show p (inputs_of bs) g.state g.ended e b ∙ same)

      pub show_more : (j : Shown) (scratch : List Float) → 4352 ≤ length scratch → length new ≡ length room → Runs ws j.next → Skips ws (at + 1) j.next → ShowsRight (Ok j) → LinesAt ws bs p j.next j.end area m old new scratch
      show_more j scratch s same runs skips right =
          record {
            runs = runs;
            keeps = inv.keeps;
            long = inv.long;
            wide = same ∙ inv.wide;
            behind = let g = inv.on st.program st.enc in by_show _ g (λ e b w h. fits (right e (spell_program b []) g.state w g.stood));
            blocks = s;
            on = λ q enc.
                let g = inv.on q enc in
                by_show _ g (λ e b w h. go g e b w h (right e (spell_program b []) g.state w g.stood));
          }
        where
          fits : {u v : State ℕ} → ShowGoes u v shown room new (Ok j) → j.end ≤ length old
          fits (show_on h grown names ended bytes behind within) = omega (arith, inv.wide)

          go : {u : State ℕ} (g : Going ws bs p at shown area m.names old room u) (e : Expr ℕ) (b : Program ℕ) → steps_from ws (at + 1) ≡ spell e (spell_program b []) → run (sizes p) binary64 (inputs_of bs) b (is_shown g.state (value_in (sizes p) binary64 (inputs_of bs) g.state e)) ≡ u →
              ShowGoes g.state (is_shown g.state (value_in (sizes (length area)) binary64 (inputs_of bs) g.state e)) shown room new (Ok j) → Going ws bs p j.next j.end area m.names old new u
          go g e b w h (show_on d grown names ended bytes behind within) =
              let more = shown_push g.state.shown d ∙ ap shown_bytes (sym grown) in
              record {
                rest = b;
                state = is_shown g.state (value_in (sizes (length area)) binary64 (inputs_of bs) g.state e);
                enc = skips.on e (spell_program b []) w;
                stood = subst (λ ns. Stood area bs m.names ns) (sym names) g.stood;
                ended = ended;
                bytes = bytes
                    ∙ (ap (λ r. written r shown (array_bytes d.shape d.numbers)) g.bytes
                    ∙ (written_written old (shown_bytes g.state.shown) 0 (omega arith) (array_bytes d.shape d.numbers) shown (g.count ∙ sym (zero-add (length (shown_bytes g.state.shown)))) ∙ ap (written old 0) more));
                count = behind ∙ (ap (λ n. n + length (array_bytes d.shape d.numbers)) g.count ∙ (sym (length-append (shown_bytes g.state.shown) (array_bytes d.shape d.numbers)) ∙ ap length more));
                same = ap (λ n. run (sizes p) binary64 (inputs_of bs) b (is_shown g.state (value_in (sizes n) binary64 (inputs_of bs) g.state e))) inv.long ∙ h;
              }

      pub show_stops : (y : Stop) → ShowsRight (Err y) → RunsAs ws bs p old new (record { shown = shown; end = Err y })
      unfolding shows ends bytes_of
      show_stops y right =
          record {
            on = λ q enc.
                let g = inv.on q enc in
                by_show _ g (λ e b w h. go g e b h (right e (spell_program b []) g.state w g.stood));
          }
        where
          too_long : (d : Listed ℕ) → length room < shown + length (array_bytes d.shape d.numbers) → length old < shown + bytes_of d
          too_long d over = omega (arith, inv.wide)

          go : {u : State ℕ} (g : Going ws bs p at shown area m.names old room u) (e : Expr ℕ) (b : Program ℕ) → run (sizes p) binary64 (inputs_of bs) b (is_shown g.state (value_in (sizes p) binary64 (inputs_of bs) g.state e)) ≡ u →
              ShowGoes g.state (is_shown g.state (value_in (sizes (length area)) binary64 (inputs_of bs) g.state e)) shown room new (Err y) → ShowsAs u.shown u.ended old new (record { shown = shown; end = Err y })
          go {u} g e b h (show_not shown-is ended same) =
              let v = is_shown g.state (value_in (sizes (length area)) binary64 (inputs_of bs) g.state e) in
              let stays : run (sizes p) binary64 (inputs_of bs) b v ≡ v = ended_stays ℕ (sizes p) binary64 (inputs_of bs) b v (λ z. fault_some y.fault (sym ended ∙ z)) in
              let is : v ≡ u = sym stays ∙ (ap (λ n. run (sizes p) binary64 (inputs_of bs) b (is_shown g.state (value_in (sizes n) binary64 (inputs_of bs) g.state e))) inv.long ∙ h) in
              subst (λ u. ShowsAs u.shown u.ended old new (record { shown = shown; end = Err y })) is
              (shows_whole v.shown v.ended old new _ (same ∙ (g.bytes ∙ ap (λ l. written old 0 (shown_bytes l)) (sym shown-is))) (g.count ∙ ap (λ l. length (shown_bytes l)) (sym shown-is)) inv.behind (sym ended))
          go {u} g e b h (show_full d grown room-is over same) =
              let v = is_shown g.state (value_in (sizes (length area)) binary64 (inputs_of bs) g.state e) in
              let is : run (sizes p) binary64 (inputs_of bs) b v ≡ u = ap (λ n. run (sizes p) binary64 (inputs_of bs) b (is_shown g.state (value_in (sizes n) binary64 (inputs_of bs) g.state e))) inv.long ∙ h in
              let begins : Begins (g.state.shown ++ d ∷ []) u.shown = subst (λ u. Begins (g.state.shown ++ d ∷ []) u.shown) is (subst (λ l. Begins l (run (sizes p) binary64 (inputs_of bs) b v).shown) grown (shown_stays ℕ (sizes p) binary64 (inputs_of bs) b v)) in
              shows_cut u.shown g.state.shown d u.ended old new _ begins (same ∙ g.bytes) g.count inv.behind (too_long d over) (ap fault_number room-is)
