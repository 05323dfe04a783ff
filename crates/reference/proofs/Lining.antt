-- Lines one after the other.
use Rattle.std.proofs.Common.{◌≡◌, ℕ, zero, suc, ◌+◌, ◌-◌, ◌<◌, ◌≤◌, eqb, List, ◌∷◌, length, get_or, IsErrAnd, IfOk, Ok, Err, Result, sym, refl, ap, ◌∙◌, subst, arith}
use Rattle.std.proofs.lemmas.Result.{IfOk-weaker, err_from_is_err_and}
use Rattle.semantics.specs.Shapes.{pick}
use Rattle.semantics.specs.Parts.{Part}
use Rattle.semantics.specs.Arrays.{Array}
use Rattle.semantics.specs.Values.{Expr, none}
use Rattle.semantics.specs.Programs as meaning
use Rattle.semantics.specs.Programs.{Program, end, be, put, show, again, becomes, is_put, is_shown, times, value_in, run}
use Rattle.semantics.proofs.Runs.{ended_stays, begins_trans, shown_stays}
use Rattle.numbers.specs.Operations.{binary64}
use Rattle.encoding.specs.Format.{inputs_of}
use Rattle.program.specs.declared.step.Step.{Step}
use Rattle.program.specs.declared.step.Step.TheVariants.{End, Let, Put, Show, Again, Name, Input, Constant, Count as Counting, Each, Both, Choose, Fold, Scan, Shape, Turn, Part as Cut, Join, Rows, Item, Slice}
use Rattle.program.specs.Spelling.{slices, spell, spell_program}
use Rattle.program.specs.Words.{steps_in, At}
use Rattle.program.specs.Standing.{steps_from, SlicesStand, Skips, Closes, Closed, closed, Runs, OpensLine, LinesView, is_end, is_let, is_put as is-put-line, is_show, is_again}
use Rattle.program.proofs.Nodes.{lines_view, lines_none, expr_further, let_operand, let_lines, show_operand, show_lines, put_slices, again_lines, runs_opens, length_from}
use Rattle.program.proofs.Lengths.{length_slices, length_spell, marks_some}
use Rattle.reference.specs.declared.fault.Fault.{Fault}
use Rattle.reference.specs.declared.fault.Fault.TheVariants.{Shapes, Axes, Count, Range, Places, Nothing}
use Rattle.reference.specs.declared.fault.Stop.{Stop}
use Rattle.reference.specs.declared.state.State.{State}
use Rattle.reference.specs.CellsOf.{sizes}
use Rattle.reference.specs.Faults.{fault_number}
use Rattle.reference.specs.Running.{Stood, Went, went, faulted, wanting, SmallNames, SkipsPut}
use Rattle.reference.specs.Lines.{plain, Going, LineGoes, goes, stops, LineRuns, LinesEnd, done, halted, LinesRun}

-- a fault's number is not 0
fault_some : (f : Fault) → fault_number f ≡ 0 → ⊥
fault_some Shapes e = omega arith
fault_some Axes e = omega arith
fault_some Count e = omega arith
fault_some Range e = omega arith
fault_some Places e = omega arith
fault_some Nothing e = omega arith

module _ (p : ℕ) (ins : List (Array ℕ)) where
  -- after a stop nothing changes
  pub went_on : (q : Program ℕ) {u : meaning.State ℕ} {st : State} {x : Stop} → Went u st (Err x) → Went (run (sizes p) binary64 ins q u) st (Err x)
  went_on q {u} {st} {x} (faulted {f = f} e h) =
      subst (λ w. Went w st (Err x)) (sym (ended_stays ℕ (sizes p) binary64 ins q u (λ z. fault_some f (sym e ∙ z)))) (faulted e h)
  went_on q {u} (wanting hs b h) = wanting hs (begins_trans b (shown_stays ℕ (sizes p) binary64 ins q u)) h

  pub went_times : (n : ℕ) (b : Program ℕ) {u : meaning.State ℕ} {st : State} {x : Stop} → Went u st (Err x) → Went (times n (run (sizes p) binary64 ins b) u) st (Err x)
  unfolding times
  went_times zero b w = w
  went_times (suc n) b w = went_times n b (went_on b w)

  -- a line that is not after a fault
  module _ (t : meaning.State ℕ) (e : t.ended ≡ 0) where
    pub run_be : (k : ℕ) (x : Expr ℕ) (q : Program ℕ) → run (sizes p) binary64 ins q (becomes (sizes p) t k (value_in (sizes p) binary64 ins t x)) ≡ run (sizes p) binary64 ins (be k x q) t
    unfolding run
    run_be k x q = sym (ap (λ y. pick (eqb y 0) (run (sizes p) binary64 ins q (becomes (sizes p) t k (value_in (sizes p) binary64 ins t x))) t) e)

    pub run_put : (k : ℕ) (ps : List Part) (x : Expr ℕ) (q : Program ℕ) → run (sizes p) binary64 ins q (is_put t k ps (get_or t.names k none) (value_in (sizes p) binary64 ins t x)) ≡ run (sizes p) binary64 ins (put k ps x q) t
    unfolding run
    run_put k ps x q = sym (ap (λ y. pick (eqb y 0) (run (sizes p) binary64 ins q (is_put t k ps (get_or t.names k none) (value_in (sizes p) binary64 ins t x))) t) e)

    pub run_show : (x : Expr ℕ) (q : Program ℕ) → run (sizes p) binary64 ins q (is_shown t (value_in (sizes p) binary64 ins t x)) ≡ run (sizes p) binary64 ins (show x q) t
    unfolding run
    run_show x q = sym (ap (λ y. pick (eqb y 0) (run (sizes p) binary64 ins q (is_shown t (value_in (sizes p) binary64 ins t x))) t) e)

    pub run_again : (n : ℕ) (b q : Program ℕ) → run (sizes p) binary64 ins q (times n (run (sizes p) binary64 ins b) t) ≡ run (sizes p) binary64 ins (again n b q) t
    unfolding run
    run_again n b q = sym (ap (λ y. pick (eqb y 0) (run (sizes p) binary64 ins q (times n (run (sizes p) binary64 ins b) t)) t) e)

-- ---- one line
line_goes : (ws bs : List ℕ) (p : ℕ) (st : State) (r : List Step) (q : Program ℕ) (u v : meaning.State ℕ) (out : Result ℕ Stop) → Went u st out → IfOk out (λ j. steps_from ws j ≡ spell_program q r) → run (sizes p) binary64 (inputs_of bs) q u ≡ v → LineGoes ws bs p st v r out
line_goes ws bs p st r q u v (Ok j) (went s) h e = goes (record { program = q; state = u; enc = h; stood = s; same = e })
line_goes ws bs p st r q u v (Err x) w h e = stops (subst (λ z. Went z st (Err x)) e (went_on p (inputs_of bs) q w))

-- by the step of the line: what is behind it
let_view : {t r : List Step} {q : Program ℕ} {k : ℕ} (F : Program ℕ → Type 0) → LinesView r t q (Let k) → ((e : Expr ℕ) (b : Program ℕ) → t ≡ spell e (spell_program b r) → F (be k e b)) → F q
let_view F (is_let w) f = f _ _ w

put_view : {t r : List Step} {q : Program ℕ} {k : ℕ} (F : Program ℕ → Type 0) → LinesView r t q (Put k) → ((ps : List Part) (e : Expr ℕ) (b : Program ℕ) → t ≡ slices ps (spell e (spell_program b r)) → F (put k ps e b)) → F q
put_view F (is-put-line w) f = f _ _ _ w

show_view : {t r : List Step} {q : Program ℕ} (F : Program ℕ → Type 0) → LinesView r t q Show → ((e : Expr ℕ) (b : Program ℕ) → t ≡ spell e (spell_program b r) → F (show e b)) → F q
show_view F (is_show w) f = f _ _ w

again_view : {t r : List Step} {q : Program ℕ} {n : ℕ} (F : Program ℕ → Type 0) → LinesView r t q (Again n) → ((b c : Program ℕ) → t ≡ spell_program b (End ∷ spell_program c r) → F (again n b c)) → F q
again_view F (is_again w) f = f _ _ w

end_view : {t : List Step} {r : List Step} {q : Program ℕ} → LinesView r t q End → q ≡ end
end_view (is_end w) = refl

-- behind the slices and the expression of a put
put_further : (ws : List ℕ) (i j : ℕ) → SlicesStand ws i → SkipsPut ws i j → i < j
put_further ws i j st k =
    omega (arith, length_from ws i, length_from ws j, ap length st.enc, ap length (k.on st.parts st.expr st.rest st.enc), length_slices st.parts (spell st.expr st.rest), length_spell st.expr st.rest, marks_some st.expr)

module _ (ws bs : List ℕ) (p i : ℕ) (x : Step) (at : At ws i x) (st : Runs ws i) (old new : State) (out : Result ℕ Stop) where
  pub let_line : {k : ℕ} → x ≡ Let k → IfOk out (λ j. Skips ws (i + 1) j) → ((e : Expr ℕ) (s : List Step) (t : meaning.State ℕ) → steps_from ws (i + 1) ≡ spell e s → Stood t old → Went (becomes (sizes p) t k (value_in (sizes p) binary64 (inputs_of bs) t e)) new out) → LineRuns ws bs p i old new out
  let_line {k} is skips right =
      let o = let_operand ws i x at is st in
      record {
        further = IfOk-weaker out _ _ (λ j s. let l = expr_further ws (i + 1) j o.expr o.rest o.enc (s.on o.expr o.rest o.enc) in omega arith) skips;
        stands = IfOk-weaker out _ _ (λ j s. let_lines ws i x at is st j s) skips;
        right = λ q r t cl h sd.
            let_view (λ q. LineGoes ws bs p new (run (sizes p) binary64 (inputs_of bs) q t) r out) (lines_view ws i x at (Let k) is q r cl h)
            (λ e b w. line_goes ws bs p new r b _ _ out (right e (spell_program b r) t w sd) (IfOk-weaker out _ _ (λ j s. s.on e _ w) skips) (run_be p (inputs_of bs) t sd.ended k e b));
      }

  pub show_line : x ≡ Show → IfOk out (λ j. Skips ws (i + 1) j) → ((e : Expr ℕ) (s : List Step) (t : meaning.State ℕ) → steps_from ws (i + 1) ≡ spell e s → Stood t old → Went (is_shown t (value_in (sizes p) binary64 (inputs_of bs) t e)) new out) → LineRuns ws bs p i old new out
  show_line is skips right =
      let o = show_operand ws i x at is st in
      record {
        further = IfOk-weaker out _ _ (λ j s. let l = expr_further ws (i + 1) j o.expr o.rest o.enc (s.on o.expr o.rest o.enc) in omega arith) skips;
        stands = IfOk-weaker out _ _ (λ j s. show_lines ws i x at is st j s) skips;
        right = λ q r t cl h sd.
            show_view (λ q. LineGoes ws bs p new (run (sizes p) binary64 (inputs_of bs) q t) r out) (lines_view ws i x at Show is q r cl h)
            (λ e b w. line_goes ws bs p new r b _ _ out (right e (spell_program b r) t w sd) (IfOk-weaker out _ _ (λ j s. s.on e _ w) skips) (run_show p (inputs_of bs) t sd.ended e b));
      }

  pub put_line : {k : ℕ} → x ≡ Put k → IfOk out (λ j. SkipsPut ws (i + 1) j) → ((ps : List Part) (e : Expr ℕ) (s : List Step) (t : meaning.State ℕ) → steps_from ws (i + 1) ≡ slices ps (spell e s) → Stood t old → Went (is_put t k ps (get_or t.names k none) (value_in (sizes p) binary64 (inputs_of bs) t e)) new out) → LineRuns ws bs p i old new out
  put_line {k} is skips right =
      let o = put_slices ws i x at is st in
      record {
        further = IfOk-weaker out _ _ (λ j s. let l = put_further ws (i + 1) j o s in omega arith) skips;
        stands = IfOk-weaker out _ _
            (λ j s.
            put_view (λ q. Runs ws j) (lines_view ws i x at (Put k) is st.program st.rest st.close st.enc)
            (λ ps e b w. record { program = b; rest = st.rest; close = st.close; enc = s.on ps e _ w }))
            skips;
        right = λ q r t cl h sd.
            put_view (λ q. LineGoes ws bs p new (run (sizes p) binary64 (inputs_of bs) q t) r out) (lines_view ws i x at (Put k) is q r cl h)
            (λ ps e b w. line_goes ws bs p new r b _ _ out (right ps e (spell_program b r) t w sd) (IfOk-weaker out _ _ (λ j s. s.on ps e _ w) skips) (run_put p (inputs_of bs) t sd.ended k ps e b));
      }

-- ---- all lines
pub record LinesAt (ws bs : List ℕ) (p i j : ℕ) (old st : State) : Type 0 where
  pub further : i ≤ j
  pub runs : Runs ws j
  pub fits : SmallNames st.names
  pub on : (q : Program ℕ) (r : List Step) (t : meaning.State ℕ) → Closed r → steps_from ws i ≡ spell_program q r → Stood t old → Going ws bs p j st (run (sizes p) binary64 (inputs_of bs) q t) r

pub lines_start : (ws bs : List ℕ) (p i : ℕ) (st : State) → Runs ws i → SmallNames st.names → LinesAt ws bs p i i st st
lines_start ws bs p i st h f =
    record { further = omega arith; runs = h; fits = f; on = λ q r t cl e sd. record { program = q; state = t; enc = e; stood = sd; same = refl } }

lines_stood : {ws bs : List ℕ} {p j : ℕ} {st : State} {u : meaning.State ℕ} {r : List Step} (g : Going ws bs p j st u r) → g.program ≡ end → LinesEnd ws st u r (Ok j)
unfolding run spell_program
lines_stood {ws} {bs} {p} {j} {st} {u} {r} g e =
    done (subst (λ v. Stood v st) (ap (λ q. run (sizes p) binary64 (inputs_of bs) q g.state) (sym e) ∙ g.same) g.stood) (g.enc ∙ ap (λ q. spell_program q r) e)

module _ (ws bs : List ℕ) (p i j : ℕ) (old st : State) (inv : LinesAt ws bs p i j old st) where
  -- at an end
  pub lines_closed : (x : Step) → At ws j x → x ≡ End → LinesRun ws bs p i old st (Ok j)
  lines_closed x at is =
      record { right = λ q r t cl h sd. let g = inv.on q r t cl h sd in lines_stood g (end_view (lines_view ws j x at End is g.program r cl g.enc)) }

  pub lines_over : length (steps_in ws) ≤ j → LinesRun ws bs p i old st (Ok j)
  lines_over l = record { right = λ q r t cl h sd. let g = inv.on q r t cl h sd in lines_stood g (lines_none ws j g.program r l g.enc).0 }

  -- behind a line
  pub lines_more : (new : State) (k : ℕ) → SmallNames new.names → LineRuns ws bs p j st new (Ok k) → LinesAt ws bs p i k old new
  lines_more new k f h =
      record {
        further = omega (arith, inv.further, h.further);
        runs = h.stands;
        fits = f;
        on = λ q r t cl e sd. let g = inv.on q r t cl e sd in go g.same (h.right g.program r g.state cl g.enc g.stood);
      }
    where
      go : {u v : meaning.State ℕ} {r : List Step} → u ≡ v → LineGoes ws bs p new u r (Ok k) → Going ws bs p k new v r
      go {r = r} e (goes g) = record { program = g.program; state = g.state; enc = g.enc; stood = g.stood; same = g.same ∙ e }

  pub lines_stop : (new : State) (x : Stop) → LineRuns ws bs p j st new (Err x) → LinesRun ws bs p i old new (Err x)
  lines_stop new x h =
      record { right = λ q r t cl e sd. let g = inv.on q r t cl e sd in go g.same (h.right g.program r g.state cl g.enc g.stood) }
    where
      go : {u v : meaning.State ℕ} {r : List Step} → u ≡ v → LineGoes ws bs p new u r (Err x) → LinesEnd ws new v r (Err x)
      go e (stops w) = halted (subst (λ z. Went z new (Err x)) e w)

-- an `again` at j after m of its n rounds
pub record Round (ws bs : List ℕ) (p j n m : ℕ) (st : State) (u : meaning.State ℕ) (r : List Step) : Type 0 where
  pub body : Program ℕ
  pub rest : Program ℕ
  pub state : meaning.State ℕ
  pub enc : steps_from ws (j + 1) ≡ spell_program body (End ∷ spell_program rest r)
  pub stood : Stood state st
  pub same : run (sizes p) binary64 (inputs_of bs) rest (times (n - m) (run (sizes p) binary64 (inputs_of bs) body) state) ≡ u

pub record Rounds (ws bs : List ℕ) (p i j n m : ℕ) (old st : State) : Type 0 where
  pub fits : SmallNames st.names
  pub on : (q : Program ℕ) (r : List Step) (t : meaning.State ℕ) → Closed r → steps_from ws i ≡ spell_program q r → Stood t old → Round ws bs p j n m st (run (sizes p) binary64 (inputs_of bs) q t) r

module _ (ws bs : List ℕ) (p i j n : ℕ) (old : State) (x : Step) (at : At ws j x) (is : x ≡ Again n) where
  pub rounds_none : (st : State) → LinesAt ws bs p i j old st → Rounds ws bs p i j n 0 old st
  rounds_none st inv =
      record {
        fits = inv.fits;
        on = λ q r t cl h sd. let g = inv.on q r t cl h sd in go g.state g.stood g.program (lines_view ws j x at (Again n) is g.program r cl g.enc) g.same;
      }
    where
      go : {u : meaning.State ℕ} {r : List Step} (s : meaning.State ℕ) → Stood s st → (q : Program ℕ) → LinesView r (steps_from ws (j + 1)) q (Again n) → run (sizes p) binary64 (inputs_of bs) q s ≡ u → Round ws bs p j n 0 st u r
      go {u} {r} s sd q v e =
          again_view (λ q. run (sizes p) binary64 (inputs_of bs) q s ≡ u → Round ws bs p j n 0 st u r) v
          (λ b c w e. record { body = b; rest = c; state = s; enc = w; stood = sd; same = ap (λ k. run (sizes p) binary64 (inputs_of bs) c (times k (run (sizes p) binary64 (inputs_of bs) b) s)) (omega arith) ∙ (run_again p (inputs_of bs) s sd.ended n b c ∙ e) })
          e

  one_more : (m : ℕ) → m < n → (b c : Program ℕ) (s : meaning.State ℕ) → run (sizes p) binary64 (inputs_of bs) c (times (n - (m + 1)) (run (sizes p) binary64 (inputs_of bs) b) (run (sizes p) binary64 (inputs_of bs) b s)) ≡ run (sizes p) binary64 (inputs_of bs) c (times (n - m) (run (sizes p) binary64 (inputs_of bs) b) s)
  unfolding times
  one_more m l b c s =
      let left : suc (n - (m + 1)) ≡ n - m = omega arith in
      ap (λ k. run (sizes p) binary64 (inputs_of bs) c (times k (run (sizes p) binary64 (inputs_of bs) b) s)) left

  pub rounds_more : (m : ℕ) (st new : State) (k : ℕ) → m < n → SmallNames new.names → Rounds ws bs p i j n m old st → LinesRun ws bs p (j + 1) st new (Ok k) → Rounds ws bs p i j n (m + 1) old new
  rounds_more m st new k l f inv h =
      record {
        fits = f;
        on = λ q r t cl e sd. let g = inv.on q r t cl e sd in go g (h.right g.body (End ∷ spell_program g.rest r) g.state closed g.enc g.stood);
      }
    where
      go : {u : meaning.State ℕ} {r : List Step} (g : Round ws bs p j n m st u r) → LinesEnd ws new (run (sizes p) binary64 (inputs_of bs) g.body g.state) (End ∷ spell_program g.rest r) (Ok k) → Round ws bs p j n (m + 1) new u r
      go g (done s w) = record { body = g.body; rest = g.rest; state = _; enc = g.enc; stood = s; same = one_more m l g.body g.rest g.state ∙ g.same }

  pub rounds_stop : (m : ℕ) (st new : State) (y : Stop) → m < n → Rounds ws bs p i j n m old st → LinesRun ws bs p (j + 1) st new (Err y) → LinesRun ws bs p i old new (Err y)
  rounds_stop m st new y l inv h =
      record {
        right = λ q r t cl e sd. let g = inv.on q r t cl e sd in go g (h.right g.body (End ∷ spell_program g.rest r) g.state closed g.enc g.stood);
      }
    where
      go : {u : meaning.State ℕ} {r : List Step} (g : Round ws bs p j n m st u r) → LinesEnd ws new (run (sizes p) binary64 (inputs_of bs) g.body g.state) (End ∷ spell_program g.rest r) (Err y) → LinesEnd ws new u r (Err y)
      go g (halted w) = halted (subst (λ z. Went z new (Err y)) (one_more m l g.body g.rest g.state ∙ g.same) (went_on p (inputs_of bs) g.rest (went_times p (inputs_of bs) (n - (m + 1)) g.body w)))

  pub rounds_all : (m : ℕ) (st : State) (k : ℕ) → n ≤ m → i ≤ j → Runs ws j → Closes ws (j + 1) k → j < k → Rounds ws bs p i j n m old st → LinesAt ws bs p i k old st
  unfolding times
  rounds_all m st k l le rs cs lt inv =
      record {
        further = omega arith;
        runs = again_lines ws j x at is rs k cs;
        fits = inv.fits;
        on = λ q r t cl e sd.
            let g = inv.on q r t cl e sd in
            let none_left : 0 ≡ n - m = omega arith in
            record { program = g.rest; state = g.state; enc = cs.on g.body (spell_program g.rest r) g.enc; stood = g.stood; same = ap (λ a. run (sizes p) binary64 (inputs_of bs) g.rest (times a (run (sizes p) binary64 (inputs_of bs) g.body) g.state)) none_left ∙ g.same };
      }

-- no other steps are lines of their own
other_line : (x : Step) → OpensLine x → plain x → ((k : ℕ) → x ≡ Let k → ⊥) → ((k : ℕ) → x ≡ Put k → ⊥) → (x ≡ Show → ⊥) → ⊥
other_line End o a l u h = a
other_line (Let k) o a l u h = l k refl
other_line (Put k) o a l u h = u k refl
other_line Show o a l u h = h refl
other_line (Again n) o a l u h = a
other_line (Name k) o a l u h = o
other_line (Input k) o a l u h = o
other_line (Constant x) o a l u h = o
other_line (Counting m) o a l u h = o
other_line (Each k) o a l u h = o
other_line (Both k) o a l u h = o
other_line Choose o a l u h = o
other_line (Fold k x) o a l u h = o
other_line (Scan k x) o a l u h = o
other_line Shape o a l u h = o
other_line Turn o a l u h = o
other_line Cut o a l u h = o
other_line (Join x) o a l u h = o
other_line Rows o a l u h = o
other_line (Item k) o a l u h = o
other_line (Slice s) o a l u h = o

pub no_other_line : (ws : List ℕ) (i : ℕ) (x : Step) → At ws i x → Runs ws i → plain x → ((k : ℕ) → x ≡ Let k → ⊥) → ((k : ℕ) → x ≡ Put k → ⊥) → (x ≡ Show → ⊥) → ⊥
no_other_line ws i x at st a l u h = other_line x (runs_opens ws i x at refl st) a l u h

-- lines from i to j, and then on from there
module _ (ws bs : List ℕ) (p i j : ℕ) (old st : State) (inv : LinesAt ws bs p i j old st) where
  pub lines_then : (k : ℕ) (new : State) → LinesAt ws bs p j k st new → LinesAt ws bs p i k old new
  lines_then k new h =
      record {
        further = omega (arith, inv.further, h.further);
        runs = h.runs;
        fits = h.fits;
        on = λ q r t cl e sd.
            let g = inv.on q r t cl e sd in
            let f = h.on g.program r g.state cl g.enc g.stood in
            record { program = f.program; state = f.state; enc = f.enc; stood = f.stood; same = f.same ∙ g.same };
      }

  pub lines_then_run : (new : State) (out : Result ℕ Stop) → LinesRun ws bs p j st new out → LinesRun ws bs p i old new out
  lines_then_run new out h =
      record {
        right = λ q r t cl e sd.
            let g = inv.on q r t cl e sd in
            subst (λ u. LinesEnd ws new u r out) g.same (h.right g.program r g.state cl g.enc g.stood);
      }

-- the exit of a `?`
pub lines_exit : (ws bs : List ℕ) (p i : ℕ) (old new : State) (r : Result ℕ Stop) (x : Stop) → IsErrAnd r (λ y. y ≡ x) → LinesRun ws bs p i old new (Err x) → LinesRun ws bs p i old new r
lines_exit ws bs p i old new r x b h =
    let q = err_from_is_err_and r b in
    subst (λ z. LinesRun ws bs p i old new z) (sym q.1) (subst (λ y. LinesRun ws bs p i old new (Err y)) (sym q.2) h)

-- neither an end nor an `again`
pub plain_other : (x : Step) → (x ≡ End → ⊥) → ((n : ℕ) → x ≡ Again n → ⊥) → plain x
plain_other End e a = absurd (e refl)
plain_other (Again n) e a = absurd (a n refl)
plain_other (Let k) e a = tt
plain_other (Put k) e a = tt
plain_other Show e a = tt
plain_other (Name k) e a = tt
plain_other (Input k) e a = tt
plain_other (Constant x) e a = tt
plain_other (Counting m) e a = tt
plain_other (Each k) e a = tt
plain_other (Both k) e a = tt
plain_other Choose e a = tt
plain_other (Fold k x) e a = tt
plain_other (Scan k x) e a = tt
plain_other Shape e a = tt
plain_other Turn e a = tt
plain_other Cut e a = tt
plain_other (Join x) e a = tt
plain_other Rows e a = tt
plain_other (Item k) e a = tt
plain_other (Slice s) e a = tt

pub line_there : (ws : List ℕ) (i : ℕ) (x : Step) → At ws i x → i < length (steps_in ws)
line_there ws i x at = at.there
