-- Statements against the meaning.
use Rattle.std.proofs.Common.{◌≡◌, ℕ, ◌-◌, ◌<◌, ◌≤◌, List, length, get_or, set, IsErrAnd, Some, None, Ok, Err, Option, Result, sym, refl, ap, ◌∙◌, subst, ⊎_elim, length-set, get_or-set_other, get_or-set_same}
use Rattle.std.proofs.lemmas.List.{set_past}
use Rattle.std.proofs.lemmas.Bool.{cases_eq, cases_lt, lt-ltb, le-ltb}
use Rattle.std.proofs.lemmas.Result.{err_from_is_err_and}
use Rattle.semantics.specs.Shapes.{pick, size, In, unflat}
use Rattle.semantics.specs.Arrays.{Array}
use Rattle.semantics.specs.Values.{Expr, Cell, none, some, Value, fault, val, value}
use Rattle.semantics.specs.Programs.{State, listed, value_in, stopped, is_shown, becomes, with_name}
use Rattle.numbers.specs.Operations.{binary64}
use Rattle.numbers.specs.Patterns.{Pattern}
use Rattle.encoding.specs.Format.{inputs_of}
use Rattle.encoding.specs.ShapeOf.{shape_of}
use Rattle.encoding.specs.Writing.{array_bytes, Writes}
use Rattle.program.specs.declared.step.Step.{Step}
use Rattle.program.specs.Spelling.{spell}
use Rattle.program.specs.Standing.{steps_from, Stands}
use Rattle.kernels.specs.Trees.{tree, Plain}
use Rattle.kernels.specs.Filling.{Tabled, Ready}
use Rattle.views.specs.declared.view.View.{View}
use Rattle.memory.specs.declared.memory.Memory.{Memory}
use Rattle.memory.specs.Spans.{slot_size}
use Rattle.memory.specs.Tables.{Counted, Bound}
use Rattle.memory.proofs.Holding.{held_in_names, bound_tabled}
use Rattle.runtime.specs.declared.fault.Fault.TheVariants.{Room}
use Rattle.runtime.specs.declared.fault.Stop.{Stop}
use Rattle.runtime.specs.declared.plan.Planned.{Planned}
use Rattle.runtime.specs.declared.statements.Shown.{Shown}
use Rattle.runtime.specs.Faults.{fault_number}
use Rattle.runtime.specs.Planning.{sizes, Plans, plans, stops, PlannedAt}
use Rattle.runtime.specs.Showing.{TreeShown}
use Rattle.runtime.specs.States.{Runnable, Stood, Standing}
use Rattle.runtime.specs.Statements.{LetGoes, let_on, let_not, ShowGoes, show_on, show_not, show_full, ViewOf, NewBound}
use Rattle.runtime.proofs.Trees.{planned_ready, planned_number, planned_numbers, planned_plain}

-- an expression of a statement has the places that names leave
pub value_left : (area bs : List ℕ) (m : Memory) (u : State ℕ) (n : ℕ) → Counted m → Stood area bs m.names u.names → n ≡ length area - m.held → (e : Expr ℕ) →
    value_in (sizes (length area)) binary64 (inputs_of bs) u e ≡ value (sizes (length area)) binary64 (inputs_of bs) u.names n e
unfolding value_in
value_left area bs m u n c st is e =
    ap (λ k. value (sizes (length area)) binary64 (inputs_of bs) u.names k e) (sym (is ∙ ap (λ k. length area - k) (held_in_names {m = m} st.tabled st.many c)))

-- ---- shows
show_stop : (u : State ℕ) (at : ℕ) (old : List ℕ) {v : Value ℕ} {x : Stop} → v ≡ fault (fault_number x.fault) → ShowGoes u (is_shown u v) at old old (Err x)
unfolding is_shown stopped
show_stop u at old {x = x} e = subst (λ v. ShowGoes u (is_shown u v) at old old (Err x)) (sym e) (show_not refl refl refl)

show_done : (u : State ℕ) (at : ℕ) (old new : List ℕ) {v : Value ℕ} (a : Array ℕ) (c : ℕ) (s : Shown) → v ≡ val a c → Writes old new at (array_bytes a.shape (listed a).numbers) (Some s.end) → ShowGoes u (is_shown u v) at old new (Ok s)
unfolding is_shown listed
show_done u at old new a c s e w = subst (λ v. ShowGoes u (is_shown u v) at old new (Ok s)) (sym e) (show_on (listed a) refl refl refl w.2 w.0 w.1)

show_no_room : (u : State ℕ) (at : ℕ) (old new : List ℕ) {v : Value ℕ} (a : Array ℕ) (c : ℕ) (x : Stop) → v ≡ val a c → x.fault ≡ Room → Writes old new at (array_bytes a.shape (listed a).numbers) None → ShowGoes u (is_shown u v) at old new (Err x)
unfolding is_shown listed
show_no_room u at old new a c x e r w = subst (λ v. ShowGoes u (is_shown u v) at old new (Err x)) (sym e) (show_full (listed a) refl r w.0 w.1)

pub show_exit : (u v : State ℕ) (at : ℕ) (old new : List ℕ) (r : Result Shown Stop) (x : Stop) → IsErrAnd r (λ y. y ≡ x) → ShowGoes u v at old new (Err x) → ShowGoes u v at old new r
show_exit u v at old new r x b h =
    let q = err_from_is_err_and r b in
    subst (λ z. ShowGoes u v at old new z) (sym q.1) (subst (λ y. ShowGoes u v at old new (Err y)) (sym q.2) h)

-- the plan of an expression of a statement
module _ (ws : List ℕ) (i : ℕ) (run : Runnable ws) (area bs : List ℕ) (m : Memory) (counted : Counted m) (n : ℕ) (left : n ≡ length area - m.held) where
  -- some state that the table stands for makes the tree ready
  pub plan_ready : {p : Planned} → Stands ws i → Standing area bs m.names → PlannedAt ws bs m.names i n (Ok p) → Ready ws i m.names area bs (shape_of p.shape)
  plan_ready {p} st sd h = go (h.right st.expr st.rest st.enc area sd.names 0 sd.stood.tabled)
    where
      go : Plans (value (sizes 0) binary64 (inputs_of bs) sd.names n st.expr) (Ok p) → Ready ws i m.names area bs (shape_of p.shape)
      go (plans a e s) = planned_ready ws i run area bs m.names sd.names sd.stood st.expr st.rest st.enc 0 n a p.count e (shape_of p.shape) s

  module _ (e : Expr ℕ) (t : List Step) (enc : steps_from ws i ≡ spell e t) (u : State ℕ) (st : Stood area bs m.names u.names) where
    same_value : value_in (sizes (length area)) binary64 (inputs_of bs) u e ≡ value (sizes (length area)) binary64 (inputs_of bs) u.names n e
    same_value = value_left area bs m u n counted st left e

    pub plan_show_stop : (at : ℕ) (old : List ℕ) {x : Stop} → PlannedAt ws bs m.names i n (Err x) → ShowGoes u (is_shown u (value_in (sizes (length area)) binary64 (inputs_of bs) u e)) at old old (Err x)
    plan_show_stop at old {x} h = go (h.right e t enc area u.names (length area) st.tabled)
      where
        go : Plans (value (sizes (length area)) binary64 (inputs_of bs) u.names n e) (Err x) → ShowGoes u (is_shown u (value_in (sizes (length area)) binary64 (inputs_of bs) u e)) at old old (Err x)
        go (stops h) = show_stop u at old (same_value ∙ h)

    -- what the loop wrote is the array that the meaning shows
    module _ (p : Planned) (h : PlannedAt ws bs m.names i n (Ok p)) (at : ℕ) (old new : List ℕ) where
      written_as : {r : Option ℕ} (a : Array ℕ) → value (sizes (length area)) binary64 (inputs_of bs) u.names n e ≡ val a p.count → a.shape ≡ shape_of p.shape → TreeShown ws i m.names area bs (shape_of p.shape) at old new r → Writes old new at (array_bytes a.shape (listed a).numbers) r
      unfolding planned_ready
      written_as {r} a is s w =
          let q = planned_ready ws i run area bs m.names u.names st e t enc (length area) n a p.count is (shape_of p.shape) s in
          let numbers = planned_numbers ws i run area bs m.names u.names st e t enc (length area) n a p.count is (shape_of p.shape) s in
          subst (λ v. Writes old new at (array_bytes v (listed a).numbers) r) (sym s) (subst (λ ns. Writes old new at (array_bytes (shape_of p.shape) ns) r) numbers (w.on q))

      pub plan_show_done : (s : Shown) → TreeShown ws i m.names area bs (shape_of p.shape) at old new (Some s.end) → ShowGoes u (is_shown u (value_in (sizes (length area)) binary64 (inputs_of bs) u e)) at old new (Ok s)
      plan_show_done s w = go (h.right e t enc area u.names (length area) st.tabled)
        where
          go : Plans (value (sizes (length area)) binary64 (inputs_of bs) u.names n e) (Ok p) → ShowGoes u (is_shown u (value_in (sizes (length area)) binary64 (inputs_of bs) u e)) at old new (Ok s)
          go (plans a is sh) = show_done u at old new a p.count s (same_value ∙ is) (written_as a is sh w)

      pub plan_show_full : (x : Stop) → x.fault ≡ Room → TreeShown ws i m.names area bs (shape_of p.shape) at old new None → ShowGoes u (is_shown u (value_in (sizes (length area)) binary64 (inputs_of bs) u e)) at old new (Err x)
      plan_show_full x r w = go (h.right e t enc area u.names (length area) st.tabled)
        where
          go : Plans (value (sizes (length area)) binary64 (inputs_of bs) u.names n e) (Ok p) → ShowGoes u (is_shown u (value_in (sizes (length area)) binary64 (inputs_of bs) u e)) at old new (Err x)
          go (plans a is sh) = show_no_room u at old new a p.count x (same_value ∙ is) r (written_as a is sh w)

-- ---- lets
let_stop : (p : ℕ) (u : State ℕ) (k : ℕ) {area bs : List ℕ} {table : List (Option View)} {v : Value ℕ} {x : Stop} → v ≡ fault (fault_number x.fault) → LetGoes u (becomes (sizes p) u k v) area bs table (Err x)
unfolding becomes stopped
let_stop p u k {area} {bs} {table} {x = x} e = subst (λ v. LetGoes u (becomes (sizes p) u k v) area bs table (Err x)) (sym e) (let_not refl refl)

let_nowhere : (p : ℕ) (u : State ℕ) (k : ℕ) {area bs : List ℕ} {table : List (Option View)} {v : Value ℕ} {x : Stop} (a : Array ℕ) (c : ℕ) → v ≡ val a c → 64 ≤ k → fault_number x.fault ≡ 6 → LetGoes u (becomes (sizes p) u k v) area bs table (Err x)
unfolding becomes stopped with_name
let_nowhere p u k {area} {bs} {table} {x = x} a c e l six =
    subst (λ v. LetGoes u (becomes (sizes p) u k v) area bs table (Err x)) (sym e)
    (subst (λ b. LetGoes u (pick b (with_name u k a) (stopped u 6)) area bs table (Err x)) (sym (le-ltb k 64 l)) (let_not refl (sym six)))

let_done : (p : ℕ) (u : State ℕ) (k : ℕ) {area bs : List ℕ} {table : List (Option View)} {v : Value ℕ} {j : ℕ} (a : Array ℕ) (c : ℕ) → v ≡ val a c → k < 64 → Stood area bs table (set u.names k (some a)) → LetGoes u (becomes (sizes p) u k v) area bs table (Ok j)
unfolding becomes stopped with_name
let_done p u k {area} {bs} {table} {j = j} a c e l st =
    subst (λ v. LetGoes u (becomes (sizes p) u k v) area bs table (Ok j)) (sym e)
    (subst (λ b. LetGoes u (pick b (with_name u k a) (stopped u 6)) area bs table (Ok j)) (sym (lt-ltb k 64 l)) (let_on st refl refl))

pub let_exit : {u v : State ℕ} {area bs : List ℕ} {table : List (Option View)} (r : Result ℕ Stop) (x : Stop) → IsErrAnd r (λ y. y ≡ x) → LetGoes u v area bs table (Err x) → LetGoes u v area bs table r
let_exit {u} {v} {area} {bs} {table} r x b h =
    let q = err_from_is_err_and r b in
    subst (λ z. LetGoes u v area bs table z) (sym q.1) (subst (λ y. LetGoes u v area bs table (Err y)) (sym q.2) h)

-- names with one more array whose numbers are patterns
plain_set : {ins : List (Array ℕ)} (ns : List (Cell ℕ)) (k : ℕ) (a : Array ℕ) → Plain ins ns → ((is : List ℕ) → In a.shape is → Pattern (a.at is)) → Plain ins (set ns k (some a))
plain_set ns k a h new =
    record {
      inputs = h.inputs;
      names = λ j b e.
          ⊎_elim
          (λ same. ⊎_elim
          (λ low. let is : a ≡ b = some_same (sym (ap (λ i. get_or (set ns k (some a)) i none) same ∙ get_or-set_same ns k (some a) none low) ∙ e) in subst (λ x. (js : List ℕ) → In x.shape js → Pattern (x.at js)) is new)
          (λ past. h.names j b (sym (ap (λ l. get_or l j none) (set_past ns k (some a) past)) ∙ e))
          (cases_lt k (length ns)))
          (λ other. h.names j b (sym (get_or-set_other ns k j (some a) none other) ∙ e))
          (cases_eq j k);
    }
  where
    some_same : {a b : Array ℕ} → some a ≡ some b → a ≡ b
    some_same e = cc

stood_set : {area new bs : List ℕ} {table after : List (Option View)} (ns : List (Cell ℕ)) (k : ℕ) (a : Array ℕ) → Stood area bs table ns → ((is : List ℕ) → In a.shape is → Pattern (a.at is)) → Tabled new bs after (set ns k (some a)) → Stood new bs after (set ns k (some a))
stood_set ns k a st plain t =
    record { many = length-set ns k (some a) ∙ st.many; tabled = t; plain = plain_set ns k a st.plain plain }

module _ (ws : List ℕ) (i : ℕ) (run : Runnable ws) (area bs : List ℕ) (m : Memory) (counted : Counted m) (n : ℕ) (left : n ≡ length area - m.held) where
  -- a view that the expression is has the shape that was planned
  pub view_size : {p : Planned} (v : View) → Stands ws i → Standing area bs m.names → PlannedAt ws bs m.names i n (Ok p) → ViewOf ws i m.names bs v → slot_size (Some v) ≡ size (shape_of p.shape)
  unfolding slot_size
  view_size {p} v st sd h o = go (h.right st.expr st.rest st.enc area sd.names 0 sd.stood.tabled)
    where
      go : Plans (value (sizes 0) binary64 (inputs_of bs) sd.names n st.expr) (Ok p) → size (shape_of v.shape) ≡ size (shape_of p.shape)
      go (plans a e s) = ap size ((o.holds st.expr st.rest st.enc area sd.names 0 n a p.count sd.stood.tabled e).shaped ∙ s)

  module _ (e : Expr ℕ) (t : List Step) (enc : steps_from ws i ≡ spell e t) (u : State ℕ) (st : Stood area bs m.names u.names) (k : ℕ) where
    value_is : value_in (sizes (length area)) binary64 (inputs_of bs) u e ≡ value (sizes (length area)) binary64 (inputs_of bs) u.names n e
    value_is = value_left area bs m u n counted st left e

    pub plan_let_stop : (new : List ℕ) (table : List (Option View)) {x : Stop} → PlannedAt ws bs m.names i n (Err x) → LetGoes u (becomes (sizes (length area)) u k (value_in (sizes (length area)) binary64 (inputs_of bs) u e)) new bs table (Err x)
    plan_let_stop new table {x} h = go (h.right e t enc area u.names (length area) st.tabled)
      where
        go : Plans (value (sizes (length area)) binary64 (inputs_of bs) u.names n e) (Err x) → LetGoes u (becomes (sizes (length area)) u k (value_in (sizes (length area)) binary64 (inputs_of bs) u e)) new bs table (Err x)
        go (stops h) = let_stop (length area) u k (value_is ∙ h)

    module _ (p : Planned) (h : PlannedAt ws bs m.names i n (Ok p)) where
      pub plan_let_nowhere : (new : List ℕ) (table : List (Option View)) {x : Stop} → 64 ≤ k → fault_number x.fault ≡ 6 → LetGoes u (becomes (sizes (length area)) u k (value_in (sizes (length area)) binary64 (inputs_of bs) u e)) new bs table (Err x)
      plan_let_nowhere new table {x} l six = go (h.right e t enc area u.names (length area) st.tabled)
        where
          go : Plans (value (sizes (length area)) binary64 (inputs_of bs) u.names n e) (Ok p) → LetGoes u (becomes (sizes (length area)) u k (value_in (sizes (length area)) binary64 (inputs_of bs) u e)) new bs table (Err x)
          go (plans a is s) = let_nowhere (length area) u k a p.count (value_is ∙ is) l six

      pub plan_let_view : (after : Memory) (v : View) {j : ℕ} → k < 64 → ViewOf ws i m.names bs v → Bound m after k v → LetGoes u (becomes (sizes (length area)) u k (value_in (sizes (length area)) binary64 (inputs_of bs) u e)) area bs after.names (Ok j)
      plan_let_view after v {j} l o b = go (h.right e t enc area u.names (length area) st.tabled)
        where
          go : Plans (value (sizes (length area)) binary64 (inputs_of bs) u.names n e) (Ok p) → LetGoes u (becomes (sizes (length area)) u k (value_in (sizes (length area)) binary64 (inputs_of bs) u e)) area bs after.names (Ok j)
          go (plans a is s) =
              let_done (length area) u k a p.count (value_is ∙ is) l
              (stood_set u.names k a st (planned_plain ws i run area bs m.names u.names st e t enc (length area) n a p.count is)
              (bound_tabled {old = m} {new = after} st.tabled st.many counted l (o.holds e t enc area u.names (length area) n a p.count st.tabled is) b))

      pub plan_let_new : (new : List ℕ) (after : Memory) {j : ℕ} → k < 64 → NewBound ws i bs (shape_of p.shape) k area new m.names after.names → LetGoes u (becomes (sizes (length area)) u k (value_in (sizes (length area)) binary64 (inputs_of bs) u e)) new bs after.names (Ok j)
      unfolding planned_ready
      plan_let_new new after {j} l b = go (h.right e t enc area u.names (length area) st.tabled)
        where
          go : Plans (value (sizes (length area)) binary64 (inputs_of bs) u.names n e) (Ok p) → LetGoes u (becomes (sizes (length area)) u k (value_in (sizes (length area)) binary64 (inputs_of bs) u e)) new bs after.names (Ok j)
          go (plans a is s) =
              let q = planned_ready ws i run area bs m.names u.names st e t enc (length area) n a p.count is (shape_of p.shape) s in
              let number = planned_number ws i run area bs m.names u.names st e t enc (length area) n a p.count is in
              let_done (length area) u k a p.count (value_is ∙ is) l
              (stood_set u.names k a st (planned_plain ws i run area bs m.names u.names st e t enc (length area) n a p.count is)
              (b.on q a st.many s (subst (λ w. (j : ℕ) → j < size w → tree (inputs_of bs) u.names e (unflat w j) ≡ a.at (unflat w j)) s number)))
