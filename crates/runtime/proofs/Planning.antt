-- Plans, operation by operation.
use Rattle.std.proofs.Common.{◌≡◌, ℕ, zero, suc, ◌+◌, ◌-◌, ◌^◌, ◌<◌, ◌≤◌, min, Bool, true, false, List, [], ◌∷◌, map, length, get_or, IsErrAnd, IfOk, Ok, Err, Result, sym, refl, ap, ◌∙◌, subst, arith, Option, Some, None}
use Rattle.std.proofs.lemmas.Result.{err_from_is_err_and, IfOk-weaker}
use Rattle.std.proofs.lemmas.Bool.{le-leb, lt-leb}
use Rattle.semantics.specs.declared.operation.Unary.{Unary}
use Rattle.semantics.specs.declared.operation.Binary.{Binary}
use Rattle.semantics.specs.Shapes.{pick, size}
use Rattle.semantics.specs.Broadcast.{fit, wide}
use Rattle.semantics.specs.Arrays.{Array, each_array, both_array, constant_array, count_array}
use Rattle.semantics.specs.Values.{Expr, name, input, constant, count, each, both, Cell, none, Value, fault, val, then, made as counted, held, given, on_each, on_both, value}
use Rattle.numbers.specs.Operations.{binary64}
use Rattle.encoding.specs.Format.{inputs_of, offsets, array_at}
use Rattle.encoding.specs.declared.header.Header.{Header}
use Rattle.encoding.specs.Inputs.{Found}
use Rattle.encoding.specs.ShapeOf.{shape_of}
use Rattle.encoding.specs.declared.shape.Shape.{Shape}
use Rattle.program.specs.declared.step.Step.{Step}
use Rattle.program.specs.declared.step.Step.TheVariants.{Name, Input, Constant, Count, Each, Both}
use Rattle.program.specs.Spelling.{spell}
use Rattle.program.specs.Words.{At}
use Rattle.program.specs.Standing.{steps_from, Stands, Skips, View, is_name, is_input, is_constant, is_count, is_each, is_both}
use Rattle.program.proofs.Nodes.{expr_view, expr_further}
use Rattle.kernels.specs.Filling.{Tabled, SlotHolds, empty, held as holding}
use Rattle.kernels.proofs.Feeding.{slot_cell, input_there}
use Rattle.views.specs.declared.view.View.{View as Look}
use Rattle.runtime.specs.declared.fault.Fault.TheVariants.{Places, Nothing}
use Rattle.runtime.specs.declared.fault.Stop.{Stop}
use Rattle.runtime.specs.declared.plan.Planned.{Planned}
use Rattle.runtime.specs.Faults.{fault_number}
use Rattle.runtime.specs.Planning.{sizes, Plans, plans, stops, PlannedAt, Counts, NamePlan, InputPlan}

-- ---- one more array
module _ (sh : Shape) (n c j s : ℕ) (is : s ≡ min (size (shape_of sh)) (2 ^ 64 - 1)) (small : n ≤ 2 ^ 26) (within : c ≤ n) where
  pub counts_over : (x : Stop) → x.fault ≡ Places → n - c < s → Counts (shape_of sh) n c j (Err x)
  unfolding counted
  counts_over x f l = record { within = tt; next = tt; right = λ a e. stops (go a e ∙ sym (ap (λ y. fault (fault_number y)) f)) }
    where
      go : (a : Array ℕ) → a.shape ≡ shape_of sh → counted n c a ≡ fault 5
      go a e = rw (lt-leb (c + size a.shape) n (omega (arith, ap size e)))

  pub counts_made : s ≤ n - c → Counts (shape_of sh) n c j (Ok (record { shape = sh; count = c + s; next = j }))
  unfolding counted
  counts_made l =
      let whole : s ≡ size (shape_of sh) = omega arith in
      record {
        within = (omega arith, omega arith);
        next = refl;
        right = λ a e. plans a (go a e whole) e;
      }
    where
      go : (a : Array ℕ) → a.shape ≡ shape_of sh → s ≡ size (shape_of sh) → counted n c a ≡ val a (c + s)
      go a e w =
          let same : c + size a.shape ≡ c + s = omega (arith, ap size e) in
          rw (le-leb (c + size a.shape) n (omega (arith, ap size e))) (ap (val a) same)

-- ---- names and inputs
cell_empty : {area bs : List ℕ} {slot : Option Look} {cell : Cell ℕ} → slot ≡ None → SlotHolds area bs slot cell → cell ≡ none
cell_empty e empty = refl
cell_empty e (holding h) = absurd (let z : ◌≡◌ {A = ℕ} 0 1 = cc in omega arith)

pub slot_empty : (s : Option Look) → ((v : Look) → s ≡ Some v → ⊥) → s ≡ None
slot_empty None h = refl
slot_empty (Some v) h = absurd (h v refl)

given_past : (f : ℕ → Array ℕ) (xs : List ℕ) (k : ℕ) → length xs ≤ k → given (map f xs) k ≡ none
unfolding given
given_past f [] k h = refl
given_past f (x ∷ xs) zero h = absurd (omega arith)
given_past f (x ∷ xs) (suc k) h = given_past f xs k (omega arith)

input_none : (bs : List ℕ) (k : ℕ) → length (offsets bs) ≤ k → given (inputs_of bs) k ≡ none
unfolding inputs_of
input_none bs k h = given_past (array_at bs) (offsets bs) k h

pub name_nothing : (table : List (Option Look)) (k n j : ℕ) (x : Stop) → get_or table k None ≡ None → x.fault ≡ Nothing → NamePlan table k n j (Err x)
unfolding held
name_nothing table k n j x e f =
    record { within = tt; next = tt; right = λ area bs ns t. stops (ap (held n) (cell_empty e (t.each k)) ∙ sym (ap (λ y. fault (fault_number y)) f)) }

pub name_counts : (table : List (Option Look)) (k n j : ℕ) (v : Look) (r : Result Planned Stop) → get_or table k None ≡ Some v → Counts (shape_of v.shape) n 0 j r → NamePlan table k n j r
unfolding held
name_counts table k n j v r e h =
    record {
      within = h.within;
      next = h.next;
      right = λ area bs ns t.
          let a = slot_cell e (t.each k) in
          subst (λ c. Plans (held n c) r) (sym a.cell_is) (h.right a.array (sym a.holds.shaped));
    }

pub input_nothing : (bs : List ℕ) (k n j : ℕ) (x : Stop) → length (offsets bs) ≤ k → x.fault ≡ Nothing → InputPlan bs k n j (Err x)
unfolding held
input_nothing bs k n j x l f =
    record { within = tt; next = tt; right = stops (ap (held n) (input_none bs k l) ∙ sym (ap (λ y. fault (fault_number y)) f)) }

pub input_counts : (bs : List ℕ) (k n j : ℕ) (h : Header) (r : Result Planned Stop) → Found bs k h → Counts (shape_of h.shape) n 0 j r → InputPlan bs k n j r
unfolding held array_at
input_counts bs k n j h r f q =
    record {
      within = q.within;
      next = q.next;
      right = subst (λ c. Plans (held n c) r) (sym (input_there bs k f.there)) (q.right (array_at bs (get_or (offsets bs) k 0)) (sym f.heads.shaped));
    }

-- ---- operations
then_fault : {v : Value ℕ} (f : Array ℕ → ℕ → Value ℕ) {x : ℕ} → v ≡ fault x → then v f ≡ fault x
unfolding then
then_fault f e = ap (λ w. then w f) e

then_val : {v : Value ℕ} (f : Array ℕ → ℕ → Value ℕ) {a : Array ℕ} {c : ℕ} → v ≡ val a c → then v f ≡ f a c
unfolding then
then_val f e = ap (λ w. then w f) e

picked : {b d : Bool} (v w : Value ℕ) → b ≡ d → pick b v w ≡ pick d v w
picked v w e = ap (λ c. pick c v w) e

plans_same : {v w : Value ℕ} {r : Result Planned Stop} → v ≡ w → Plans w r → Plans v r
plans_same {r = r} e h = subst (λ x. Plans x r) (sym e) h

module _ (p : ℕ) (ins : List (Array ℕ)) (ns : List (Cell ℕ)) (n : ℕ) where
  each_stops : (k : Unary) (e : Expr ℕ) {s : Stop} → Plans (value (sizes p) binary64 ins ns n e) (Err s) → Plans (value (sizes p) binary64 ins ns n (each k e)) (Err s)
  unfolding value
  each_stops k e (stops h) = stops (then_fault _ h)

  each_plans : (k : Unary) (e : Expr ℕ) {a : Planned} {r : Result Planned Stop} {j : ℕ} → Plans (value (sizes p) binary64 ins ns n e) (Ok a) → Counts (shape_of a.shape) n a.count j r → Plans (value (sizes p) binary64 ins ns n (each k e)) r
  unfolding value on_each each_array
  each_plans k e (plans x h s) c = plans_same (then_val _ h) (c.right (each_array binary64 k x) s)

  both_stops : (k : Binary) (e f : Expr ℕ) {s : Stop} → Plans (value (sizes p) binary64 ins ns n e) (Err s) → Plans (value (sizes p) binary64 ins ns n (both k e f)) (Err s)
  unfolding value
  both_stops k e f (stops h) = stops (then_fault _ h)

  both_stops_second : (k : Binary) (e f : Expr ℕ) {a : Planned} {s : Stop} → Plans (value (sizes p) binary64 ins ns n e) (Ok a) → Plans (value (sizes p) binary64 ins ns (n - a.count) f) (Err s) → Plans (value (sizes p) binary64 ins ns n (both k e f)) (Err s)
  unfolding value
  both_stops_second k e f (plans x h s) (stops g) = stops (then_val _ h ∙ then_fault _ g)

  both_unlike : (k : Binary) (e f : Expr ℕ) {a b : Planned} (s : Stop) → Plans (value (sizes p) binary64 ins ns n e) (Ok a) → Plans (value (sizes p) binary64 ins ns (n - a.count) f) (Ok b) → false ≡ fit (shape_of a.shape) (shape_of b.shape) → fault_number s.fault ≡ 1 → Plans (value (sizes p) binary64 ins ns n (both k e f)) (Err s)
  unfolding value on_both
  both_unlike k e f {a} {b} s (plans x h xs) (plans y g ys) t one =
      stops (then_val _ h ∙ (then_val _ g ∙ (picked _ _ (ap (λ u. fit u y.shape) xs ∙ (ap (λ u. fit (shape_of a.shape) u) ys ∙ sym t)) ∙ ap fault (sym one))))

  both_plans : (k : Binary) (e f : Expr ℕ) {a b : Planned} {r : Result Planned Stop} {w : List ℕ} {j : ℕ} → Plans (value (sizes p) binary64 ins ns n e) (Ok a) → Plans (value (sizes p) binary64 ins ns (n - a.count) f) (Ok b) → true ≡ fit (shape_of a.shape) (shape_of b.shape) → w ≡ wide (shape_of a.shape) (shape_of b.shape) → Counts w n (a.count + b.count) j r → Plans (value (sizes p) binary64 ins ns n (both k e f)) r
  unfolding value on_both both_array
  both_plans k e f {a} {b} (plans x h xs) (plans y g ys) t ws c =
      plans_same (then_val _ h ∙ (then_val _ g ∙ picked _ _ (ap (λ u. fit u y.shape) xs ∙ (ap (λ u. fit (shape_of a.shape) u) ys ∙ sym t))))
      (c.right (both_array binary64 k x y) (ap (λ u. wide u y.shape) xs ∙ (ap (λ u. wide (shape_of a.shape) u) ys ∙ sym ws)))

-- ---- what stands at a node, by the step that is read there
module _ (ws bs : List ℕ) (table : List (Option Look)) (i n : ℕ) (x : Step) (at : At ws i x) where
  -- a leaf: its value does not hang on other steps
  leaf_at : (s : Step) → x ≡ s → {r : Result Planned Stop} (e : Expr ℕ) → ((t : List Step) (d : Expr ℕ) → View t (steps_from ws (i + 1)) d s → (d ≡ e) × (steps_from ws (i + 1) ≡ t)) →
      IfOk r (λ p. (p.count ≤ n) × (size (shape_of p.shape) ≤ p.count)) → IfOk r (λ p. p.next ≡ i + 1) → ((area : List ℕ) (ns : List (Cell ℕ)) (p : ℕ) → Tabled area bs table ns → Plans (value (sizes p) binary64 (inputs_of bs) ns n e) r) → PlannedAt ws bs table i n r
  leaf_at s is {r} e look w m h =
      record {
        within = w;
        skips = IfOk-weaker r _ _ (λ p j. record { on = λ d t q. ap (steps_from ws) j ∙ (look t d (expr_view ws i x at s is d t q)).1 }) m;
        right = λ d t q area ns p tb. plans_same (ap (value (sizes p) binary64 (inputs_of bs) ns n) (look t d (expr_view ws i x at s is d t q)).0) (h area ns p tb);
      }

  pub name_at : {k : ℕ} → x ≡ Name k → {r : Result Planned Stop} → NamePlan table k n (i + 1) r → PlannedAt ws bs table i n r
  unfolding value
  name_at {k} is {r} h = leaf_at (Name k) is (name k) look h.within h.next (λ area ns p t. h.right area bs ns t)
    where
      look : (t : List Step) (d : Expr ℕ) → View t (steps_from ws (i + 1)) d (Name k) → (d ≡ name k) × (steps_from ws (i + 1) ≡ t)
      look t d (is_name q) = (refl, q)

  pub input_at : {k : ℕ} → x ≡ Input k → {r : Result Planned Stop} → InputPlan bs k n (i + 1) r → PlannedAt ws bs table i n r
  unfolding value
  input_at {k} is {r} h = leaf_at (Input k) is (input k) look h.within h.next (λ area ns p t. h.right)
    where
      look : (t : List Step) (d : Expr ℕ) → View t (steps_from ws (i + 1)) d (Input k) → (d ≡ input k) × (steps_from ws (i + 1) ≡ t)
      look t d (is_input q) = (refl, q)

  pub constant_at : {a : ℕ} → x ≡ Constant a → {r : Result Planned Stop} → Counts [] n 0 (i + 1) r → PlannedAt ws bs table i n r
  unfolding value constant_array
  constant_at {a} is {r} h = leaf_at (Constant a) is (constant a) look h.within h.next (λ area ns p t. h.right (constant_array a) refl)
    where
      look : (t : List Step) (d : Expr ℕ) → View t (steps_from ws (i + 1)) d (Constant a) → (d ≡ constant a) × (steps_from ws (i + 1) ≡ t)
      look t d (is_constant q) = (refl, q)

  pub count_at : {m : ℕ} → x ≡ Count m → {r : Result Planned Stop} → Counts (m ∷ []) n 0 (i + 1) r → PlannedAt ws bs table i n r
  unfolding value count_array
  count_at {m} is {r} h = leaf_at (Count m) is (count m) look h.within h.next (λ area ns p t. h.right (count_array binary64 m) refl)
    where
      look : (t : List Step) (d : Expr ℕ) → View t (steps_from ws (i + 1)) d (Count m) → (d ≡ count m) × (steps_from ws (i + 1) ≡ t)
      look t d (is_count q) = (refl, q)

  -- one operand
  pub each_stop_at : {k : Unary} → x ≡ Each k → {s : Stop} → PlannedAt ws bs table (i + 1) n (Err s) → PlannedAt ws bs table i n (Err s)
  each_stop_at {k} is {s} h = record { within = tt; skips = tt; right = λ d t q area ns p tb. go (expr_view ws i x at (Each k) is d t q) area ns p tb }
    where
      go : {d : Expr ℕ} {t : List Step} → View t (steps_from ws (i + 1)) d (Each k) → (area : List ℕ) (ns : List (Cell ℕ)) (p : ℕ) → Tabled area bs table ns → Plans (value (sizes p) binary64 (inputs_of bs) ns n d) (Err s)
      go {t = t} (is_each {e = e} q) area ns p tb = each_stops p (inputs_of bs) ns n k e (h.right e t q area ns p tb)

  pub each_at : {k : Unary} → x ≡ Each k → {a : Planned} {r : Result Planned Stop} → PlannedAt ws bs table (i + 1) n (Ok a) → Counts (shape_of a.shape) n a.count a.next r → PlannedAt ws bs table i n r
  each_at {k} is {a} {r} h c =
      record {
        within = c.within;
        skips = IfOk-weaker r _ _ (λ p j. record { on = λ d t q. ap (steps_from ws) j ∙ skip (expr_view ws i x at (Each k) is d t q) }) c.next;
        right = λ d t q area ns p tb. go (expr_view ws i x at (Each k) is d t q) area ns p tb;
      }
    where
      skip : {d : Expr ℕ} {t : List Step} → View t (steps_from ws (i + 1)) d (Each k) → steps_from ws a.next ≡ t
      skip {t = t} (is_each {e = e} q) = h.skips.on e t q

      go : {d : Expr ℕ} {t : List Step} → View t (steps_from ws (i + 1)) d (Each k) → (area : List ℕ) (ns : List (Cell ℕ)) (p : ℕ) → Tabled area bs table ns → Plans (value (sizes p) binary64 (inputs_of bs) ns n d) r
      go {t = t} (is_each {e = e} q) area ns p tb = each_plans p (inputs_of bs) ns n k e (h.right e t q area ns p tb) c

  -- two operands
  module _ {k : Binary} (is : x ≡ Both k) where
    pub both_stands : Stands ws i → Stands ws (i + 1)
    both_stands st = go (expr_view ws i x at (Both k) is st.expr st.rest st.enc)
      where
        go : {d : Expr ℕ} {t : List Step} → View t (steps_from ws (i + 1)) d (Both k) → Stands ws (i + 1)
        go {t = t} (is_both {e = e} {f = f} q) = record { expr = e; rest = spell f t; enc = q }

    pub both_stands_second : {j : ℕ} → Skips ws (i + 1) j → Stands ws i → Stands ws j
    both_stands_second {j} sk st = go (expr_view ws i x at (Both k) is st.expr st.rest st.enc)
      where
        go : {d : Expr ℕ} {t : List Step} → View t (steps_from ws (i + 1)) d (Both k) → Stands ws j
        go {t = t} (is_both {e = e} {f = f} q) = record { expr = f; rest = t; enc = sk.on e (spell f t) q }

    pub both_stop_at : {s : Stop} → PlannedAt ws bs table (i + 1) n (Err s) → PlannedAt ws bs table i n (Err s)
    both_stop_at {s} h = record { within = tt; skips = tt; right = λ d t q area ns p tb. go (expr_view ws i x at (Both k) is d t q) area ns p tb }
      where
        go : {d : Expr ℕ} {t : List Step} → View t (steps_from ws (i + 1)) d (Both k) → (area : List ℕ) (ns : List (Cell ℕ)) (p : ℕ) → Tabled area bs table ns → Plans (value (sizes p) binary64 (inputs_of bs) ns n d) (Err s)
        go {t = t} (is_both {e = e} {f = f} q) area ns p tb = both_stops p (inputs_of bs) ns n k e f (h.right e (spell f t) q area ns p tb)

    module _ {a : Planned} (h : PlannedAt ws bs table (i + 1) n (Ok a)) where
      pub both_stop_second_at : {s : Stop} → PlannedAt ws bs table a.next (n - a.count) (Err s) → PlannedAt ws bs table i n (Err s)
      both_stop_second_at {s} g = record { within = tt; skips = tt; right = λ d t q area ns p tb. go (expr_view ws i x at (Both k) is d t q) area ns p tb }
        where
          go : {d : Expr ℕ} {t : List Step} → View t (steps_from ws (i + 1)) d (Both k) → (area : List ℕ) (ns : List (Cell ℕ)) (p : ℕ) → Tabled area bs table ns → Plans (value (sizes p) binary64 (inputs_of bs) ns n d) (Err s)
          go {t = t} (is_both {e = e} {f = f} q) area ns p tb =
              both_stops_second p (inputs_of bs) ns n k e f (h.right e (spell f t) q area ns p tb) (g.right f t (h.skips.on e (spell f t) q) area ns p tb)

      module _ {b : Planned} (g : PlannedAt ws bs table a.next (n - a.count) (Ok b)) where
        pub both_unlike_at : (s : Stop) → false ≡ fit (shape_of a.shape) (shape_of b.shape) → fault_number s.fault ≡ 1 → PlannedAt ws bs table i n (Err s)
        both_unlike_at s l one = record { within = tt; skips = tt; right = λ d t q area ns p tb. go (expr_view ws i x at (Both k) is d t q) area ns p tb }
          where
            go : {d : Expr ℕ} {t : List Step} → View t (steps_from ws (i + 1)) d (Both k) → (area : List ℕ) (ns : List (Cell ℕ)) (p : ℕ) → Tabled area bs table ns → Plans (value (sizes p) binary64 (inputs_of bs) ns n d) (Err s)
            go {t = t} (is_both {e = e} {f = f} q) area ns p tb =
                both_unlike p (inputs_of bs) ns n k e f s (h.right e (spell f t) q area ns p tb) (g.right f t (h.skips.on e (spell f t) q) area ns p tb) l one

        pub both_at : {w : List ℕ} {r : Result Planned Stop} → true ≡ fit (shape_of a.shape) (shape_of b.shape) → w ≡ wide (shape_of a.shape) (shape_of b.shape) → Counts w n (a.count + b.count) b.next r → PlannedAt ws bs table i n r
        both_at {w} {r} l same c =
            record {
              within = c.within;
              skips = IfOk-weaker r _ _ (λ p j. record { on = λ d t q. ap (steps_from ws) j ∙ skip (expr_view ws i x at (Both k) is d t q) }) c.next;
              right = λ d t q area ns p tb. go (expr_view ws i x at (Both k) is d t q) area ns p tb;
            }
          where
            skip : {d : Expr ℕ} {t : List Step} → View t (steps_from ws (i + 1)) d (Both k) → steps_from ws b.next ≡ t
            skip {t = t} (is_both {e = e} {f = f} q) = g.skips.on f t (h.skips.on e (spell f t) q)

            go : {d : Expr ℕ} {t : List Step} → View t (steps_from ws (i + 1)) d (Both k) → (area : List ℕ) (ns : List (Cell ℕ)) (p : ℕ) → Tabled area bs table ns → Plans (value (sizes p) binary64 (inputs_of bs) ns n d) r
            go {t = t} (is_both {e = e} {f = f} q) area ns p tb =
                both_plans p (inputs_of bs) ns n k e f (h.right e (spell f t) q area ns p tb) (g.right f t (h.skips.on e (spell f t) q) area ns p tb) l same c

-- the exit of a `?`
pub plan_exit : (ws bs : List ℕ) (table : List (Option Look)) (i n : ℕ) (r : Result Planned Stop) (x : Stop) → IsErrAnd r (λ y. y ≡ x) → PlannedAt ws bs table i n (Err x) → PlannedAt ws bs table i n r
plan_exit ws bs table i n r x b h =
    let q = err_from_is_err_and r b in
    subst (λ z. PlannedAt ws bs table i n z) (sym q.1) (subst (λ y. PlannedAt ws bs table i n (Err y)) (sym q.2) h)

pub skips_further : (ws : List ℕ) (i j : ℕ) → Stands ws i → Skips ws i j → i < j
skips_further ws i j st s = expr_further ws i j st.expr st.rest st.enc (s.on st.expr st.rest st.enc)
