-- A name that gets a new buffer, or a view that is there already.
use Rattle.std.proofs.Common.{◌≡◌, ℕ, ◌+◌, ◌<◌, ◌≤◌, Bool, true, false, leb, List, length, get_or, take, sym, ap, ◌∙◌, subst, inl, inr, ⊎_elim, arith, Option, Some, None}
use Rattle.std.proofs.lemmas.List.{length-take-le, take-take}
use Rattle.semantics.specs.Shapes.{pick, size, flat, unflat}
use Rattle.semantics.specs.Arrays.{Array}
use Rattle.semantics.specs.Values.{Expr, Cell, some, fault, val, made, held, value}
use Rattle.semantics.proofs.Places.{inside_in, flat_below, unflat_flat}
use Rattle.numbers.specs.Operations.{binary64}
use Rattle.encoding.specs.declared.header.Header.{Header}
use Rattle.encoding.specs.Headers.{Heads}
use Rattle.encoding.specs.Inputs.{Found}
use Rattle.encoding.specs.Format.{inputs_of, offsets, array_at}
use Rattle.encoding.specs.ShapeOf.{shape_of}
use Rattle.program.specs.declared.step.Step.{Step}
use Rattle.program.specs.declared.step.Step.TheVariants.{Name, Input}
use Rattle.program.specs.Words.{At}
use Rattle.program.specs.Standing.{steps_from, View as View-at, is_name, is_input}
use Rattle.program.proofs.Nodes.{expr_view}
use Rattle.views.specs.declared.view.Source.TheVariants.{Area, Input as From}
use Rattle.views.specs.declared.view.View.{View}
use Rattle.views.specs.Views.{Holds, Whole, Laid}
use Rattle.kernels.specs.Trees.{tree}
use Rattle.kernels.specs.Filling.{Tabled, Ready, Stored}
use Rattle.memory.specs.declared.memory.Memory.{Memory}
use Rattle.kernels.proofs.Feeding.{slot_cell, input_there}
use Rattle.memory.specs.Spans.{in_area, low_of, high_of, slot_size, GoodSlot, Fills}
use Rattle.memory.specs.Tables.{AllFill, Carries, Bound}
use Rattle.memory.proofs.Slotted.{area_low, area_high, fills_loose}
use Rattle.memory.proofs.Holding.{bound_neat, bound_fills, bound_tabled, area_grows, apart_above, apart_shared}
use Rattle.runtime.specs.Planning.{sizes}
use Rattle.runtime.specs.Statements.{Keeps, NewBound, ViewOf}

-- ---- a new buffer
module _ (area old : List ℕ) (before m : Memory) (carries : Carries old area before m) where
  -- the tree is ready over the words below the top
  pub ready_below : {ws : List ℕ} {i : ℕ} {bs w : List ℕ} (to : ℕ) → to ≡ m.top → m.top ≤ length area → Ready ws i before.names old bs w → Ready ws i m.names (take to area) bs w
  ready_below {bs = bs} to is room q =
      record {
        names = q.names;
        tabled = subst (λ n. Tabled (take n area) bs m.names q.names) (sym is)
            (area_grows (carries.tabled bs q.names q.tabled) carries.neat (take-take m.top m.top area (omega arith)) (omega (arith, length-take-le m.top area room)));
        expr = q.expr;
        rest = q.rest;
        enc = q.enc;
        leaves = q.leaves;
      }

module _ (old mid new : List ℕ) (before m after : Memory) (carries : Carries old mid before m) (to : ℕ) (is : to ≡ m.top) (w : List ℕ) (view : View) (whole : Whole Area to w view)
    (room : to + m.loose + size w ≤ length new) (k : ℕ) (there : k < 64) (bound : Bound m after k view) where
  low : low_of (Some view) ≡ to
  low = area_low view whole.source ∙ whole.low

  high : high_of (Some view) ≡ to + size w
  high = area_high view whole.source ∙ whole.high

  fills : Fills (Some view)
  unfolding Fills slot_size
  fills = omega (arith, low, high, ap size whole.shaped)

  pub new_keeps : AllFill before.names → before.held + size w ≤ length new → Keeps after new
  unfolding slot_size
  new_keeps all few =
      record {
        neat = bound_neat carries.neat whole.good (omega (arith, low, high)) (apart_above view carries.neat whole.source (whole.low ∙ is)) there carries.counted bound;
        counted = bound.counted;
        fills = bound_fills (carries.fills all) fills bound;
        room = omega (arith, bound.top, bound.loose, high, fills_loose (Some view) fills);
        within = omega (arith, bound.held, carries.held, few, ap size whole.shaped);
      }

  pub new_bound : (ws : List ℕ) (i : ℕ) (bs : List ℕ) → Stored ws i m.names bs w to mid new → ((area bs : List ℕ) (a : Array ℕ) → w ≡ a.shape → Laid area to a → Holds area bs view a) → length new ≡ length mid → NewBound ws i bs w k old new before.names after.names
  unfolding ready_below
  new_bound ws i bs stored holds same =
      record {
        on = λ q a many shaped numbers.
            let q1 = ready_below mid old before m carries to is (omega arith) q in
            let tabled = area_grows (carries.tabled bs q.names q.tabled) carries.neat (subst (λ n. take n new ≡ take n mid) is stored.before) (omega arith) in
            bound_tabled {old = m} {new = after} tabled many carries.counted there (holds new bs a (sym shaped) (laid q a shaped numbers)) bound;
      }
    where
      laid : (q : Ready ws i before.names old bs w) (a : Array ℕ) → a.shape ≡ w → ((n : ℕ) → n < size w → tree (inputs_of bs) q.names q.expr (unflat w n) ≡ a.at (unflat w n)) → Laid new to a
      laid q a shaped numbers =
          record {
            room = omega (arith, ap size shaped);
            each = λ js h.
                let inside = inside_in a.shape js h in
                let n = flat a.shape js in
                let below : n < size w = omega (arith, flat_below inside, ap size shaped) in
                let q1 = ready_below mid old before m carries to is (omega arith) q in
                stored.each q1 n below ∙ (numbers n below ∙ (ap (λ s. a.at (unflat s n)) (sym shaped) ∙ ap a.at (unflat_flat inside)));
          }

-- ---- a view that is there already
no_fault : {n : ℕ} {a : Array ℕ} {c : ℕ} → fault n ≡ val a c → ⊥
no_fault e = let z : ◌≡◌ {A = ℕ} 0 1 = cc in omega arith

-- the array that was held is the one that came
held_is : (n : ℕ) (b : Array ℕ) {a : Array ℕ} {c : ℕ} → held n (some b) ≡ val a c → b ≡ a
unfolding held made
held_is n b {a} {c} e = go (leb (0 + size b.shape) n) e
  where
    go : (t : Bool) → pick t (val b (0 + size b.shape)) (fault 5) ≡ val a c → b ≡ a
    go true h = cc
    go false h = absurd (no_fault h)

module _ (ws : List ℕ) (i : ℕ) (x : Step) (at : At ws i x) (table : List (Option View)) (bs : List ℕ) (v : View) where
  pub name_view_of : {k : ℕ} → x ≡ Name k → get_or table k None ≡ Some v → GoodSlot (get_or table k None) → ViewOf ws i table bs v
  unfolding value
  name_view_of {k} is slot good =
      record {
        good = subst (λ s. GoodSlot s) slot good;
        source = inl (k, slot);
        holds = λ e r enc area ns p n a c t val_is. go (expr_view ws i x at (Name k) is e r enc) area ns p n a c t val_is;
      }
    where
      go : {e : Expr ℕ} {r : List Step} → View-at r (steps_from ws (i + 1)) e (Name k) → (area : List ℕ) (ns : List (Cell ℕ)) (p n : ℕ) (a : Array ℕ) (c : ℕ) → Tabled area bs table ns →
          value (sizes p) binary64 (inputs_of bs) ns n e ≡ val a c → Holds area bs v a
      go (is_name q) area ns p n a c t h =
          let found = slot_cell slot (t.each k) in
          subst (λ b. Holds area bs v b) (held_is n found.array (sym (ap (held n) found.cell_is) ∙ h)) found.holds

  pub input_view_of : {k : ℕ} (h : Header) → x ≡ Input k → Found bs k h → Whole (From h.start) 0 (shape_of h.shape) v → ((area bs : List ℕ) (at : ℕ) → Heads bs at h → Holds area bs v (array_at bs at)) → ViewOf ws i table bs v
  unfolding value low_of high_of
  input_view_of {k} h is found whole holds =
      record {
        good = whole.good;
        source = inr (ap (λ s. in_area s v.low) whole.source, ap (λ s. in_area s v.high) whole.source);
        holds = λ e r enc area ns p n a c t val_is. go (expr_view ws i x at (Input k) is e r enc) area ns p n a c t val_is;
      }
    where
      go : {e : Expr ℕ} {r : List Step} → View-at r (steps_from ws (i + 1)) e (Input k) → (area : List ℕ) (ns : List (Cell ℕ)) (p n : ℕ) (a : Array ℕ) (c : ℕ) → Tabled area bs table ns →
          value (sizes p) binary64 (inputs_of bs) ns n e ≡ val a c → Holds area bs v a
      go (is_input q) area ns p n a c t e =
          let b = array_at bs (get_or (offsets bs) k 0) in
          subst (λ b. Holds area bs v b) (held_is n b (sym (ap (held n) (input_there bs k found.there)) ∙ e)) (holds area bs (get_or (offsets bs) k 0) found.heads)

-- a view that is there already is bound
module _ (area : List ℕ) (m after : Memory) (keeps : Keeps m area) (ws : List ℕ) (i : ℕ) (bs : List ℕ) (v : View) (is : ViewOf ws i m.names bs v) (k : ℕ) (there : k < 64) (bound : Bound m after k v) (few : m.held + slot_size (Some v) ≤ length area) where
  shared : ((j : ℕ) × (get_or m.names j None ≡ Some v)) → Keeps after area
  shared (j, e) =
      let fills : Fills (Some v) = subst Fills e (keeps.fills.each j) in
      let below = subst (λ s. high_of s ≤ m.top) e (keeps.neat.below j) in
      record {
        neat = bound_neat keeps.neat is.good (subst (λ s. low_of s ≤ high_of s) e (keeps.neat.up j)) (apart_shared j keeps.neat e) there keeps.counted bound;
        counted = bound.counted;
        fills = bound_fills keeps.fills fills bound;
        room = omega (arith, bound.top, bound.loose, fills_loose (Some v) fills, keeps.room);
        within = omega (arith, bound.held);
      }

  outside : (low_of (Some v) ≡ 0) × (high_of (Some v) ≡ 0) → Keeps after area
  unfolding Fills
  outside (low, high) =
      let fills : Fills (Some v) = omega arith in
      record {
        neat = bound_neat keeps.neat is.good (omega arith) (λ j. inr (inl (omega arith))) there keeps.counted bound;
        counted = bound.counted;
        fills = bound_fills keeps.fills fills bound;
        room = omega (arith, bound.top, bound.loose, fills_loose (Some v) fills, keeps.room);
        within = omega (arith, bound.held);
      }

  pub view_keeps : Keeps after area
  view_keeps = ⊎_elim shared outside is.source
