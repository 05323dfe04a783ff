-- Blocks of a tree from those of its operands, by the step that is read at its node.
use Rattle.std.proofs.Common.{◌≡◌, ℕ, ◌+◌, ◌-◌, ◌*◌, ◌<◌, ◌≤◌, max, List, [], ◌∷◌, length, get_or, sym, refl, subst, mul-le-mul_right, add-mul, mul-le-mul_left, one-mul, arith, Option}
use lib.Ieee.{Float}
use Rattle.semantics.specs.declared.operation.Unary.{Unary}
use Rattle.semantics.specs.declared.operation.Binary.{Binary}
use Rattle.semantics.specs.Shapes.{pick, unflat}
use Rattle.semantics.specs.Broadcast.{narrow}
use Rattle.semantics.specs.Values.{Expr, Cell, none, given}
use Rattle.semantics.proofs.Inside.{Spreads}
use Rattle.encoding.specs.Format.{inputs_of}
use Rattle.numbers.specs.Operations.{binary64}
use Rattle.program.specs.declared.step.Step.{Step}
use Rattle.program.specs.declared.step.Step.TheVariants.{Name, Input, Constant, Count, Each, Both, Choose}
use Rattle.program.specs.Words.{steps_in, At}
use Rattle.program.specs.Spelling.{spell}
use Rattle.program.specs.Standing.{steps_from, Skips, View, is_name, is_input, is_constant, is_count, is_each, is_both, is_choose, is_fold, is_scan, is_shape, is_turn, is_part, is_join, is_rows}
use Rattle.program.proofs.Nodes.{expr_view, expr_there, expr_further}
use Rattle.views.specs.declared.view.View.{View as Slot-view}
use Rattle.kernels.specs.Blocks.{StandFor, Applied, Joined, Chosen}
use Rattle.kernels.specs.Trees.{tree, CellLeaf, Leaves}
use Rattle.kernels.specs.declared.cost.Cost.{Cost}
use Rattle.kernels.specs.Filling.{Tabled, NameReady, InputReady, CellFilled, Ready, Filled, blocks, Able, Costs}

-- ---- blocks, number by number
pub applied_stand : {op : Unary} {old new : List Float} {f : ℕ → ℕ} → Applied op old new → length new ≡ length old → StandFor old f → StandFor new (λ k. binary64.one op (f k))
applied_stand a e s = record { each = λ k l. let m : k < length _ = subst (λ n. k < n) e l in (a.each k m).on _ (s.each k m) }

pub joined_stand : {op : Binary} {left right new : List Float} {f g : ℕ → ℕ} → Joined op left right new → length new ≡ length left → length right ≡ length left → StandFor left f → StandFor right g →
    StandFor new (λ k. binary64.two op (f k) (g k))
joined_stand a e d s t =
    record {
      each = λ k l.
          let m : k < length _ = subst (λ n. k < n) e l in
          let o : k < length _ = subst (λ n. k < n) (sym d) m in
          (a.each k m).on _ _ (s.each k m) (t.each k o);
    }

pub chosen_stand : {old left right new : List Float} {f g h : ℕ → ℕ} → Chosen old left right new → length new ≡ length old → length left ≡ length old → length right ≡ length old → StandFor old f → StandFor left g → StandFor right h →
    StandFor new (λ k. pick (binary64.truth (f k)) (g k) (h k))
chosen_stand a e d b s t u =
    record {
      each = λ k l.
          let m : k < length _ = subst (λ n. k < n) e l in
          let o : k < length _ = subst (λ n. k < n) (sym d) m in
          let p : k < length _ = subst (λ n. k < n) (sym b) m in
          (a.each k m).on _ _ _ (s.each k m) (t.each k o) (u.each k p);
    }

-- ---- room for blocks
fewer : (many spare a b : ℕ) → a ≤ b → b * many ≤ spare → a * many ≤ spare
fewer many spare a b l h = omega (arith, mul-le-mul_right many l)

behind : (many spare b : ℕ) → (1 + b) * many ≤ spare → (many ≤ spare) × (b * many ≤ spare - many)
behind many spare b h = let e = add-mul 1 b many in let f = one-mul many in (omega arith, omega arith)

-- a later operand gets a block of its own, and what is left behind it
pub record AbleBehind (ws : List ℕ) (j : ℕ) (table : List (Option Slot-view)) (area bs w : List ℕ) (many spare : ℕ) : Type 0 where
  pub block : many ≤ spare
  pub able : Able ws j table area bs w many (spare - many)

pub able_same : {ws : List ℕ} {i : ℕ} {table : List (Option Slot-view)} {area bs w : List ℕ} {many spare n m : ℕ} → Able ws i table area bs w many spare → many ≡ n → spare ≡ m → Able ws i table area bs w n m
able_same {ws} {i} {table} {area} {bs} {w} {many} {spare} {n} {m} a e f =
    subst (λ k. Able ws i table area bs w n k) f (subst (λ k. Able ws i table area bs w k spare) e a)

pub ready_there : {ws : List ℕ} {i : ℕ} {table : List (Option Slot-view)} {area bs w : List ℕ} → length (steps_in ws) ≤ i → Ready ws i table area bs w → ⊥
ready_there {ws} {i} l q = omega (arith, expr_there ws i q.expr q.rest q.enc)

-- ---- by the step that is read
module _ {ws : List ℕ} {i : ℕ} {x : Step} (at : At ws i x) {table : List (Option Slot-view)} {area bs w : List ℕ} where
  view : {s : Step} → x ≡ s → (q : Ready ws i table area bs w) → View q.rest (steps_from ws (i + 1)) q.expr s
  view {s} is q = expr_view ws i x at s is q.expr q.rest q.enc

  pub ready_name : {k : ℕ} → x ≡ Name k → Ready ws i table area bs w → NameReady table area bs w k
  ready_name {k} is q = record { names = q.names; tabled = q.tabled; leaf = go (view is q) q.leaves }
    where
      go : {e : Expr ℕ} → View q.rest (steps_from ws (i + 1)) e (Name k) → Leaves (inputs_of bs) q.names w e → CellLeaf w (get_or q.names k none)
      go (is_name p) l = l

  pub ready_input : {k : ℕ} → x ≡ Input k → Ready ws i table area bs w → InputReady bs w k
  ready_input {k} is q = record { leaf = go (view is q) q.leaves }
    where
      go : {e : Expr ℕ} → View q.rest (steps_from ws (i + 1)) e (Input k) → Leaves (inputs_of bs) q.names w e → CellLeaf w (given (inputs_of bs) k)
      go (is_input p) l = l

  pub ready_count : {m : ℕ} → x ≡ Count m → Ready ws i table area bs w → Spreads (m ∷ []) w
  ready_count {m} is q = go (view is q) q.leaves
    where
      go : {e : Expr ℕ} → View q.rest (steps_from ws (i + 1)) e (Count m) → Leaves (inputs_of bs) q.names w e → Spreads (m ∷ []) w
      go (is_count p) l = l

  -- the step is one of a tree's
  pub ready_step : Ready ws i table area bs w → ((k : ℕ) → x ≡ Name k → ⊥) → ((k : ℕ) → x ≡ Input k → ⊥) → ((a : ℕ) → x ≡ Constant a → ⊥) → ((m : ℕ) → x ≡ Count m → ⊥) → ((k : Unary) → x ≡ Each k → ⊥) → ((k : Binary) → x ≡ Both k → ⊥) → (x ≡ Choose → ⊥) → ⊥
  ready_step q not-name not-input not-constant not-count not-each not-both not-choose = go (view refl q) refl q.leaves
    where
      go : {e : Expr ℕ} {s : Step} → View q.rest (steps_from ws (i + 1)) e s → x ≡ s → Leaves (inputs_of bs) q.names w e → ⊥
      go (is_name p) h l = not-name _ h
      go (is_input p) h l = not-input _ h
      go (is_constant p) h l = not-constant _ h
      go (is_count p) h l = not-count _ h
      go (is_each p) h l = not-each _ h
      go (is_both p) h l = not-both _ h
      go (is_choose p) h l = not-choose h
      go (is_fold p) h l = l
      go (is_scan p) h l = l
      go (is_shape p) h l = l
      go (is_turn p) h l = l
      go (is_part p) h l = l
      go (is_join p) h l = l
      go (is_rows p) h l = l

  -- ---- the operands, with room for their blocks
  pub able_each : {op : Unary} {many spare : ℕ} → x ≡ Each op → Able ws i table area bs w many spare → Able ws (i + 1) table area bs w many spare
  unfolding blocks
  able_each {op} {many} {spare} is a = go (view is a.ready) a.ready.leaves a.room
    where
      go : {e : Expr ℕ} → View a.ready.rest (steps_from ws (i + 1)) e (Each op) → Leaves (inputs_of bs) a.ready.names w e → blocks e * many ≤ spare → Able ws (i + 1) table area bs w many spare
      go (is_each {e = e} p) l room = record { ready = record { names = a.ready.names; tabled = a.ready.tabled; expr = e; rest = a.ready.rest; enc = p; leaves = l }; room = room }

  pub able_left : {op : Binary} {many spare : ℕ} → x ≡ Both op → Able ws i table area bs w many spare → Able ws (i + 1) table area bs w many spare
  unfolding blocks
  able_left {op} {many} {spare} is a = go (view is a.ready) a.ready.leaves a.room
    where
      go : {e : Expr ℕ} → View a.ready.rest (steps_from ws (i + 1)) e (Both op) → Leaves (inputs_of bs) a.ready.names w e → blocks e * many ≤ spare → Able ws (i + 1) table area bs w many spare
      go (is_both {e = e} {f = f} p) l room =
          record {
            ready = record { names = a.ready.names; tabled = a.ready.tabled; expr = e; rest = spell f a.ready.rest; enc = p; leaves = l.0 };
            room = fewer many spare (blocks e) (max (blocks e) (1 + blocks f)) (omega arith) room;
          }

  pub able_right : {op : Binary} {many spare : ℕ} (j : ℕ) → x ≡ Both op → Skips ws (i + 1) j → Able ws i table area bs w many spare → AbleBehind ws j table area bs w many spare
  unfolding blocks
  able_right {op} {many} {spare} j is s a = go (view is a.ready) a.ready.leaves a.room
    where
      go : {e : Expr ℕ} → View a.ready.rest (steps_from ws (i + 1)) e (Both op) → Leaves (inputs_of bs) a.ready.names w e → blocks e * many ≤ spare → AbleBehind ws j table area bs w many spare
      go (is_both {e = e} {f = f} p) l room =
          let some : (1 + blocks f) * many ≤ spare = fewer many spare (1 + blocks f) (max (blocks e) (1 + blocks f)) (omega arith) room in
          let b = behind many spare (blocks f) some in
          record {
            block = b.0;
            able = record {
              ready = record { names = a.ready.names; tabled = a.ready.tabled; expr = f; rest = a.ready.rest; enc = s.on e _ p; leaves = l.1 };
              room = b.1;
            };
          }

  pub able_first : {many spare : ℕ} → x ≡ Choose → Able ws i table area bs w many spare → Able ws (i + 1) table area bs w many spare
  unfolding blocks
  able_first {many} {spare} is a = go (view is a.ready) a.ready.leaves a.room
    where
      go : {e : Expr ℕ} → View a.ready.rest (steps_from ws (i + 1)) e Choose → Leaves (inputs_of bs) a.ready.names w e → blocks e * many ≤ spare → Able ws (i + 1) table area bs w many spare
      go (is_choose {e = e} {f = f} {g = g} p) l room =
          record {
            ready = record { names = a.ready.names; tabled = a.ready.tabled; expr = e; rest = spell f (spell g a.ready.rest); enc = p; leaves = l.0 };
            room = fewer many spare (blocks e) (max (blocks e) (max (1 + blocks f) (2 + blocks g))) (omega arith) room;
          }

  pub able_second : {many spare : ℕ} (j : ℕ) → x ≡ Choose → Skips ws (i + 1) j → Able ws i table area bs w many spare → AbleBehind ws j table area bs w many spare
  unfolding blocks
  able_second {many} {spare} j is s a = go (view is a.ready) a.ready.leaves a.room
    where
      go : {e : Expr ℕ} → View a.ready.rest (steps_from ws (i + 1)) e Choose → Leaves (inputs_of bs) a.ready.names w e → blocks e * many ≤ spare → AbleBehind ws j table area bs w many spare
      go (is_choose {e = e} {f = f} {g = g} p) l room =
          let some : (1 + blocks f) * many ≤ spare = fewer many spare (1 + blocks f) (max (blocks e) (max (1 + blocks f) (2 + blocks g))) (omega arith) room in
          let b = behind many spare (blocks f) some in
          record {
            block = b.0;
            able = record {
              ready = record { names = a.ready.names; tabled = a.ready.tabled; expr = f; rest = spell g a.ready.rest; enc = s.on e _ p; leaves = l.1 };
              room = b.1;
            };
          }

  pub able_third : {many spare : ℕ} (j k : ℕ) → x ≡ Choose → Skips ws (i + 1) j → Skips ws j k → Able ws i table area bs w many spare → AbleBehind ws k table area bs w many (spare - many)
  unfolding blocks
  able_third {many} {spare} j k is s t a = go (view is a.ready) a.ready.leaves a.room
    where
      go : {e : Expr ℕ} → View a.ready.rest (steps_from ws (i + 1)) e Choose → Leaves (inputs_of bs) a.ready.names w e → blocks e * many ≤ spare → AbleBehind ws k table area bs w many (spare - many)
      go (is_choose {e = e} {f = f} {g = g} p) l room =
          let some : (1 + (1 + blocks g)) * many ≤ spare = fewer many spare (1 + (1 + blocks g)) (max (blocks e) (max (1 + blocks f) (2 + blocks g))) (omega arith) room in
          let b = behind many spare (1 + blocks g) some in
          let d = behind many (spare - many) (blocks g) b.1 in
          record {
            block = d.0;
            able = record {
              ready = record { names = a.ready.names; tabled = a.ready.tabled; expr = g; rest = a.ready.rest; enc = t.on f _ (s.on e _ p); leaves = l.2 };
              room = d.1;
            };
          }

  -- ---- what the block has then
  pub filled_name : {k first : ℕ} {out : List Float} → x ≡ Name k → ((ns : List (Cell ℕ)) → Tabled area bs table ns → CellFilled w first out (get_or ns k none)) → Filled ws i table area bs w first out
  unfolding tree
  filled_name {k} {first} {out} is f = record { stand = λ q. go q (view is q) }
    where
      go : (q : Ready ws i table area bs w) {e : Expr ℕ} → View q.rest (steps_from ws (i + 1)) e (Name k) → StandFor out (λ j. tree (inputs_of bs) q.names e (unflat w (first + j)))
      go q (is_name p) = (f q.names q.tabled).stand

  pub filled_input : {k first : ℕ} {out : List Float} → x ≡ Input k → CellFilled w first out (given (inputs_of bs) k) → Filled ws i table area bs w first out
  unfolding tree
  filled_input {k} {first} {out} is f = record { stand = λ q. go q (view is q) }
    where
      go : (q : Ready ws i table area bs w) {e : Expr ℕ} → View q.rest (steps_from ws (i + 1)) e (Input k) → StandFor out (λ j. tree (inputs_of bs) q.names e (unflat w (first + j)))
      go q (is_input p) = f.stand

  pub filled_constant : {a first : ℕ} {out : List Float} → x ≡ Constant a → StandFor out (λ j. a) → Filled ws i table area bs w first out
  unfolding tree
  filled_constant {a} {first} {out} is f = record { stand = λ q. go q (view is q) }
    where
      go : (q : Ready ws i table area bs w) {e : Expr ℕ} → View q.rest (steps_from ws (i + 1)) e (Constant a) → StandFor out (λ j. tree (inputs_of bs) q.names e (unflat w (first + j)))
      go q (is_constant p) = f

  pub filled_count : {m first : ℕ} {out : List Float} → x ≡ Count m → StandFor out (λ j. binary64.of (get_or (narrow (m ∷ []) (unflat w (first + j))) 0 0)) → Filled ws i table area bs w first out
  unfolding tree
  filled_count {m} {first} {out} is f = record { stand = λ q. go q (view is q) }
    where
      go : (q : Ready ws i table area bs w) {e : Expr ℕ} → View q.rest (steps_from ws (i + 1)) e (Count m) → StandFor out (λ j. tree (inputs_of bs) q.names e (unflat w (first + j)))
      go q (is_count p) = f

  pub filled_each : {op : Unary} {first : ℕ} {old new : List Float} → x ≡ Each op → Filled ws (i + 1) table area bs w first old → Applied op old new → length new ≡ length old → Filled ws i table area bs w first new
  unfolding tree
  filled_each {op} {first} {old} {new} is f a e = record { stand = λ q. go q (view is q) q.leaves }
    where
      go : (q : Ready ws i table area bs w) {e : Expr ℕ} → View q.rest (steps_from ws (i + 1)) e (Each op) → Leaves (inputs_of bs) q.names w e → StandFor new (λ j. tree (inputs_of bs) q.names e (unflat w (first + j)))
      go q (is_each {e = d} p) l = applied_stand a e (f.stand (record { names = q.names; tabled = q.tabled; expr = d; rest = q.rest; enc = p; leaves = l }))

  pub filled_both : {op : Binary} {first m : ℕ} {left right new : List Float} → x ≡ Both op → Filled ws (i + 1) table area bs w first left → Skips ws (i + 1) m → Filled ws m table area bs w first right → Joined op left right new →
      length new ≡ length left → length right ≡ length left → Filled ws i table area bs w first new
  unfolding tree
  filled_both {op} {first} {m} {left} {right} {new} is f s g a e d = record { stand = λ q. go q (view is q) q.leaves }
    where
      go : (q : Ready ws i table area bs w) {e : Expr ℕ} → View q.rest (steps_from ws (i + 1)) e (Both op) → Leaves (inputs_of bs) q.names w e → StandFor new (λ j. tree (inputs_of bs) q.names e (unflat w (first + j)))
      go q (is_both {e = y} {f = z} p) l =
          joined_stand a e d (f.stand (record { names = q.names; tabled = q.tabled; expr = y; rest = spell z q.rest; enc = p; leaves = l.0 }))
          (g.stand (record { names = q.names; tabled = q.tabled; expr = z; rest = q.rest; enc = s.on y _ p; leaves = l.1 }))

  pub filled_choose : {first m n : ℕ} {old left right new : List Float} → x ≡ Choose → Filled ws (i + 1) table area bs w first old → Skips ws (i + 1) m → Filled ws m table area bs w first left → Skips ws m n → Filled ws n table area bs w first right →
      Chosen old left right new → length new ≡ length old → length left ≡ length old → length right ≡ length old → Filled ws i table area bs w first new
  unfolding tree
  filled_choose {first} {m} {n} {old} {left} {right} {new} is f s g t h a e d o = record { stand = λ q. go q (view is q) q.leaves }
    where
      go : (q : Ready ws i table area bs w) {e : Expr ℕ} → View q.rest (steps_from ws (i + 1)) e Choose → Leaves (inputs_of bs) q.names w e → StandFor new (λ j. tree (inputs_of bs) q.names e (unflat w (first + j)))
      go q (is_choose {e = y} {f = z} {g = v} p) l =
          chosen_stand a e d o (f.stand (record { names = q.names; tabled = q.tabled; expr = y; rest = spell z (spell v q.rest); enc = p; leaves = l.0 }))
          (g.stand (record { names = q.names; tabled = q.tabled; expr = z; rest = spell v q.rest; enc = s.on y _ p; leaves = l.1 }))
          (h.stand (record { names = q.names; tabled = q.tabled; expr = v; rest = q.rest; enc = t.on z _ (s.on y _ p); leaves = l.2 }))

-- ---- the node behind
module _ {ws : List ℕ} {i : ℕ} {x : Step} (at : At ws i x) where
  pub skips_name : {k : ℕ} → x ≡ Name k → Skips ws i (i + 1)
  skips_name {k} is = record { on = λ e r h. go (expr_view ws i x at (Name k) is e r h) }
    where
      go : {e : Expr ℕ} {r : List Step} → View r (steps_from ws (i + 1)) e (Name k) → steps_from ws (i + 1) ≡ r
      go (is_name p) = p

  pub skips_input : {k : ℕ} → x ≡ Input k → Skips ws i (i + 1)
  skips_input {k} is = record { on = λ e r h. go (expr_view ws i x at (Input k) is e r h) }
    where
      go : {e : Expr ℕ} {r : List Step} → View r (steps_from ws (i + 1)) e (Input k) → steps_from ws (i + 1) ≡ r
      go (is_input p) = p

  pub skips_constant : {a : ℕ} → x ≡ Constant a → Skips ws i (i + 1)
  skips_constant {a} is = record { on = λ e r h. go (expr_view ws i x at (Constant a) is e r h) }
    where
      go : {e : Expr ℕ} {r : List Step} → View r (steps_from ws (i + 1)) e (Constant a) → steps_from ws (i + 1) ≡ r
      go (is_constant p) = p

  pub skips_count : {m : ℕ} → x ≡ Count m → Skips ws i (i + 1)
  skips_count {m} is = record { on = λ e r h. go (expr_view ws i x at (Count m) is e r h) }
    where
      go : {e : Expr ℕ} {r : List Step} → View r (steps_from ws (i + 1)) e (Count m) → steps_from ws (i + 1) ≡ r
      go (is_count p) = p

  pub skips_each : {op : Unary} {j : ℕ} → x ≡ Each op → Skips ws (i + 1) j → Skips ws i j
  skips_each {op} {j} is s = record { on = λ e r h. go (expr_view ws i x at (Each op) is e r h) }
    where
      go : {e : Expr ℕ} {r : List Step} → View r (steps_from ws (i + 1)) e (Each op) → steps_from ws j ≡ r
      go (is_each p) = s.on _ _ p

  pub skips_both : {op : Binary} {j k : ℕ} → x ≡ Both op → Skips ws (i + 1) j → Skips ws j k → Skips ws i k
  skips_both {op} {j} {k} is s t = record { on = λ e r h. go (expr_view ws i x at (Both op) is e r h) }
    where
      go : {e : Expr ℕ} {r : List Step} → View r (steps_from ws (i + 1)) e (Both op) → steps_from ws k ≡ r
      go (is_both p) = t.on _ _ (s.on _ _ p)

  pub skips_choose : {j k l : ℕ} → x ≡ Choose → Skips ws (i + 1) j → Skips ws j k → Skips ws k l → Skips ws i l
  skips_choose {j} {k} {l} is s t u = record { on = λ e r h. go (expr_view ws i x at Choose is e r h) }
    where
      go : {e : Expr ℕ} {r : List Step} → View r (steps_from ws (i + 1)) e Choose → steps_from ws l ≡ r
      go (is_choose p) = u.on _ _ (t.on _ _ (s.on _ _ p))

pub able_further : {ws : List ℕ} {i j : ℕ} {table : List (Option Slot-view)} {area bs w : List ℕ} → Ready ws i table area bs w → Skips ws i j → i < j
able_further {ws} {i} {j} q s = expr_further ws i j q.expr q.rest q.enc (s.on q.expr q.rest q.enc)

-- the same over an area that has the same words
abbrev pub ready_same : {ws : List ℕ} {i : ℕ} {table : List (Option Slot-view)} {area new bs w : List ℕ} → area ≡ new → Ready ws i table area bs w → Ready ws i table new bs w
ready_same {table = table} {bs = bs} e q =
    record { names = q.names; tabled = subst (λ a. Tabled a bs table q.names) e q.tabled; expr = q.expr; rest = q.rest; enc = q.enc; leaves = q.leaves }

pub block_able : {ws : List ℕ} {i : ℕ} {table : List (Option Slot-view)} {area bs w : List ℕ} {r : Cost} {len many spare : ℕ} → Ready ws i table area bs w → Costs ws i r → r.blocks * len ≤ 4096 → many ≤ len → 4096 ≤ spare → Able ws i table area bs w many spare
block_able {r = r} {len} {many} {spare} q c fits few room =
    let same = c.needs q.expr q.rest q.enc in
    record { ready = q; room = subst (λ b. b * many ≤ spare) same (omega (arith, mul-le-mul_left r.blocks few)) }
