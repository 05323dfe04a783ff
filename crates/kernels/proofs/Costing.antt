-- What a tree takes, by the step that is read at its node.
use Rattle.std.proofs.Common.{◌≡◌, ℕ, ◌+◌, ◌<◌, ◌≤◌, max, List, length, refl, ap, ◌∙◌, ap₂, arith, Option}
use Rattle.semantics.specs.declared.operation.Unary.{Unary}
use Rattle.semantics.specs.declared.operation.Binary.{Binary}
use Rattle.semantics.specs.Values.{Expr, name, input, constant, count, each, both, choose, fold, scan, shape_to, turn, part, join, rows}
use Rattle.encoding.specs.Format.{inputs_of}
use Rattle.semantics.specs.Arrays.{Array}
use Rattle.semantics.specs.Values.{Cell}
use Rattle.program.specs.declared.step.Step.{Step}
use Rattle.program.specs.declared.step.Step.TheVariants.{Name, Input, Constant, Count, Each, Both, Choose}
use Rattle.program.specs.Marks.{marks}
use Rattle.program.specs.Words.{steps_in, At}
use Rattle.program.specs.Spelling.{spell}
use Rattle.program.specs.Standing.{steps_from, Skips, View, is_name, is_input, is_constant, is_count, is_each, is_both, is_choose, is_fold, is_scan, is_shape, is_turn, is_part, is_join, is_rows}
use Rattle.program.proofs.Lengths.{length_spell}
use Rattle.program.proofs.Nodes.{expr_view, expr_there, expr_further, length_from}
use Rattle.program.proofs.Storing.{length_steps_in}
use Rattle.views.specs.declared.view.View.{View as Slot-view}
use Rattle.kernels.specs.declared.cost.Cost.{Cost}
use Rattle.kernels.specs.Trees.{Fusable, Leaves}
use Rattle.kernels.specs.Filling.{Ready, blocks, TreeStands, Costs}
use Rattle.kernels.proofs.Growing.{skips_each, skips_both, skips_choose}

-- fewer blocks than steps
blocks_below : (e : Expr ℕ) → blocks e < marks e
unfolding blocks marks
blocks_below (name k) = omega arith
blocks_below (input k) = omega arith
blocks_below (constant x) = omega arith
blocks_below (count m) = omega arith
blocks_below (each k e) = omega (arith, blocks_below e)
blocks_below (both k e f) = omega (arith, blocks_below e, blocks_below f)
blocks_below (choose e f g) = omega (arith, blocks_below e, blocks_below f, blocks_below g)
blocks_below (fold k x e) = omega arith
blocks_below (scan k x e) = omega arith
blocks_below (shape_to t e) = omega arith
blocks_below (turn os e) = omega arith
blocks_below (part ps e) = omega arith
blocks_below (join x e f) = omega arith
blocks_below (rows e f) = omega arith

pub blocks_few : (ws : List ℕ) (i : ℕ) (e : Expr ℕ) (r : List Step) → steps_from ws i ≡ spell e r → blocks e ≤ length ws
blocks_few ws i e r h =
    omega (arith, blocks_below e, length_from ws i, ap length h, length_spell e r, length_steps_in ws)

pub leaves_fuse : (ins : List (Array ℕ)) (ns : List (Cell ℕ)) (w : List ℕ) (e : Expr ℕ) → Leaves ins ns w e → Fusable e
leaves_fuse ins ns w (name k) l = tt
leaves_fuse ins ns w (input k) l = tt
leaves_fuse ins ns w (constant x) l = tt
leaves_fuse ins ns w (count m) l = tt
leaves_fuse ins ns w (each k e) l = leaves_fuse ins ns w e l
leaves_fuse ins ns w (both k e f) l = (leaves_fuse ins ns w e l.0, leaves_fuse ins ns w f l.1)
leaves_fuse ins ns w (choose e f g) l = (leaves_fuse ins ns w e l.0, leaves_fuse ins ns w f l.1, leaves_fuse ins ns w g l.2)
leaves_fuse ins ns w (fold k x e) l = l
leaves_fuse ins ns w (scan k x e) l = l
leaves_fuse ins ns w (shape_to t e) l = l
leaves_fuse ins ns w (turn os e) l = l
leaves_fuse ins ns w (part ps e) l = l
leaves_fuse ins ns w (join x e f) l = l
leaves_fuse ins ns w (rows e f) l = l

pub ready_tree : {ws : List ℕ} {i : ℕ} {table : List (Option Slot-view)} {area bs w : List ℕ} → Ready ws i table area bs w → TreeStands ws i
ready_tree {bs = bs} {w = w} q = record { expr = q.expr; rest = q.rest; enc = q.enc; tree = leaves_fuse (inputs_of bs) q.names w q.expr q.leaves }

pub tree_there : {ws : List ℕ} {i : ℕ} → length (steps_in ws) ≤ i → TreeStands ws i → ⊥
tree_there {ws} {i} l q = omega (arith, expr_there ws i q.expr q.rest q.enc)

pub tree_further : {ws : List ℕ} {i j : ℕ} → TreeStands ws i → Skips ws i j → i < j
tree_further {ws} {i} {j} q s = expr_further ws i j q.expr q.rest q.enc (s.on q.expr q.rest q.enc)

-- the cost is that of the tree that stands there
costs_from : {ws : List ℕ} {i : ℕ} {r : Cost} → TreeStands ws i → Skips ws i r.next → ((e : Expr ℕ) (q : List Step) → steps_from ws i ≡ spell e q → r.blocks ≡ blocks e) → Costs ws i r
costs_from {ws} {i} {r} t s h =
    let same = h t.expr t.rest t.enc in
    let few = blocks_few ws i t.expr t.rest t.enc in
    record { skips = s; few = omega arith; needs = h }

module _ {ws : List ℕ} {i : ℕ} {x : Step} (at : At ws i x) where
  view : {s : Step} → x ≡ s → (q : TreeStands ws i) → View q.rest (steps_from ws (i + 1)) q.expr s
  view {s} is q = expr_view ws i x at s is q.expr q.rest q.enc

  pub tree_step : TreeStands ws i → ((k : ℕ) → x ≡ Name k → ⊥) → ((k : ℕ) → x ≡ Input k → ⊥) → ((a : ℕ) → x ≡ Constant a → ⊥) → ((m : ℕ) → x ≡ Count m → ⊥) → ((k : Unary) → x ≡ Each k → ⊥) → ((k : Binary) → x ≡ Both k → ⊥) → (x ≡ Choose → ⊥) → ⊥
  tree_step q not-name not-input not-constant not-count not-each not-both not-choose = go (view refl q) refl q.tree
    where
      go : {e : Expr ℕ} {s : Step} → View q.rest (steps_from ws (i + 1)) e s → x ≡ s → Fusable e → ⊥
      go (is_name p) h l = not-name _ h
      go (is_input p) h l = not-input _ h
      go (is_constant p) h l = not-constant _ h
      go (is_count p) h l = not-count _ h
      go (is_each p) h l = not-each _ h
      go (is_both p) h l = not-both _ h
      go (is_choose p) h l = not-choose h
      go (is_fold p) h l = l
      go (is_scan p) h l = l
      go (is_shape p) h l = l
      go (is_turn p) h l = l
      go (is_part p) h l = l
      go (is_join p) h l = l
      go (is_rows p) h l = l

  -- operands
  pub tree_each : {op : Unary} → x ≡ Each op → TreeStands ws i → TreeStands ws (i + 1)
  tree_each {op} is q = go (view is q) q.tree
    where
      go : {e : Expr ℕ} → View q.rest (steps_from ws (i + 1)) e (Each op) → Fusable e → TreeStands ws (i + 1)
      go (is_each p) l = record { expr = _; rest = _; enc = p; tree = l }

  pub tree_left : {op : Binary} → x ≡ Both op → TreeStands ws i → TreeStands ws (i + 1)
  tree_left {op} is q = go (view is q) q.tree
    where
      go : {e : Expr ℕ} → View q.rest (steps_from ws (i + 1)) e (Both op) → Fusable e → TreeStands ws (i + 1)
      go (is_both p) l = record { expr = _; rest = _; enc = p; tree = l.0 }

  pub tree_right : {op : Binary} {j : ℕ} → x ≡ Both op → Skips ws (i + 1) j → TreeStands ws i → TreeStands ws j
  tree_right {op} {j} is s q = go (view is q) q.tree
    where
      go : {e : Expr ℕ} → View q.rest (steps_from ws (i + 1)) e (Both op) → Fusable e → TreeStands ws j
      go (is_both p) l = record { expr = _; rest = _; enc = s.on _ _ p; tree = l.1 }

  pub tree_first : x ≡ Choose → TreeStands ws i → TreeStands ws (i + 1)
  tree_first is q = go (view is q) q.tree
    where
      go : {e : Expr ℕ} → View q.rest (steps_from ws (i + 1)) e Choose → Fusable e → TreeStands ws (i + 1)
      go (is_choose p) l = record { expr = _; rest = _; enc = p; tree = l.0 }

  pub tree_second : {j : ℕ} → x ≡ Choose → Skips ws (i + 1) j → TreeStands ws i → TreeStands ws j
  tree_second {j} is s q = go (view is q) q.tree
    where
      go : {e : Expr ℕ} → View q.rest (steps_from ws (i + 1)) e Choose → Fusable e → TreeStands ws j
      go (is_choose p) l = record { expr = _; rest = _; enc = s.on _ _ p; tree = l.1 }

  pub tree_third : {j k : ℕ} → x ≡ Choose → Skips ws (i + 1) j → Skips ws j k → TreeStands ws i → TreeStands ws k
  tree_third {j} {k} is s t q = go (view is q) q.tree
    where
      go : {e : Expr ℕ} → View q.rest (steps_from ws (i + 1)) e Choose → Fusable e → TreeStands ws k
      go (is_choose p) l = record { expr = _; rest = _; enc = t.on _ _ (s.on _ _ p); tree = l.2 }

  -- costs
  pub costs_name : {k : ℕ} → x ≡ Name k → TreeStands ws i → Skips ws i (i + 1) → Costs ws i (record { next = i + 1; blocks = 0 })
  unfolding blocks
  costs_name {k} is q s = costs_from q s (λ e r h. go (expr_view ws i x at (Name k) is e r h))
    where
      go : {e : Expr ℕ} {r : List Step} → View r (steps_from ws (i + 1)) e (Name k) → 0 ≡ blocks e
      go (is_name p) = refl

  pub costs_input : {k : ℕ} → x ≡ Input k → TreeStands ws i → Skips ws i (i + 1) → Costs ws i (record { next = i + 1; blocks = 0 })
  unfolding blocks
  costs_input {k} is q s = costs_from q s (λ e r h. go (expr_view ws i x at (Input k) is e r h))
    where
      go : {e : Expr ℕ} {r : List Step} → View r (steps_from ws (i + 1)) e (Input k) → 0 ≡ blocks e
      go (is_input p) = refl

  pub costs_constant : {a : ℕ} → x ≡ Constant a → TreeStands ws i → Skips ws i (i + 1) → Costs ws i (record { next = i + 1; blocks = 0 })
  unfolding blocks
  costs_constant {a} is q s = costs_from q s (λ e r h. go (expr_view ws i x at (Constant a) is e r h))
    where
      go : {e : Expr ℕ} {r : List Step} → View r (steps_from ws (i + 1)) e (Constant a) → 0 ≡ blocks e
      go (is_constant p) = refl

  pub costs_count : {m : ℕ} → x ≡ Count m → TreeStands ws i → Skips ws i (i + 1) → Costs ws i (record { next = i + 1; blocks = 0 })
  unfolding blocks
  costs_count {m} is q s = costs_from q s (λ e r h. go (expr_view ws i x at (Count m) is e r h))
    where
      go : {e : Expr ℕ} {r : List Step} → View r (steps_from ws (i + 1)) e (Count m) → 0 ≡ blocks e
      go (is_count p) = refl

  pub costs_each : {op : Unary} {c : Cost} → x ≡ Each op → TreeStands ws i → Costs ws (i + 1) c → Costs ws i c
  unfolding blocks
  costs_each {op} {c} is q a = costs_from q (skips_each at is a.skips) (λ e r h. go (expr_view ws i x at (Each op) is e r h))
    where
      go : {e : Expr ℕ} {r : List Step} → View r (steps_from ws (i + 1)) e (Each op) → c.blocks ≡ blocks e
      go (is_each p) = a.needs _ _ p

  pub costs_both : {op : Binary} {c d : Cost} {n : ℕ} → x ≡ Both op → TreeStands ws i → Costs ws (i + 1) c → Costs ws c.next d → n ≡ max c.blocks (1 + d.blocks) → Costs ws i (record { next = d.next; blocks = n })
  unfolding blocks
  costs_both {op} {c} {d} {n} is q a b m = costs_from q (skips_both at is a.skips b.skips) (λ e r h. go (expr_view ws i x at (Both op) is e r h))
    where
      go : {e : Expr ℕ} {r : List Step} → View r (steps_from ws (i + 1)) e (Both op) → n ≡ blocks e
      go (is_both p) = m ∙ ap₂ (λ u v. max u (1 + v)) (a.needs _ _ p) (b.needs _ _ (a.skips.on _ _ p))

  pub costs_choose : {c d f : Cost} {n : ℕ} → x ≡ Choose → TreeStands ws i → Costs ws (i + 1) c → Costs ws c.next d → Costs ws d.next f → n ≡ max c.blocks (max (1 + d.blocks) (2 + f.blocks)) → Costs ws i (record { next = f.next; blocks = n })
  unfolding blocks
  costs_choose {c} {d} {f} {n} is q a b g m =
      costs_from q (skips_choose at is a.skips b.skips g.skips) (λ e r h. go (expr_view ws i x at Choose is e r h))
    where
      go : {e : Expr ℕ} {r : List Step} → View r (steps_from ws (i + 1)) e Choose → n ≡ blocks e
      go (is_choose {e = y} {f = z} p) =
          let second = a.skips.on _ _ p in
          m ∙ (ap₂ (λ u v. max u (max (1 + v) (2 + f.blocks))) (a.needs _ _ p) (b.needs _ _ second) ∙ ap (λ v. max (blocks y) (max (1 + blocks z) (2 + v))) (g.needs _ _ (b.skips.on _ _ second)))
