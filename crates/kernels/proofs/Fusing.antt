-- What a tree comes to, place by place.
use Rattle.std.proofs.Common.{◌≡◌, ℕ, ◌+◌, ◌-◌, Bool, true, false, ◌&&◌, leb, List, get_or, sym, refl, ap, ◌∙◌, subst, ap₂, arith}
use Rattle.std.proofs.lemmas.Bool.{and_parts}
use Rattle.semantics.specs.declared.operation.Unary.{Unary}
use Rattle.semantics.specs.declared.operation.Binary.{Binary}
use Rattle.semantics.specs.Shapes.{pick, size}
use Rattle.semantics.specs.Broadcast.{fit, wide, narrow}
use Rattle.semantics.specs.Arrays.{Array, constant_array, count_array, each_array, both_array, choose_array}
use Rattle.semantics.specs.Values.{Expr, name, input, constant, count, each, both, choose, fold, scan, shape_to, turn, part, join, rows, Cell, none, some, Sizes, Value, fault, val, given, value, then, made, held, on_each, on_both, on_choose}
use Rattle.semantics.proofs.Places.{Inside, inside_in, length_inside}
use Rattle.semantics.proofs.Inside.{Spreads, spreads_left, spreads_right, spreads_left_left, spreads_right_left}
use Rattle.numbers.specs.Operations.{binary64}
use Rattle.kernels.specs.Trees.{cell_number, tree, Fusable, CellLeaf, leaf, Leaves, Plain, PlainConstants, TreesFuse}
use Rattle.kernels.proofs.Narrowing.{spreads_refl, spreads_trans, spreads_few, narrow_narrow, narrow_own}

-- an array that was made is the one that it was made of
record Then {Num : Type 0} (v : Value Num) (f : Array Num → ℕ → Value Num) (r : Value Num) : Type 0 where
  array : Array Num
  places : ℕ
  first : v ≡ val array places
  next : f array places ≡ r

no_fault : {Num : Type 0} {n : ℕ} {a : Array Num} {c : ℕ} → fault n ≡ val a c → ⊥
no_fault e = let z : ◌≡◌ {A = ℕ} 0 1 = cc in omega arith

then_val : {Num : Type 0} (v : Value Num) (f : Array Num → ℕ → Value Num) {a : Array Num} {c : ℕ} → then v f ≡ val a c → Then v f (val a c)
unfolding then
then_val (fault n) f e = absurd (no_fault e)
then_val (val b d) f e = record { array = b; places = d; first = refl; next = e }

made_val : {Num : Type 0} (n d : ℕ) (b : Array Num) {a : Array Num} {c : ℕ} → made n d b ≡ val a c → b ≡ a
unfolding made
made_val n d b {a} {c} e = go (leb (d + size b.shape) n) e
  where
    go : (t : Bool) → pick t (val b (d + size b.shape)) (fault 5) ≡ val a c → b ≡ a
    go true h = cc
    go false h = absurd (no_fault h)

record Held {Num : Type 0} (cell : Cell Num) (a : Array Num) : Type 0 where
  is : cell ≡ some a

held_val : {Num : Type 0} (n : ℕ) (cell : Cell Num) {a : Array Num} {c : ℕ} → held n cell ≡ val a c → Held cell a
unfolding held
held_val n none e = absurd (no_fault e)
held_val n (some b) e = record { is = ap some (made_val n 0 b e) }

picked : {Num : Type 0} (t : Bool) (v : Value Num) (n : ℕ) {a : Array Num} {c : ℕ} → pick t v (fault n) ≡ val a c → (t ≡ true) × (v ≡ val a c)
picked true v n e = (refl, e)
picked false v n e = absurd (no_fault e)

module _ (ins : List (Array ℕ)) (ns : List (Cell ℕ)) where
  -- a tree's array has the tree's numbers, wherever it is broadcast to, and so are its leaves
  record Tree (e : Expr ℕ) (a : Array ℕ) : Type 0 where
    numbers : (w is : List ℕ) → Spreads a.shape w → Inside w is → a.at (narrow a.shape is) ≡ tree ins ns e is
    leaves : (w : List ℕ) → Spreads a.shape w → Plain ins ns → PlainConstants e → Leaves ins ns w e

  name_tree : (k : ℕ) (a : Array ℕ) → get_or ns k none ≡ some a → Tree (name k) a
  unfolding tree cell_number
  name_tree k a e =
      record {
        numbers = λ w is p h. sym (ap (λ x. cell_number x is) e);
        leaves = λ w p plain c. subst (CellLeaf w) (sym e) (leaf (record { spreads = p; plain = plain.names k a e }));
      }

  input_tree : (k : ℕ) (a : Array ℕ) → given ins k ≡ some a → Tree (input k) a
  unfolding tree cell_number
  input_tree k a e =
      record {
        numbers = λ w is p h. sym (ap (λ x. cell_number x is) e);
        leaves = λ w p plain c. subst (CellLeaf w) (sym e) (leaf (record { spreads = p; plain = plain.inputs k a e }));
      }

  constant_tree : (x : ℕ) → Tree (constant x) (constant_array x)
  unfolding tree constant_array
  constant_tree x = record { numbers = λ w is p h. refl; leaves = λ w p plain c. c }

  count_tree : (m : ℕ) → Tree (count m) (count_array binary64 m)
  unfolding tree count_array
  count_tree m = record { numbers = λ w is p h. refl; leaves = λ w p plain c. p }

  each_tree : (k : Unary) (e : Expr ℕ) (a : Array ℕ) → Tree e a → Tree (each k e) (each_array binary64 k a)
  unfolding tree each_array
  each_tree k e a t =
      record { numbers = λ w is p h. ap (binary64.one k) (t.numbers w is p h); leaves = λ w p plain c. t.leaves w p plain c }

  -- an operand's number, where the result is broadcast
  operand : (e : Expr ℕ) (a : Array ℕ) (s w is : List ℕ) → Tree e a → Spreads a.shape s → Spreads s w → Inside w is → a.at (narrow a.shape (narrow s is)) ≡ tree ins ns e is
  operand e a s w is t p q h =
      ap a.at (narrow_narrow is p (omega (arith, spreads_few q, length_inside h))) ∙ t.numbers w is (spreads_trans p q) h

  both_tree : (k : Binary) (e f : Expr ℕ) (a b : Array ℕ) → fit a.shape b.shape ≡ true → Tree e a → Tree f b → Tree (both k e f) (both_array binary64 k a b)
  unfolding tree both_array
  both_tree k e f a b fits t u =
      let s = wide a.shape b.shape in
      let p = spreads_left a.shape b.shape in
      let q = spreads_right a.shape b.shape fits in
      record {
        numbers = λ w is r h. ap₂ (binary64.two k) (operand e a s w is t p r h) (operand f b s w is u q r h);
        leaves = λ w r plain c. (t.leaves w (spreads_trans p r) plain c.0, u.leaves w (spreads_trans q r) plain c.1);
      }

  choose_tree : (e f g : Expr ℕ) (a b d : Array ℕ) → fit a.shape b.shape ≡ true → fit (wide a.shape b.shape) d.shape ≡ true →
      Tree e a → Tree f b → Tree g d → Tree (choose e f g) (choose_array binary64 a b d)
  unfolding tree choose_array
  choose_tree e f g a b d fits more t u v =
      let s = wide (wide a.shape b.shape) d.shape in
      let p = spreads_left_left a.shape b.shape d.shape in
      let q = spreads_right_left a.shape b.shape d.shape fits in
      let o = spreads_right (wide a.shape b.shape) d.shape more in
      record {
        numbers = λ w is r h.
            ap (λ x. pick (binary64.truth x) (b.at (narrow b.shape (narrow s is))) (d.at (narrow d.shape (narrow s is)))) (operand e a s w is t p r h)
            ∙ ap₂ (λ x y. pick (binary64.truth (tree ins ns e is)) x y) (operand f b s w is u q r h) (operand g d s w is v o r h);
        leaves = λ w r plain c. (t.leaves w (spreads_trans p r) plain c.0, u.leaves w (spreads_trans q r) plain c.1, v.leaves w (spreads_trans o r) plain c.2);
      }

  module _ (s : Sizes) where
    tree_value : (n : ℕ) (e : Expr ℕ) (a : Array ℕ) (c : ℕ) → Fusable e → value s binary64 ins ns n e ≡ val a c → Tree e a
    unfolding value on_each on_both on_choose
    tree_value n (name k) a c f h = name_tree k a (held_val n (get_or ns k none) h).is
    tree_value n (input k) a c f h = input_tree k a (held_val n (given ins k) h).is
    tree_value n (constant x) a c f h = subst (Tree (constant x)) (made_val n 0 (constant_array x) h) (constant_tree x)
    tree_value n (count m) a c f h = subst (Tree (count m)) (made_val n 0 (count_array binary64 m) h) (count_tree m)
    tree_value n (each k e) a c f h =
        let r = then_val (value s binary64 ins ns n e) (λ a c. on_each binary64 k n a c) h in
        subst (Tree (each k e)) (made_val n r.places (each_array binary64 k r.array) r.next) (each_tree k e r.array (tree_value n e r.array r.places f r.first))
    tree_value n (both k e f) a c (l, m) h =
        let r = then_val (value s binary64 ins ns n e) (λ a c. then (value s binary64 ins ns (n - c) f) (λ b d. on_both binary64 k n a b (c + d))) h in
        let q = then_val (value s binary64 ins ns (n - r.places) f) (λ b d. on_both binary64 k n r.array b (r.places + d)) r.next in
        let x = r.array in
        let y = q.array in
        let p = picked (fit x.shape y.shape) (made n (r.places + q.places) (both_array binary64 k x y)) 1 q.next in
        subst (Tree (both k e f)) (made_val n (r.places + q.places) (both_array binary64 k x y) p.1)
        (both_tree k e f x y p.0 (tree_value n e x r.places l r.first) (tree_value (n - r.places) f y q.places m q.first))
    tree_value n (choose e f g) a c (l, m, o) h =
        let r = then_val (value s binary64 ins ns n e) (λ a c. then (value s binary64 ins ns (n - c) f) (λ b d. then (value s binary64 ins ns (n - c - d) g) (λ h i. on_choose binary64 n a b h (c + d + i)))) h in
        let q = then_val (value s binary64 ins ns (n - r.places) f) (λ b d. then (value s binary64 ins ns (n - r.places - d) g) (λ h i. on_choose binary64 n r.array b h (r.places + d + i))) r.next in
        let t = then_val (value s binary64 ins ns (n - r.places - q.places) g) (λ h i. on_choose binary64 n r.array q.array h (r.places + q.places + i)) q.next in
        let x = r.array in
        let y = q.array in
        let z = t.array in
        let many = r.places + q.places + t.places in
        let p = picked (fit x.shape y.shape && fit (wide x.shape y.shape) z.shape) (made n many (choose_array binary64 x y z)) 1 t.next in
        let b = and_parts (fit x.shape y.shape) (fit (wide x.shape y.shape) z.shape) p.0 in
        subst (Tree (choose e f g)) (made_val n many (choose_array binary64 x y z) p.1)
        (choose_tree e f g x y z b.0 b.1 (tree_value n e x r.places l r.first) (tree_value (n - r.places) f y q.places m q.first) (tree_value (n - r.places - q.places) g z t.places o t.first))
    tree_value n (fold k x e) a c f h = absurd f
    tree_value n (scan k x e) a c f h = absurd f
    tree_value n (shape_to t e) a c f h = absurd f
    tree_value n (turn os e) a c f h = absurd f
    tree_value n (part ps e) a c f h = absurd f
    tree_value n (join x e g) a c f h = absurd f
    tree_value n (rows e g) a c f h = absurd f

pub trees_fuse : TreesFuse
trees_fuse s ins ns n e a c f h =
    let t = tree_value ins ns s n e a c f h in
    record {
      wide = λ w is p i. t.numbers w is p (inside_in w is i);
      own = λ is i.
          let j = inside_in a.shape is i in
          ap a.at (sym (narrow_own j)) ∙ t.numbers a.shape is (spreads_refl a.shape) j;
      leaves = t.leaves;
    }
