-- An expression that was planned is a tree whose leaves are there: its loop has the numbers of the value that it comes to.
use Rattle.std.proofs.Common.{◌≡◌, ℕ, zero, suc, ◌+◌, ◌<◌, List, drop, sym, ap, ◌∙◌, subst, arith, Option}
use Rattle.semantics.specs.Shapes.{size, In, unflat, up_to}
use Rattle.semantics.specs.Arrays.{Array}
use Rattle.semantics.specs.Values.{Expr, name, input, constant, count, each, both, choose, fold, scan, shape_to, turn, part, join, rows, Cell, val, value}
use Rattle.semantics.specs.Programs.{numbers_at, listed}
use Rattle.semantics.proofs.Places.{inside_in, in_inside, inside_unflat}
use Rattle.semantics.proofs.Listings.{length_numbers_at, get_d_numbers_at, numbers_at_is}
use Rattle.numbers.specs.Operations.{binary64}
use Rattle.numbers.specs.Patterns.{Pattern}
use Rattle.encoding.specs.Format.{inputs_of}
use Rattle.program.specs.declared.step.Step.{Step}
use Rattle.program.specs.Spelling.{spell}
use Rattle.program.specs.Words.{steps_in}
use Rattle.program.specs.Standing.{steps_from}
use Rattle.views.specs.declared.view.View.{View}
use Rattle.kernels.specs.Trees.{Fusable, tree, Leaves, PlainConstants, Fused}
use Rattle.kernels.specs.Filling.{Ready, tree_array}
use Rattle.kernels.proofs.Fusing.{trees_fuse}
use Rattle.kernels.proofs.Narrowing.{spreads_refl}
use Rattle.kernels.proofs.Patterned.{tree_pattern}
use Rattle.runtime.specs.Built.{AllBuilt}
use Rattle.runtime.specs.Planning.{sizes}
use Rattle.runtime.specs.States.{AllPlain, plain_none, plain_more, Runnable, Stood}
use Rattle.runtime.proofs.Building.{tree_built, built_from}

plain_drop : (n : ℕ) {l : List Step} → AllPlain l → AllPlain (drop n l)
plain_drop zero h = h
plain_drop (suc n) plain_none = plain_none
plain_drop (suc n) (plain_more h t) = plain_drop n t

plain_from : (ws : List ℕ) (i : ℕ) → AllPlain (steps_in ws) → AllPlain (steps_from ws i)
unfolding steps_from
plain_from ws i h = plain_drop i h

record ConstantsPlain (e : Expr ℕ) (r : List Step) : Type 0 where
  constants : PlainConstants e
  rest : AllPlain r

constants_plain : (e : Expr ℕ) (r : List Step) → Fusable e → AllPlain (spell e r) → ConstantsPlain e r
unfolding spell
constants_plain (name k) r f (plain_more h t) = record { constants = tt; rest = t }
constants_plain (input k) r f (plain_more h t) = record { constants = tt; rest = t }
constants_plain (constant x) r f (plain_more h t) = record { constants = h; rest = t }
constants_plain (count m) r f (plain_more h t) = record { constants = tt; rest = t }
constants_plain (each k e) r f (plain_more h t) = let a = constants_plain e r f t in record { constants = a.constants; rest = a.rest }
constants_plain (both k e d) r f (plain_more h t) =
    let a = constants_plain e (spell d r) f.0 t in
    let b = constants_plain d r f.1 a.rest in
    record { constants = (a.constants, b.constants); rest = b.rest }
constants_plain (choose e d g) r f (plain_more h t) =
    let a = constants_plain e (spell d (spell g r)) f.0 t in
    let b = constants_plain d (spell g r) f.1 a.rest in
    let c = constants_plain g r f.2 b.rest in
    record { constants = (a.constants, b.constants, c.constants); rest = c.rest }
constants_plain (fold k x e) r f h = absurd f
constants_plain (scan k x e) r f h = absurd f
constants_plain (shape_to t e) r f h = absurd f
constants_plain (turn os e) r f h = absurd f
constants_plain (part ps e) r f h = absurd f
constants_plain (join x e d) r f h = absurd f
constants_plain (rows e d) r f h = absurd f

module _ (ws : List ℕ) (i : ℕ) (run : Runnable ws) (area bs : List ℕ) (table : List (Option View)) (ns : List (Cell ℕ)) (st : Stood area bs table ns)
    (e : Expr ℕ) (r : List Step) (enc : steps_from ws i ≡ spell e r) (p n : ℕ) (a : Array ℕ) (c : ℕ) (is : value (sizes p) binary64 (inputs_of bs) ns n e ≡ val a c) where
  fusable : Fusable e
  fusable = (tree_built e r (subst (λ l. AllBuilt l) enc (built_from ws i run.built))).tree

  fused : Fused (inputs_of bs) ns e a
  fused = trees_fuse (sizes p) (inputs_of bs) ns n e a c fusable is

  pub leaves : Leaves (inputs_of bs) ns a.shape e
  leaves =
      fused.leaves a.shape (spreads_refl a.shape) st.plain
      (constants_plain e r fusable (subst (λ l. AllPlain l) enc (plain_from ws i run.plain))).constants

  -- the loop can go
  unfoldable pub planned_ready : (w : List ℕ) → a.shape ≡ w → Ready ws i table area bs w
  planned_ready w s =
      record { names = ns; tabled = st.tabled; expr = e; rest = r; enc = enc; leaves = subst (λ u. Leaves (inputs_of bs) ns u e) s leaves }

  -- its numbers are the value's
  pub planned_number : (k : ℕ) → k < size a.shape → tree (inputs_of bs) ns e (unflat a.shape k) ≡ a.at (unflat a.shape k)
  planned_number k h = sym (fused.own (unflat a.shape k) (in_inside (inside_unflat a.shape k h)))

  pub planned_numbers : (w : List ℕ) → a.shape ≡ w → numbers_at (tree_array (inputs_of bs) ns e w) (up_to 0 (size w)) ≡ (listed a).numbers
  unfolding listed tree_array
  planned_numbers w s =
      subst (λ u. numbers_at (tree_array (inputs_of bs) ns e u) (up_to 0 (size u)) ≡ numbers_at a (up_to 0 (size a.shape))) s
      (numbers_at_is (tree_array (inputs_of bs) ns e a.shape) (numbers_at a (up_to 0 (size a.shape))) 0 (length_numbers_at a 0 (size a.shape))
      (λ k h.
      let low : k < size a.shape = omega (arith, length_numbers_at a 0 (size a.shape)) in
      get_d_numbers_at a 0 (size a.shape) k 0 low ∙ (ap (λ m. a.at (unflat a.shape m)) (zero_more k) ∙ sym (planned_number k low))))
    where
      zero_more : (k : ℕ) → 0 + k ≡ k
      zero_more k = omega arith

  -- they are patterns
  pub planned_plain : (is : List ℕ) → In a.shape is → Pattern (a.at is)
  planned_plain js h = subst Pattern (sym (fused.own js h)) (tree_pattern (inputs_of bs) ns e leaves (inside_in a.shape js h))
