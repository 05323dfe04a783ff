-- The number that a tree of operations has at a place of its result, from the numbers of its leaves at that place: no array on the way.
use Rattle.std.specs.Prelude.{◌≡◌, ℕ, List, [], ◌∷◌, slice_index, slice_index_or}
use Rattle.semantics.specs.Shapes.{pick, In}
use Rattle.semantics.specs.Broadcast.{narrow}
use Rattle.semantics.specs.Arrays.{Array}
use Rattle.semantics.specs.Values.{Expr, name, input, constant, count, each, both, choose, fold, scan, shape_to, turn, part, join, rows, Cell, none, some, Sizes, val, given, value}
use Rattle.semantics.proofs.Inside.{Spreads}
use Rattle.numbers.specs.Operations.{binary64}
use Rattle.numbers.specs.Patterns.{Pattern}

-- what a name or an input has at a place of a shape that it is broadcast to
unfoldable pub cell_number : Cell ℕ → List ℕ → ℕ
unfolding narrow
cell_number none is = 0
cell_number (some a) is = a.at (narrow a.shape is)

unfoldable pub tree : List (Array ℕ) → List (Cell ℕ) → Expr ℕ → List ℕ → ℕ
unfolding cell_number given narrow
tree ins ns (name k) is = cell_number (slice_index_or ns k none) is
tree ins ns (input k) is = cell_number (given ins k) is
tree ins ns (constant x) is = x
tree ins ns (count m) is = binary64.of (slice_index (narrow (m ∷ []) is) 0)
tree ins ns (each k e) is = binary64.one k (tree ins ns e is)
tree ins ns (both k e f) is = binary64.two k (tree ins ns e is) (tree ins ns f is)
tree ins ns (choose e f g) is = pick (binary64.truth (tree ins ns e is)) (tree ins ns f is) (tree ins ns g is)
tree ins ns (fold k x e) is = 0
tree ins ns (scan k x e) is = 0
tree ins ns (shape_to t e) is = 0
tree ins ns (turn os e) is = 0
tree ins ns (part ps e) is = 0
tree ins ns (join x e f) is = 0
tree ins ns (rows e f) is = 0

-- a tree of operations number by number over leaves
abbrev pub Fusable : Expr ℕ → Type 0
Fusable (name k) = Unit {0}
Fusable (input k) = Unit {0}
Fusable (constant x) = Unit {0}
Fusable (count m) = Unit {0}
Fusable (each k e) = Fusable e
Fusable (both k e f) = Fusable e × Fusable f
Fusable (choose e f g) = Fusable e × Fusable f × Fusable g
Fusable (fold k x e) = ⊥
Fusable (scan k x e) = ⊥
Fusable (shape_to t e) = ⊥
Fusable (turn os e) = ⊥
Fusable (part ps e) = ⊥
Fusable (join x e f) = ⊥
Fusable (rows e f) = ⊥

-- an array whose numbers are patterns, and that is broadcast to w
pub record Leaf (w : List ℕ) (a : Array ℕ) : Type 0 where
  pub spreads : Spreads a.shape w
  pub plain : (is : List ℕ) → In a.shape is → Pattern (a.at is)

pub data CellLeaf (w : List ℕ) : Cell ℕ → Type 0 where
  leaf : {a : Array ℕ} → Leaf w a → CellLeaf w (some a)

-- the leaves of a tree are there, and are broadcast to w
abbrev pub Leaves : List (Array ℕ) → List (Cell ℕ) → List ℕ → Expr ℕ → Type 0
Leaves ins ns w (name k) = CellLeaf w (slice_index_or ns k none)
Leaves ins ns w (input k) = CellLeaf w (given ins k)
Leaves ins ns w (constant x) = Pattern x
Leaves ins ns w (count m) = Spreads (m ∷ []) w
Leaves ins ns w (each k e) = Leaves ins ns w e
Leaves ins ns w (both k e f) = Leaves ins ns w e × Leaves ins ns w f
Leaves ins ns w (choose e f g) = Leaves ins ns w e × Leaves ins ns w f × Leaves ins ns w g
Leaves ins ns w (fold k x e) = ⊥
Leaves ins ns w (scan k x e) = ⊥
Leaves ins ns w (shape_to t e) = ⊥
Leaves ins ns w (turn os e) = ⊥
Leaves ins ns w (part ps e) = ⊥
Leaves ins ns w (join x e f) = ⊥
Leaves ins ns w (rows e f) = ⊥

-- the numbers of constants, names and inputs are patterns
pub record Plain (ins : List (Array ℕ)) (ns : List (Cell ℕ)) : Type 0 where
  pub inputs : (k : ℕ) (a : Array ℕ) → given ins k ≡ some a → (is : List ℕ) → In a.shape is → Pattern (a.at is)
  pub names : (k : ℕ) (a : Array ℕ) → slice_index_or ns k none ≡ some a → (is : List ℕ) → In a.shape is → Pattern (a.at is)

abbrev pub PlainConstants : Expr ℕ → Type 0
PlainConstants (name k) = Unit {0}
PlainConstants (input k) = Unit {0}
PlainConstants (constant x) = Pattern x
PlainConstants (count m) = Unit {0}
PlainConstants (each k e) = PlainConstants e
PlainConstants (both k e f) = PlainConstants e × PlainConstants f
PlainConstants (choose e f g) = PlainConstants e × PlainConstants f × PlainConstants g
PlainConstants (fold k x e) = PlainConstants e
PlainConstants (scan k x e) = PlainConstants e
PlainConstants (shape_to t e) = PlainConstants e
PlainConstants (turn os e) = PlainConstants e
PlainConstants (part ps e) = PlainConstants e
PlainConstants (join x e f) = PlainConstants e × PlainConstants f
PlainConstants (rows e f) = PlainConstants e × PlainConstants f

-- what a tree comes to has the tree's numbers: as it is broadcast to w, and at its own places
pub record Fused (ins : List (Array ℕ)) (ns : List (Cell ℕ)) (e : Expr ℕ) (a : Array ℕ) : Type 0 where
  pub wide : (w is : List ℕ) → Spreads a.shape w → In w is → a.at (narrow a.shape is) ≡ tree ins ns e is
  pub own : (is : List ℕ) → In a.shape is → a.at is ≡ tree ins ns e is
  pub leaves : (w : List ℕ) → Spreads a.shape w → Plain ins ns → PlainConstants e → Leaves ins ns w e

abbrev pub TreesFuse : Type 0
TreesFuse = (s : Sizes) (ins : List (Array ℕ)) (ns : List (Cell ℕ)) (n : ℕ) (e : Expr ℕ) (a : Array ℕ) (c : ℕ) → Fusable e → value s binary64 ins ns n e ≡ val a c → Fused ins ns e a
