-- What is needed to fill a block with the numbers of a tree, and what the block then has.
use Rattle.std.specs.Prelude.{◌≡◌, ℕ, ◌+◌, ◌*◌, ◌<◌, ◌≤◌, max, List, length, take, drop, slice_index, slice_index_or, Float, Option, Some, None}
use Rattle.semantics.specs.Shapes.{size, unflat, up_to}
use Rattle.semantics.specs.Programs.{numbers_at}
use Rattle.encoding.specs.Words.{written}
use Rattle.encoding.specs.Writing.{number_bytes}
use Rattle.semantics.specs.Arrays.{Array}
use Rattle.semantics.specs.Values.{Expr, name, input, constant, count, each, both, choose, fold, scan, shape_to, turn, part, join, rows, Cell, none, some, given}
use Rattle.encoding.specs.Format.{inputs_of}
use Rattle.program.specs.declared.step.Step.{Step}
use Rattle.program.specs.Spelling.{spell}
use Rattle.program.specs.Standing.{steps_from, Skips}
use Rattle.views.specs.declared.view.View.{View}
use Rattle.views.specs.Views.{Holds}
use Rattle.kernels.specs.declared.cost.Cost.{Cost}
use Rattle.kernels.specs.Blocks.{StandFor}
use Rattle.kernels.specs.Trees.{tree, cell_number, CellLeaf, Leaves, Fusable}

-- a slot stands for what a name has
pub data SlotHolds (area bs : List ℕ) : Option View → Cell ℕ → Type 0 where
  empty : SlotHolds area bs None none
  held : {v : View} {a : Array ℕ} → Holds area bs v a → SlotHolds area bs (Some v) (some a)

pub record Tabled (area bs : List ℕ) (table : List (Option View)) (ns : List (Cell ℕ)) : Type 0 where
  pub each : (k : ℕ) → SlotHolds area bs (slice_index_or table k None) (slice_index_or ns k none)

-- name k, or input k, has numbers that are broadcast to w
pub record NameReady (table : List (Option View)) (area bs w : List ℕ) (k : ℕ) : Type 0 where
  pub names : List (Cell ℕ)
  pub tabled : Tabled area bs table names
  pub leaf : CellLeaf w (slice_index_or names k none)

pub record InputReady (bs w : List ℕ) (k : ℕ) : Type 0 where
  pub leaf : CellLeaf w (given (inputs_of bs) k)

-- a block has the numbers of a name or an input
pub record CellFilled (w : List ℕ) (first : ℕ) (out : List Float) (cell : Cell ℕ) : Type 0 where
  pub stand : StandFor out (λ k. cell_number cell (unflat w (first + k)))

-- at node i stands a tree whose leaves are there, and are broadcast to w
pub record Ready (ws : List ℕ) (i : ℕ) (table : List (Option View)) (area bs w : List ℕ) : Type 0 where
  pub names : List (Cell ℕ)
  pub tabled : Tabled area bs table names
  pub expr : Expr ℕ
  pub rest : List Step
  pub enc : steps_from ws i ≡ spell expr rest
  pub leaves : Leaves (inputs_of bs) names w expr

-- a block has the numbers of the tree at node i, from place `first` on
pub record Filled (ws : List ℕ) (i : ℕ) (table : List (Option View)) (area bs w : List ℕ) (first : ℕ) (out : List Float) : Type 0 where
  pub stand : (q : Ready ws i table area bs w) → StandFor out (λ k. tree (inputs_of bs) q.names q.expr (unflat w (first + k)))

-- how many blocks a tree needs besides its own
unfoldable pub blocks : Expr ℕ → ℕ
blocks (name k) = 0
blocks (input k) = 0
blocks (constant x) = 0
blocks (count m) = 0
blocks (each k e) = blocks e
blocks (both k e f) = max (blocks e) (1 + blocks f)
blocks (choose e f g) = max (blocks e) (max (1 + blocks f) (2 + blocks g))
blocks (fold k x e) = 0
blocks (scan k x e) = 0
blocks (shape_to t e) = 0
blocks (turn os e) = 0
blocks (part ps e) = 0
blocks (join x e f) = 0
blocks (rows e f) = 0

-- a tree that is ready, with room for its blocks of so many numbers in a spare slice
pub record Able (ws : List ℕ) (i : ℕ) (table : List (Option View)) (area bs w : List ℕ) (many spare : ℕ) : Type 0 where
  pub ready : Ready ws i table area bs w
  pub room : blocks ready.expr * many ≤ spare

-- a tree stands at node i
pub record TreeStands (ws : List ℕ) (i : ℕ) : Type 0 where
  pub expr : Expr ℕ
  pub rest : List Step
  pub enc : steps_from ws i ≡ spell expr rest
  pub tree : Fusable expr

-- the node behind the tree at node i, and how many blocks the tree needs
pub record Costs (ws : List ℕ) (i : ℕ) (r : Cost) : Type 0 where
  pub skips : Skips ws i r.next
  pub few : r.blocks ≤ length ws
  pub needs : (e : Expr ℕ) (q : List Step) → steps_from ws i ≡ spell e q → r.blocks ≡ blocks e

-- a tree whose blocks fit the spare slice, if each has a single number
pub record Shallow (ws : List ℕ) (i : ℕ) : Type 0 where
  pub few : (e : Expr ℕ) (r : List Step) → steps_from ws i ≡ spell e r → blocks e ≤ 4096

-- so many numbers of a tree, from place `first` on, stand at their words; all other words are as they were
pub record PartStored (ws : List ℕ) (i : ℕ) (table : List (Option View)) (bs w : List ℕ) (to first many : ℕ) (old new : List ℕ) : Type 0 where
  pub before : take (to + first) new ≡ take (to + first) old
  pub behind : drop (to + first + many) new ≡ drop (to + first + many) old
  pub each : (q : Ready ws i table (take to old) bs w) (n : ℕ) → n < many → slice_index new (to + first + n) ≡ tree (inputs_of bs) q.names q.expr (unflat w (first + n))

-- the numbers of a tree stand rows first from word `to` on; all other words are as they were
pub record Stored (ws : List ℕ) (i : ℕ) (table : List (Option View)) (bs w : List ℕ) (to : ℕ) (old new : List ℕ) : Type 0 where
  pub before : take to new ≡ take to old
  pub behind : drop (to + size w) new ≡ drop (to + size w) old
  pub each : (q : Ready ws i table (take to old) bs w) (n : ℕ) → n < size w → slice_index new (to + n) ≡ tree (inputs_of bs) q.names q.expr (unflat w n)

-- what a tree comes to, as an array
unfoldable pub tree_array : List (Array ℕ) → List (Cell ℕ) → Expr ℕ → List ℕ → Array ℕ
unfolding tree
tree_array ins ns e w = record { shape = w; at = λ is. tree ins ns e is }

-- so many numbers of a tree, from place `first` on, stand as bytes behind those before them; all other bytes are as they were
pub record BlockShown (ws : List ℕ) (i : ℕ) (table : List (Option View)) (area bs w : List ℕ) (first index many : ℕ) (old new : List ℕ) : Type 0 where
  pub list : List ℕ
  pub long : length list ≡ many
  pub bytes : new ≡ written old (index + 8 * first) (number_bytes list)
  pub each : (q : Ready ws i table area bs w) (n : ℕ) → n < length list → slice_index list n ≡ tree (inputs_of bs) q.names q.expr (unflat w (first + n))

-- the first so many numbers of a tree stand as bytes at an index; all other bytes are as they were
pub record Shown (ws : List ℕ) (i : ℕ) (table : List (Option View)) (area bs w : List ℕ) (index many : ℕ) (old new : List ℕ) : Type 0 where
  pub shown : (q : Ready ws i table area bs w) → new ≡ written old index (number_bytes (numbers_at (tree_array (inputs_of bs) q.names q.expr w) (up_to 0 many)))
