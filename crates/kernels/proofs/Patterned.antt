-- The numbers of a tree whose leaves are there are patterns.
use Rattle.std.proofs.Common.{ℕ, List}
use Rattle.semantics.specs.Arrays.{Array}
use Rattle.semantics.specs.Values.{Expr, name, input, constant, count, each, both, choose, fold, scan, shape_to, turn, part, join, rows, Cell}
use Rattle.semantics.proofs.Places.{Inside, in_inside}
use Rattle.semantics.proofs.Inside.{inside_narrow}
use Rattle.semantics.proofs.Picks.{pick_both}
use Rattle.numbers.specs.Patterns.{Pattern}
use Rattle.numbers.proofs.Written.{one_pattern, two_pattern, of_pattern}
use Rattle.kernels.specs.Trees.{tree, cell_number, CellLeaf, leaf, Leaves}

cell_pattern : {w is : List ℕ} {cell : Cell ℕ} → CellLeaf w cell → Inside w is → Pattern (cell_number cell is)
unfolding cell_number
cell_pattern (leaf l) h = l.plain _ (in_inside (inside_narrow l.spreads h))

pub tree_pattern : (ins : List (Array ℕ)) (ns : List (Cell ℕ)) {w is : List ℕ} (e : Expr ℕ) → Leaves ins ns w e → Inside w is → Pattern (tree ins ns e is)
unfolding tree
tree_pattern ins ns (name k) l h = cell_pattern l h
tree_pattern ins ns (input k) l h = cell_pattern l h
tree_pattern ins ns (constant x) l h = l
tree_pattern ins ns (count m) l h = of_pattern _
tree_pattern ins ns (each k e) l h = one_pattern k _
tree_pattern ins ns (both k e f) l h = two_pattern k _ _
tree_pattern ins ns (choose e f g) l h = pick_both Pattern _ (tree_pattern ins ns f l.1 h) (tree_pattern ins ns g l.2 h)
tree_pattern ins ns (fold k x e) l h = absurd l
tree_pattern ins ns (scan k x e) l h = absurd l
tree_pattern ins ns (shape_to t e) l h = absurd l
tree_pattern ins ns (turn os e) l h = absurd l
tree_pattern ins ns (part ps e) l h = absurd l
tree_pattern ins ns (join x e f) l h = absurd l
tree_pattern ins ns (rows e f) l h = absurd l
