-- A program of few steps has only trees whose blocks fit the spare slice.
use Rattle.std.proofs.Common.{ℕ, ◌≤◌, List, length, ap, arith, length-drop}
use Rattle.semantics.specs.Values.{Expr, name, input, constant, count, each, both, choose, fold, scan, shape_to, turn, part, join, rows}
use Rattle.program.specs.Marks.{marks}
use Rattle.program.specs.Words.{steps_in}
use Rattle.program.specs.Standing.{steps_from}
use Rattle.program.proofs.Lengths.{length_spell, marks_some}
use Rattle.kernels.specs.Filling.{blocks, Shallow}

-- a tree needs no more blocks than it has marks
pub blocks_marks : (e : Expr ℕ) → blocks e ≤ marks e
unfolding blocks marks
blocks_marks (name k) = omega arith
blocks_marks (input k) = omega arith
blocks_marks (constant x) = omega arith
blocks_marks (count m) = omega arith
blocks_marks (each k e) = omega (arith, blocks_marks e)
blocks_marks (both k e f) = omega (arith, blocks_marks e, blocks_marks f)
blocks_marks (choose e f g) = omega (arith, blocks_marks e, blocks_marks f, blocks_marks g, marks_some e)
blocks_marks (fold k x e) = omega arith
blocks_marks (scan k x e) = omega arith
blocks_marks (shape_to t e) = omega arith
blocks_marks (turn os e) = omega arith
blocks_marks (part ps e) = omega arith
blocks_marks (join x e f) = omega arith
blocks_marks (rows e f) = omega arith

pub few_steps_shallow : (ws : List ℕ) (i : ℕ) → length (steps_in ws) ≤ 4096 → Shallow ws i
unfolding steps_from
few_steps_shallow ws i few =
    record { few = λ e r enc. omega (arith, blocks_marks e, length_spell e r, ap length enc, length-drop i (steps_in ws)) }
