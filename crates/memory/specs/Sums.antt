-- Sums over the slots of a table.
use Rattle.std.specs.Prelude.{ℕ, ◌+◌, List, [], ◌∷◌, Option}
use Rattle.views.specs.declared.view.View.{View}

unfoldable pub sum_of : (Option View → ℕ) → List (Option View) → ℕ
sum_of f [] = 0
sum_of f (s ∷ ss) = f s + sum_of f ss
