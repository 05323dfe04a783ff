-- The automaton along the fixed pieces of a text: each by computing it.
use Rattle.std.proofs.Common.{◌≡◌, ℕ, suc, true, List, [], ◌∷◌, codes, refl}
use Rattle.semantics.specs.declared.operation.Unary.{Unary}
use Rattle.semantics.specs.declared.operation.Unary.TheVariants.{Neg, Abs, Sqrt, Floor, Not}
use Rattle.semantics.specs.declared.operation.Binary.{Binary}
use Rattle.semantics.specs.declared.operation.Binary.TheVariants.{Add, Sub, Mul, Div, Less, Same, Least, Most}
use Rattle.program.specs.Words.{sliced}
use Rattle.program.specs.declared.step.Step.{Step}
use Rattle.grammar.specs.Letters.{Letter, letter, begins, plain, plains, flagged}
use Rattle.grammar.specs.Words.{Word, unary_word, binary_word}
use Rattle.grammar.specs.Moves.{along_step}
use Rattle.grammar.specs.Automaton.{at}
use Rattle.grammar.specs.declared.symbol.Along.{Along}
use Rattle.grammar.specs.declared.symbol.Bracket.{Bracket}
use Rattle.grammar.specs.declared.symbol.Number.{Number}
use Rattle.grammar.specs.declared.symbol.Symbol.{Symbol}
use Rattle.grammar.proofs.Along.{along}

module _ (ns : List Word) (o : List Step) (s : List Symbol) (r : List Letter) where
  pub each_head : (k : Unary) → along (at ns o (Symbol.Expr ∷ s) [] 0) (flagged begins (unary_word k) (plain 40 ∷ r)) ≡ along (at ns (Step.Each k ∷ o) (Symbol.Expr ∷ Symbol.Operands 0 ∷ s) [] 0) r
  unfolding along flagged unary_word
  each_head Neg = refl
  each_head Abs = refl
  each_head Sqrt = refl
  each_head Floor = refl
  each_head Not = refl

  pub both_head : (k : Binary) → along (at ns o (Symbol.Expr ∷ s) [] 0) (flagged begins (binary_word k) (plain 40 ∷ r)) ≡ along (at ns (Step.Both k ∷ o) (Symbol.Expr ∷ Symbol.Operands 1 ∷ s) [] 0) r
  unfolding along flagged binary_word
  both_head Add = refl
  both_head Sub = refl
  both_head Mul = refl
  both_head Div = refl
  both_head Less = refl
  both_head Same = refl
  both_head Least = refl
  both_head Most = refl

  pub choose_head : along (at ns o (Symbol.Expr ∷ s) [] 0) (flagged begins (codes "choose(") r) ≡ along (at ns (Step.Choose ∷ o) (Symbol.Expr ∷ Symbol.Operands 2 ∷ s) [] 0) r
  unfolding along flagged
  choose_head = refl

  pub rows_head : along (at ns o (Symbol.Expr ∷ s) [] 0) (flagged begins (codes "rows(") r) ≡ along (at ns (Step.Rows ∷ o) (Symbol.Expr ∷ Symbol.Operands 1 ∷ s) [] 0) r
  unfolding along flagged
  rows_head = refl

  pub in_head : along (at ns o (Symbol.Expr ∷ s) [] 0) (flagged begins (codes "in ") r) ≡ along (at ns o (Symbol.Number Number.Input ∷ s) [] 0) r
  unfolding along flagged
  in_head = refl

  pub count_head : along (at ns o (Symbol.Expr ∷ s) [] 0) (flagged begins (codes "count ") r) ≡ along (at ns o (Symbol.Number Number.Count ∷ s) [] 0) r
  unfolding along flagged
  count_head = refl

  pub join_head : along (at ns o (Symbol.Expr ∷ s) [] 0) (flagged begins (codes "join ") r) ≡ along (at ns o (Symbol.Number Number.Join ∷ s) [] 0) r
  unfolding along flagged
  join_head = refl

  pub fold_head : along (at ns o (Symbol.Expr ∷ s) [] 0) (flagged begins (codes "fold ") r) ≡ along (at ns o (Symbol.Binary Along.Fold ∷ s) [] 0) r
  unfolding along flagged
  fold_head = refl

  pub scan_head : along (at ns o (Symbol.Expr ∷ s) [] 0) (flagged begins (codes "scan ") r) ≡ along (at ns o (Symbol.Binary Along.Scan ∷ s) [] 0) r
  unfolding along flagged
  scan_head = refl

  pub binary_along : (a : Along) (k : Binary) → along (at ns o (Symbol.Binary a ∷ s) [] 0) (plains (binary_word k) (plain 32 ∷ r)) ≡ along (at ns o (Symbol.Number (Number.Along a k) ∷ s) [] 0) r
  unfolding along plains binary_word
  binary_along a Add = refl
  binary_along a Sub = refl
  binary_along a Mul = refl
  binary_along a Div = refl
  binary_along a Less = refl
  binary_along a Same = refl
  binary_along a Least = refl
  binary_along a Most = refl

  pub along_end : (a : Along) (k : Binary) (v : ℕ) → along (at ns o (Symbol.Digits (Number.Along a k) ∷ s) [] v) (plain 40 ∷ r) ≡ along (at ns (along_step a k v ∷ o) (Symbol.Expr ∷ Symbol.Operands 0 ∷ s) [] 0) r
  unfolding along
  along_end a k v = refl

  pub join_end : (v : ℕ) → along (at ns o (Symbol.Digits Number.Join ∷ s) [] v) (plain 40 ∷ r) ≡ along (at ns (Step.Join v ∷ o) (Symbol.Expr ∷ Symbol.Operands 1 ∷ s) [] 0) r
  unfolding along
  join_end v = refl

  pub shape_head : along (at ns o (Symbol.Expr ∷ s) [] 0) (flagged begins (codes "shape [") r) ≡ along (at ns (Step.Shape ∷ o) (Symbol.First Bracket.Numbers ∷ Symbol.Byte 40 ∷ Symbol.Expr ∷ Symbol.Operands 0 ∷ s) [] 0) r
  unfolding along flagged
  shape_head = refl

  pub turn_head : along (at ns o (Symbol.Expr ∷ s) [] 0) (flagged begins (codes "turn [") r) ≡ along (at ns (Step.Turn ∷ o) (Symbol.First Bracket.Numbers ∷ Symbol.Byte 40 ∷ Symbol.Expr ∷ Symbol.Operands 0 ∷ s) [] 0) r
  unfolding along flagged
  turn_head = refl

  pub part_head : along (at ns o (Symbol.Expr ∷ s) [] 0) (flagged begins (codes "part [") r) ≡ along (at ns (Step.Part ∷ o) (Symbol.First Bracket.Parts ∷ Symbol.Byte 40 ∷ Symbol.Expr ∷ Symbol.Operands 0 ∷ s) [] 0) r
  unfolding along flagged
  part_head = refl

  pub constant_head : along (at ns o (Symbol.Expr ∷ s) [] 0) (letter begins 35 ∷ r) ≡ along (at ns o (Symbol.Hex 16 ∷ s) [] 0) r
  unfolding along
  constant_head = refl

  pub byte_along : along (at ns o (Symbol.Byte 40 ∷ s) [] 0) (plain 40 ∷ r) ≡ along (at ns o s [] 0) r
  unfolding along
  byte_along = refl

  pub newline_along : along (at ns o (Symbol.Byte 10 ∷ s) [] 0) (plain 10 ∷ r) ≡ along (at ns o s [] 0) r
  unfolding along
  newline_along = refl

  pub close_along : along (at ns o (Symbol.Operands 0 ∷ s) [] 0) (plain 41 ∷ r) ≡ along (at ns o s [] 0) r
  unfolding along
  close_along = refl

  pub comma_along : (n : ℕ) → along (at ns o (Symbol.Operands (suc n) ∷ s) [] 0) (plain 44 ∷ plain 32 ∷ r) ≡ along (at ns o (Symbol.Expr ∷ Symbol.Operands n ∷ s) [] 0) r
  unfolding along
  comma_along n = refl

  pub items_none : (k : Bracket) → along (at ns o (Symbol.First k ∷ s) [] 0) (plain 93 ∷ r) ≡ along (at ns o s [] 0) r
  unfolding along
  items_none k = refl

  pub item_last : (k : ℕ) → along (at ns o (Symbol.Digits Number.Item ∷ Symbol.More Bracket.Numbers ∷ s) [] k) (plain 93 ∷ r) ≡ along (at ns (Step.Item k ∷ o) s [] 0) r
  unfolding along
  item_last k = refl

  pub item_comma : (k : ℕ) → along (at ns o (Symbol.Digits Number.Item ∷ Symbol.More Bracket.Numbers ∷ s) [] k) (plain 44 ∷ plain 32 ∷ r) ≡ along (at ns (Step.Item k ∷ o) (Symbol.Item Bracket.Numbers ∷ Symbol.More Bracket.Numbers ∷ s) [] 0) r
  unfolding along
  item_comma k = refl

  pub from_colon : (f : ℕ) → along (at ns o (Symbol.Digits Number.From ∷ s) [] f) (plain 58 ∷ r) ≡ along (at ns o (Symbol.Step f ∷ s) [] 0) r
  unfolding along
  from_colon f = refl

  pub step_minus : (f : ℕ) → along (at ns o (Symbol.Step f ∷ s) [] 0) (plain 45 ∷ r) ≡ along (at ns o (Symbol.Number (Number.Step f true) ∷ s) [] 0) r
  unfolding along
  step_minus f = refl

  pub step_colon : (f : ℕ) (b : _) (v : ℕ) → along (at ns o (Symbol.Digits (Number.Step f b) ∷ s) [] v) (plain 58 ∷ r) ≡ along (at ns o (Symbol.Number (Number.Many f b v) ∷ s) [] 0) r
  unfolding along
  step_colon f b v = refl

  pub part_last : (f : ℕ) (b : _) (v m : ℕ) → along (at ns o (Symbol.Digits (Number.Many f b v) ∷ Symbol.More Bracket.Parts ∷ s) [] m) (plain 93 ∷ r) ≡ along (at ns (sliced f b v m ∷ o) s [] 0) r
  unfolding along
  part_last f b v m = refl

  pub part_comma : (f : ℕ) (b : _) (v m : ℕ) → along (at ns o (Symbol.Digits (Number.Many f b v) ∷ Symbol.More Bracket.Parts ∷ s) [] m) (plain 44 ∷ plain 32 ∷ r) ≡ along (at ns (sliced f b v m ∷ o) (Symbol.Item Bracket.Parts ∷ Symbol.More Bracket.Parts ∷ s) [] 0) r
  unfolding along
  part_comma f b v m = refl
