-- What symbols say: the letters and steps that may still come for them, with the names before and behind them.
use Rattle.std.proofs.Common.{◌≡◌, ℕ, suc, Bool, List, [], ◌∷◌, ◌++◌, length, get_or, codes, decimal}
use Rattle.semantics.specs.Shapes.{pick}
use Rattle.semantics.specs.Parts.{Part}
use Rattle.semantics.specs.Values.{Expr}
use Rattle.semantics.specs.Programs.{Program}
use Rattle.semantics.specs.declared.operation.Binary.{Binary as Two}
use Rattle.program.specs.Words.{sliced}
use Rattle.program.specs.declared.step.Step.{Step}
use Rattle.program.specs.Spelling.{items, slices, spell, spell_program}
use Rattle.grammar.specs.Letters.{Letter, begins, closes, plain, plains, flagged}
use Rattle.grammar.specs.Words.{Word, binary_word}
use Rattle.grammar.specs.Constants.{canonical, hex_value, read_expr, read_program}
use Rattle.grammar.specs.Sayable.{Small, Smalls, SmallPart, SmallParts, Comes, Fits, FitLines, Sixteen, Digits}
use Rattle.grammar.specs.Written.{write_hex, write_number, write_item, write_items, write_more_items, write_part, write_parts, write_more_parts, write_expr, write_lines}
use Rattle.grammar.specs.Moves.{along_step}
use Rattle.grammar.specs.declared.symbol.Along.{Along}
use Rattle.grammar.specs.declared.symbol.Target.{Target}
use Rattle.grammar.specs.declared.symbol.Bracket.{Bracket}
use Rattle.grammar.specs.declared.symbol.Number.{Number}
use Rattle.grammar.specs.declared.symbol.Symbol.{Symbol}

abbrev pub W : Type 0
W = Expr (List ℕ)

-- an expression's letters and steps, before others
abbrev pub spelled_expr : W → List Step → List Step
spelled_expr e b = spell (read_expr e) b

abbrev pub sign : Bool → List ℕ
sign b = pick b (codes "-") []

-- what follows a number k that is for p
pub data Follows (ms : List Word) : Number → ℕ → ℕ → ℕ → List Letter → List Letter → List Step → List Step → Type 0 where
  an_input : {k n : ℕ} {g : List Letter} {b : List Step} → Follows ms Number.Input k n n g g (Step.Input k ∷ b) b
  a_count : {k n : ℕ} {g : List Letter} {b : List Step} → Follows ms Number.Count k n n g g (Step.Count k ∷ b) b
  an_axis : {a : Along} {t : Two} {k n m : ℕ} {e : W} {g : List Letter} {b : List Step} → Fits Sixteen e n m → Follows ms (Number.Along a t) k n m (plain 40 ∷ write_expr ms e (plain 41 ∷ g)) g (along_step a t k ∷ spelled_expr e b) b
  a_join : {k n m o : ℕ} {e f : W} {g : List Letter} {b : List Step} → Fits Sixteen e n m → Fits Sixteen f m o → Follows ms Number.Join k n o (plain 40 ∷ write_expr ms e (plain 44 ∷ plain 32 ∷ write_expr ms f (plain 41 ∷ g))) g (Step.Join k ∷ spelled_expr e (spelled_expr f b)) b
  an_again : {k n m : ℕ} {p : Program (List ℕ)} {g : List Letter} {b : List Step} → FitLines Sixteen p n m → Follows ms Number.Again k n m (plain 10 ∷ write_lines ms p (flagged closes (codes "end") g)) g (Step.Again k ∷ spell_program (read_program p) (Step.End ∷ b)) b
  an_item : {k n : ℕ} {g : List Letter} {b : List Step} → Follows ms Number.Item k n n g g (Step.Item k ∷ b) b
  a_from : {k n s m : ℕ} {c : Bool} {g : List Letter} {b : List Step} → Small s → Small m → Follows ms Number.From k n n (plain 58 ∷ plains (sign c) (write_number s (plain 58 ∷ write_number m g))) g (sliced k c s m ∷ b) b
  a_step : {k n f m : ℕ} {c : Bool} {g : List Letter} {b : List Step} → Small m → Follows ms (Number.Step f c) k n n (plain 58 ∷ write_number m g) g (sliced f c k m ∷ b) b
  a_many : {k n f s : ℕ} {c : Bool} {g : List Letter} {b : List Step} → Follows ms (Number.Many f c s) k n n g g (sliced f c s k ∷ b) b

-- a symbol of which the word w and the number v have come: the letters that may follow, up to those behind it; its steps, up to those behind it
pub data Says (ms : List Word) : Symbol → Word → ℕ → ℕ → ℕ → List Letter → List Letter → List Step → List Step → Type 0 where
  says_lines : {w : Word} {v n m : ℕ} {p : Program (List ℕ)} {g : List Letter} {b : List Step} → FitLines Sixteen p n m → Says ms Symbol.Lines w v n m (write_lines ms p g) g (spell_program (read_program p) b) b
  says_body : {w : Word} {v n m : ℕ} {p : Program (List ℕ)} {g : List Letter} {b : List Step} → FitLines Sixteen p n m → Says ms Symbol.Body w v n m (write_lines ms p (flagged closes (codes "end") g)) g (spell_program (read_program p) (Step.End ∷ b)) b
  says_byte : {w : Word} {v n c : ℕ} {g : List Letter} {b : List Step} → Says ms (Symbol.Byte c) w v n n (plain c ∷ g) g b b
  says_let : {w : Word} (u : Word) {v k n m o : ℕ} {e : W} {g : List Letter} {b : List Step} → Comes k n m → get_or ms k [] ≡ w ++ u → Fits Sixteen e m o → Says ms (Symbol.Target Target.Let) w v n o (plains u (plains (codes " = ") (write_expr ms e g))) g (Step.Let k ∷ spelled_expr e b) b
  says_put : {w : Word} (u : Word) {v k n m o : ℕ} {ps : List Part} {e : W} {g : List Letter} {b : List Step} → Comes k n m → get_or ms k [] ≡ w ++ u → SmallParts ps → Fits Sixteen e m o → Says ms (Symbol.Target Target.Put) w v n o (plains u (plains (codes " [") (write_parts ps (plains (codes "] = ") (write_expr ms e g))))) g (Step.Put k ∷ slices ps (spelled_expr e b)) b
  says_expr : {w : Word} {v n m : ℕ} {e : W} {g : List Letter} {b : List Step} → Fits Sixteen e n m → Says ms Symbol.Expr w v n m (write_expr ms e g) g (spelled_expr e b) b
  says_word : {w : Word} {v n m : ℕ} {e : W} {f g : List Letter} {b : List Step} → Fits Sixteen e n m → write_expr ms e g ≡ flagged begins w f → Says ms Symbol.Word w v n m f g (spelled_expr e b) b
  says_binary : {a : Along} {w : Word} (u : Word) {v n m k : ℕ} (t : Two) {e : W} {g : List Letter} {b : List Step} → binary_word t ≡ w ++ u → Small k → Fits Sixteen e n m → Says ms (Symbol.Binary a) w v n m (plains u (plain 32 ∷ write_number k (plain 40 ∷ write_expr ms e (plain 41 ∷ g)))) g (along_step a t k ∷ spelled_expr e b) b
  says_number : {p : Number} {w : Word} {v k n m : ℕ} {f g : List Letter} {a b : List Step} → Small k → Follows ms p k n m f g a b → Says ms (Symbol.Number p) w v n m (write_number k f) g a b
  says_digits : {p : Number} {w : Word} {v k n m : ℕ} (ds : List ℕ) {f g : List Letter} {a b : List Step} → Small k → decimal k ≡ decimal v ++ ds → Follows ms p k n m f g a b → Says ms (Symbol.Digits p) w v n m (plains ds f) g a b
  says_hex : {w : Word} {v n : ℕ} {ds : List ℕ} {g : List Letter} {b : List Step} → Digits ds → Says ms (Symbol.Hex (length ds)) w v n n (write_hex ds g) g (Step.Constant (canonical (hex_value v ds)) ∷ b) b
  says_close : {w : Word} {v n : ℕ} {g : List Letter} {b : List Step} → Says ms (Symbol.Operands 0) w v n n (plain 41 ∷ g) g b b
  says_more : {w : Word} {v i n m o : ℕ} {e : W} {f g : List Letter} {a b : List Step} → Fits Sixteen e n m → Says ms (Symbol.Operands i) [] 0 m o f g a b → Says ms (Symbol.Operands (suc i)) w v n o (plain 44 ∷ plain 32 ∷ write_expr ms e f) g (spelled_expr e a) b
  says_first_items : {w : Word} {v n : ℕ} {ks : List ℕ} {g : List Letter} {b : List Step} → Smalls ks → Says ms (Symbol.First Bracket.Numbers) w v n n (write_items ks (plain 93 ∷ g)) g (items ks b) b
  says_first_parts : {w : Word} {v n : ℕ} {ps : List Part} {g : List Letter} {b : List Step} → SmallParts ps → Says ms (Symbol.First Bracket.Parts) w v n n (write_parts ps (plain 93 ∷ g)) g (slices ps b) b
  says_more_items : {w : Word} {v n : ℕ} {ks : List ℕ} {g : List Letter} {b : List Step} → Smalls ks → Says ms (Symbol.More Bracket.Numbers) w v n n (write_more_items ks (plain 93 ∷ g)) g (items ks b) b
  says_more_parts : {w : Word} {v n : ℕ} {ps : List Part} {g : List Letter} {b : List Step} → SmallParts ps → Says ms (Symbol.More Bracket.Parts) w v n n (write_more_parts ps (plain 93 ∷ g)) g (slices ps b) b
  says_item : {w : Word} {v n k : ℕ} {g : List Letter} {b : List Step} → Small k → Says ms (Symbol.Item Bracket.Numbers) w v n n (write_item k g) g (Step.Item k ∷ b) b
  says_part : {w : Word} {v n : ℕ} {p : Part} {g : List Letter} {b : List Step} → SmallPart p → Says ms (Symbol.Item Bracket.Parts) w v n n (write_part p g) g (slices (p ∷ []) b) b
  says_step : {w : Word} {v n f s m : ℕ} {c : Bool} {g : List Letter} {b : List Step} → Small s → Small m → Says ms (Symbol.Step f) w v n n (plains (sign c) (write_number s (plain 58 ∷ write_number m g))) g (sliced f c s m ∷ b) b

-- a stack, of whose topmost symbol a word or number has come: the symbols one after the other, and nothing behind the last
pub data SaysAll (ms : List Word) : List Symbol → Word → ℕ → ℕ → ℕ → List Letter → List Step → Type 0 where
  says_none : {w : Word} {v n : ℕ} → SaysAll ms [] w v n n [] []
  says_next : {s : Symbol} {rest : List Symbol} {w : Word} {v n m o : ℕ} {f g : List Letter} {a b : List Step} → Says ms s w v n m f g a b → SaysAll ms rest [] 0 m o g b → SaysAll ms (s ∷ rest) w v n o f a
