-- The automaton along hexadecimal digits and along what stands in brackets.
use Rattle.std.proofs.Common.{◌≡◌, ℕ, suc, ◌+◌, ◌*◌, ◌<◌, ◌≤◌, Bool, true, false, List, [], ◌∷◌, length, codes, decimal, sym, refl, ap, ◌∙◌, ⊎_elim, arith}
use Rattle.std.proofs.lemmas.Bool.{and_from, or_left, or_right, le-leb, lt-ltb, le-ltb, ne_eqb, cases_lt}
use Rattle.semantics.specs.Shapes.{pick}
use Rattle.semantics.specs.Parts.{Part}
use Rattle.program.specs.declared.step.Step.{Step}
use Rattle.grammar.specs.Letters.{inside, begins, Letter, letter, plain, plains, flagged}
use Rattle.grammar.specs.Words.{Word}
use Rattle.grammar.specs.Constants.{canonical, hex_value}
use Rattle.grammar.specs.Sayable.{Small, Smalls, none, more, SmallPart, SmallParts, Digits}
use Rattle.grammar.specs.Written.{hex_byte, write_hex, write_number, write_item, write_items, write_more_items, write_part, write_parts, write_more_parts}
use Rattle.grammar.specs.Moves.{belongs, moves, digit_move, is_hex, hex_of, hex_move, item_number, push}
use Rattle.grammar.specs.Automaton.{at}
use Rattle.grammar.specs.declared.symbol.Bracket.{Bracket}
use Rattle.grammar.specs.declared.symbol.Number.{Number}
use Rattle.grammar.specs.declared.symbol.Symbol.{Symbol}
use Rattle.grammar.proofs.Along.{along, along_moves}
use Rattle.grammar.proofs.NumberAlong.{when_true, is_digit_of, digit_first, number_along, flagged_inside}
use Rattle.grammar.proofs.Emits.{emit_items, emit_parts, slice}
use Rattle.grammar.proofs.Pieces.{items_none, item_last, item_comma, from_colon, step_minus, step_colon, part_last, part_comma}

-- a digit's byte is a digit's, and says the digit
pub hex_back : (d : ℕ) → d < 16 → (is_hex (hex_byte d) ≡ true) × (hex_of (hex_byte d) ≡ d)
unfolding is_hex hex_byte hex_of
hex_back d h =
    ⊎_elim
    (λ (l : d < 10). rw (lt-ltb d 10 l) (or_left _ _ (is_digit_of d l), rw (lt-ltb (48 + d) 97 (omega arith)) (omega arith)))
    (λ (l : 10 ≤ d). rw (le-ltb d 10 l) (or_right _ _ (and_from _ _ (le-leb 97 (87 + d) (omega arith)) (le-leb (87 + d) 102 (omega arith))), rw (le-ltb (87 + d) 97 (omega arith)) (omega arith)))
    (cases_lt d 10)

hex_step : (ns : List Word) (n v d : ℕ) → d < 16 → moves ns (Symbol.Hex n) [] v (hex_byte d) ≡ hex_move n (v * 16 + d)
unfolding moves
hex_step ns n v d h = let k = hex_back d h in when_true _ _ k.0 ∙ ap (λ x. hex_move n (v * 16 + x)) k.1

pub hex_along : (ns : List Word) (o : List Step) (s : List Symbol) (v d : ℕ) (ds : List ℕ) (f : List Letter) → d < 16 → Digits ds → along (at ns o (Symbol.Hex (suc (length ds)) ∷ s) [] v) (write_hex (d ∷ ds) f) ≡ along (at ns (Step.Constant (canonical (hex_value v (d ∷ ds))) ∷ o) s [] 0) f
unfolding write_hex hex_value belongs hex_move
hex_along ns o s v d [] f h none = along_moves ns o (Symbol.Hex 1) s [] v (hex_byte d) f refl (hex_step ns 1 v d h)
hex_along ns o s v d (c ∷ ds) f h (more i j) =
    along_moves ns o (Symbol.Hex (suc (suc (length ds)))) s [] v (hex_byte d) (write_hex (c ∷ ds) f) refl (hex_step ns (suc (suc (length ds))) v d h)
    ∙ hex_along ns o s (v * 16 + d) c ds f i j

-- the first digit of a number, and of an item of brackets behind `[` and behind `, `
module _ (ns : List Word) (o : List Step) (s : List Symbol) where
  pub number_all : (p : Number) (k : ℕ) (r : List Letter) → Small k → along (at ns o (Symbol.Number p ∷ s) [] 0) (write_number k r) ≡ along (at ns o (Symbol.Digits p ∷ s) [] k) r
  unfolding write_number belongs moves
  number_all p k r h =
      ap (λ g. along (at ns o (Symbol.Number p ∷ s) [] 0) g) (sym (flagged_inside (decimal k) r))
      ∙ number_along (at ns o (Symbol.Number p ∷ s) [] 0) inside ns o p s first k h r
    where
      first : (d : ℕ) → d < 10 → (f : List Letter) → along (at ns o (Symbol.Number p ∷ s) [] 0) (letter inside (48 + d) ∷ f) ≡ along (at ns o (Symbol.Digits p ∷ s) [] d) f
      first d l f = along_moves ns o (Symbol.Number p) s [] 0 (48 + d) f refl (digit_first inside p [] d l)

  item_first : (k : Bracket) (d : ℕ) → d < 10 → (f : List Letter) → along (at ns o (Symbol.Item k ∷ Symbol.More k ∷ s) [] 0) (letter begins (48 + d) ∷ f) ≡ along (at ns o (Symbol.Digits (item_number k) ∷ Symbol.More k ∷ s) [] d) f
  unfolding belongs moves
  item_first k d l f = along_moves ns o (Symbol.Item k) (Symbol.More k ∷ s) [] 0 (48 + d) f refl (digit_first begins (item_number k) [] d l)

  first_first : (k : Bracket) (d : ℕ) → d < 10 → (f : List Letter) → along (at ns o (Symbol.First k ∷ s) [] 0) (letter begins (48 + d) ∷ f) ≡ along (at ns o (Symbol.Digits (item_number k) ∷ Symbol.More k ∷ s) [] d) f
  unfolding belongs moves
  first_first k d l f =
      along_moves ns o (Symbol.First k) s [] 0 (48 + d) f refl
      (ap (λ t. pick t (push []) (digit_move begins (item_number k) (Symbol.More k ∷ []) (48 + d))) (ne_eqb (48 + d) 93 (omega arith))
      ∙ digit_first begins (item_number k) (Symbol.More k ∷ []) d l)

  step_first : (f d : ℕ) → d < 10 → (g : List Letter) → along (at ns o (Symbol.Step f ∷ s) [] 0) (letter inside (48 + d) ∷ g) ≡ along (at ns o (Symbol.Digits (Number.Step f false) ∷ s) [] d) g
  unfolding belongs moves
  step_first f d l g =
      along_moves ns o (Symbol.Step f) s [] 0 (48 + d) g refl
      (ap (λ t. pick t (push (Symbol.Number (Number.Step f true) ∷ [])) (digit_move inside (Number.Step f false) [] (48 + d))) (ne_eqb (48 + d) 45 (omega arith))
      ∙ digit_first inside (Number.Step f false) [] d l)

  step_all : (f : ℕ) (b : Bool) (k : ℕ) (r : List Letter) → Small k → along (at ns o (Symbol.Step f ∷ s) [] 0) (plains (pick b (codes "-") []) (write_number k r)) ≡ along (at ns o (Symbol.Digits (Number.Step f b) ∷ s) [] k) r
  unfolding plains write_number
  step_all f true k r h = step_minus ns o s (write_number k r) f ∙ number_all (Number.Step f true) k r h
  step_all f false k r h =
      ap (λ g. along (at ns o (Symbol.Step f ∷ s) [] 0) g) (sym (flagged_inside (decimal k) r))
      ∙ number_along (at ns o (Symbol.Step f ∷ s) [] 0) inside ns o (Number.Step f false) s (step_first f) k h r

-- items, from the first digits of one on
pub more_items_along : (ns : List Word) (o : List Step) (s : List Symbol) (k : ℕ) {ks : List ℕ} (r : List Letter) → Smalls ks → along (at ns o (Symbol.Digits Number.Item ∷ Symbol.More Bracket.Numbers ∷ s) [] k) (write_more_items ks (plain 93 ∷ r)) ≡ along (at ns (emit_items ks (Step.Item k ∷ o)) s [] 0) r
unfolding write_more_items write_item emit_items item_number
more_items_along ns o s k r none = item_last ns o s r k
more_items_along ns o s k {ks = j ∷ ks} r (more h i) =
    item_comma ns o s (flagged begins (decimal j) (write_more_items ks (plain 93 ∷ r))) k
    ∙ number_along (at ns (Step.Item k ∷ o) (Symbol.Item Bracket.Numbers ∷ Symbol.More Bracket.Numbers ∷ s) [] 0) begins ns (Step.Item k ∷ o) Number.Item (Symbol.More Bracket.Numbers ∷ s) (item_first ns (Step.Item k ∷ o) s Bracket.Numbers) j h (write_more_items ks (plain 93 ∷ r))
    ∙ more_items_along ns (Step.Item k ∷ o) s j r i

pub items_along : (ns : List Word) (o : List Step) (s : List Symbol) {ks : List ℕ} (r : List Letter) → Smalls ks → along (at ns o (Symbol.First Bracket.Numbers ∷ s) [] 0) (write_items ks (plain 93 ∷ r)) ≡ along (at ns (emit_items ks o) s [] 0) r
unfolding write_items write_item emit_items item_number
items_along ns o s r none = items_none ns o s r Bracket.Numbers
items_along ns o s {ks = j ∷ ks} r (more h i) =
    number_along (at ns o (Symbol.First Bracket.Numbers ∷ s) [] 0) begins ns o Number.Item (Symbol.More Bracket.Numbers ∷ s) (first_first ns o s Bracket.Numbers) j h (write_more_items ks (plain 93 ∷ r))
    ∙ more_items_along ns o s j r i

-- one part, from its first digits on
part_rest : (ns : List Word) (o : List Step) (s : List Symbol) (p : Part) (r : List Letter) → SmallPart p → along (at ns o (Symbol.Digits Number.From ∷ s) [] p.from) (plain 58 ∷ plains (pick p.backward (codes "-") []) (write_number p.step (plain 58 ∷ write_number p.many r))) ≡ along (at ns o (Symbol.Digits (Number.Many p.from p.backward p.step) ∷ s) [] p.many) r
part_rest ns o s p r h =
    from_colon ns o s _ p.from
    ∙ step_all ns o s p.from p.backward p.step (plain 58 ∷ write_number p.many r) h.step_small
    ∙ step_colon ns o s (write_number p.many r) p.from p.backward p.step
    ∙ number_all ns o s (Number.Many p.from p.backward p.step) p.many r h.many_small

pub more_parts_along : (ns : List Word) (o : List Step) (s : List Symbol) (q : Part) {ps : List Part} (r : List Letter) → SmallParts ps → along (at ns o (Symbol.Digits (Number.Many q.from q.backward q.step) ∷ Symbol.More Bracket.Parts ∷ s) [] q.many) (write_more_parts ps (plain 93 ∷ r)) ≡ along (at ns (emit_parts ps (slice q ∷ o)) s [] 0) r
unfolding write_more_parts write_part emit_parts item_number
more_parts_along ns o s q r none = part_last ns o s r q.from q.backward q.step q.many
more_parts_along ns o s q {ps = p ∷ ps} r (more h i) =
    part_comma ns o s (write_part p (write_more_parts ps (plain 93 ∷ r))) q.from q.backward q.step q.many
    ∙ number_along (at ns (slice q ∷ o) (Symbol.Item Bracket.Parts ∷ Symbol.More Bracket.Parts ∷ s) [] 0) begins ns (slice q ∷ o) Number.From (Symbol.More Bracket.Parts ∷ s) (item_first ns (slice q ∷ o) s Bracket.Parts) p.from h.from_small _
    ∙ part_rest ns (slice q ∷ o) (Symbol.More Bracket.Parts ∷ s) p (write_more_parts ps (plain 93 ∷ r)) h
    ∙ more_parts_along ns (slice q ∷ o) s p r i

pub parts_along : (ns : List Word) (o : List Step) (s : List Symbol) {ps : List Part} (r : List Letter) → SmallParts ps → along (at ns o (Symbol.First Bracket.Parts ∷ s) [] 0) (write_parts ps (plain 93 ∷ r)) ≡ along (at ns (emit_parts ps o) s [] 0) r
unfolding write_parts write_part emit_parts item_number
parts_along ns o s r none = items_none ns o s r Bracket.Parts
parts_along ns o s {ps = p ∷ ps} r (more h i) =
    number_along (at ns o (Symbol.First Bracket.Parts ∷ s) [] 0) begins ns o Number.From (Symbol.More Bracket.Parts ∷ s) (first_first ns o s Bracket.Parts) p.from h.from_small _
    ∙ part_rest ns o (Symbol.More Bracket.Parts ∷ s) p (write_more_parts ps (plain 93 ∷ r)) h
    ∙ more_parts_along ns o s p r i
