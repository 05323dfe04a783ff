-- Endings and turns that the code makes are those of the table.
use Rattle.std.proofs.Common.{◌≡◌, ℕ, zero, suc, ◌+◌, ◌-◌, ◌*◌, ◌^◌, ◌<◌, ◌≤◌, Bool, true, false, cond, ◌&&◌, eqb, ltb, leb, ◌⊎◌, List, [], ◌∷◌, ◌++◌, length, get_or, take, drop, Some, None, sym, refl, ap, ◌∙◌, inl, inr, arith, lit<}
use Rattle.std.proofs.lemmas.List.{length-drop, take_more, get_or-drop}
use Rattle.std.proofs.lemmas.Bool.{ne_eqb, leb-true, le-leb, lt-leb, lt-ltb, le-ltb, and_parts, and_from, and_left, and_right, or_cases}
use native.Mathlib.Nat.{pow-le-pow_right}
use Rattle.semantics.specs.Shapes.{pick}
use Rattle.program.specs.declared.step.Step.{Step}
use Rattle.grammar.specs.declared.symbol.Symbol.{Symbol}
use Rattle.grammar.specs.declared.symbol.Number.{Number}
use Rattle.grammar.specs.Letters.{Flag, inside}
use Rattle.grammar.specs.Words.{Word, is_digit}
use Rattle.numbers.specs.Binary64.{canonical_bits, bits_nan}
use Rattle.grammar.specs.Constants.{canonical}
use lib.Ieee.{nan_bits, binary64}
use lib.Ieee.Bits.{nan_bits_above}
use Rattle.grammar.specs.Moves.{place, with_name, name_ends, no, ended, Move, stop, move, when, push, is_hex, hex_of, hex_move, line_move, operands_move, moves}
use Rattle.reader.specs.declared.names.Naming.{Naming}
use Rattle.reader.specs.declared.pushes.Pushes.{Pushes}
use Rattle.reader.specs.Pushed.{symbols_of}
use Rattle.reader.specs.Names.{part, NamesAs, Named, unnamed, named}

-- equal parts make equal endings
pub ended_by : {es fs : List Step} {s t : List Symbol} (ns : List Word) → es ≡ fs → s ≡ t → ended ns es s ≡ ended ns fs t
ended_by {es} {fs} {s} {t} ns p q = ap (λ x. ended ns x s) p ∙ ap (λ x. ended ns fs x) q

module _ (ns : List Word) (w : Word) (step : ℕ → Step) (rest : List Symbol) where
  pub ended_unnamed : Named ns w None → no ≡ name_ends ns w step rest
  unfolding name_ends
  ended_unnamed (unnamed e) = sym (ap (λ t. pick t (ended (with_name ns w) (step (place ns w) ∷ []) rest) no) e)

  as_named : (n : Naming) (s : Step) (p : Pushes) → NamesAs ns w n → s ≡ step n.place → symbols_of p ≡ rest → ended (pick n.new (ns ++ w ∷ []) ns) (s ∷ []) (symbols_of p) ≡ name_ends ns w step rest
  unfolding name_ends
  as_named n s p is same follow =
      ap (λ x. ended (pick n.new (ns ++ w ∷ []) ns) (x ∷ []) (symbols_of p)) (same ∙ ap step (sym is.is))
      ∙ (ap (λ x. ended (pick n.new (ns ++ w ∷ []) ns) (step (place ns w) ∷ []) x) follow
      ∙ (ap (λ x. ended x (step (place ns w) ∷ []) rest) (sym is.names) ∙ sym (ap (λ t. pick t (ended (with_name ns w) (step (place ns w) ∷ []) rest) no) is.can)))

  pub ended_named : (n : Naming) (s : Step) (p : Pushes) → Named ns w (Some n) → s ≡ step n.place → symbols_of p ≡ rest → ended (pick n.new (ns ++ w ∷ []) ns) (s ∷ []) (symbols_of p) ≡ name_ends ns w step rest
  ended_named n s p (named is) same follow = as_named n s p is same follow

-- the part that a word is, with one byte more
pub part_more : (t : List ℕ) (a b : ℕ) → a ≤ b → b < length t → part t a (b + 1) ≡ part t a b ++ get_or t b 0 ∷ []
part_more t a b low there-is =
    let far : b + 1 - a ≡ (b - a) + 1 = omega arith in
    let there : b - a < length (drop a t) = simp length-drop (omega arith) in
    let at : a + (b - a) ≡ b = omega arith in
    ap (λ n. take n (drop a t)) far
    ∙ (take_more (drop a t) (b - a) 0 there ∙ ap (λ x. take (b - a) (drop a t) ++ x ∷ []) (get_or-drop a t (b - a) 0 ∙ ap (λ n. get_or t n 0) at))

pub part_none : (t : List ℕ) (a : ℕ) → part t a a ≡ []
part_none t a = let none : a - a ≡ 0 = omega arith in ap (λ n. take n (drop a t)) none

pub part_one : (t : List ℕ) (b : ℕ) → b < length t → part t b (b + 1) ≡ get_or t b 0 ∷ []
part_one t b there-is = part_more t b b (omega arith) there-is ∙ ap (λ u. u ++ get_or t b 0 ∷ []) (part_none t b)

pub no_line : (here : Symbol) (other : Move) (b : ℕ) → (b ≡ 108 → ⊥) → (b ≡ 112 → ⊥) → (b ≡ 115 → ⊥) → (b ≡ 97 → ⊥) → other ≡ line_move here other b
unfolding line_move
no_line here other b l p s a = rw (ne_eqb b 108 l, ne_eqb b 112 p, ne_eqb b 115 s, ne_eqb b 97 a)

pub operands_more : (n b : ℕ) → 0 < n → when (eqb b 44) (push (Symbol.Byte 32 ∷ Symbol.Expr ∷ Symbol.Operands (n - 1) ∷ [])) ≡ operands_move n b
unfolding operands_move
operands_more zero b low = absurd (omega arith)
operands_more (suc n) b low = let one : suc n - 1 ≡ n = omega arith in ap (λ m. when (eqb b 44) (push (Symbol.Byte 32 ∷ Symbol.Expr ∷ Symbol.Operands m ∷ []))) one

-- equal symbols make equal moves
pub move_by : {s t : List Symbol} (x : Flag) (es : List Step) (u : Word) (v : ℕ) → s ≡ t → move x es s u v ≡ move x es t u v
move_by x es u v p = ap (λ r. move x es r u v) p

pub digit_low : (b : ℕ) → is_digit b ≡ true → (48 ≤ b) × (b ≤ 57)
unfolding is_digit
digit_low b e = let both = and_parts (leb 48 b) (leb b 57) e in (leb-true 48 b both.0, leb-true b 57 both.1)

pub hex_low : (b : ℕ) → is_hex b ≡ true → ((48 ≤ b) × (b ≤ 57)) ⊎ ((97 ≤ b) × (b ≤ 102))
unfolding is_hex
hex_low b e =
    elim (or_cases (is_digit b) (leb 97 b && leb b 102) e) [
      | inl d ↦ inl (digit_low b d)
      | inr d ↦ let both = and_parts (leb 97 b) (leb b 102) d in inr (leb-true 97 b both.0, leb-true b 102 both.1)
    ]

pub hex_of_low : (b : ℕ) → b < 97 → b - 48 ≡ hex_of b
unfolding hex_of
hex_of_low b low = sym (ap (λ t. pick t (b - 48) (b - 87)) (lt-ltb b 97 low))

pub hex_of_high : (b : ℕ) → 97 ≤ b → b - 87 ≡ hex_of b
unfolding hex_of
hex_of_high b high = sym (ap (λ t. pick t (b - 48) (b - 87)) (le-ltb b 97 high))

module _ (ns : List Word) (w : Word) (p : Number) (v b : ℕ) where
  pub digits_other : false ≡ is_digit b → stop ≡ moves ns (Symbol.Digits p) w v b
  unfolding moves
  digits_other e =
      ap (λ t. when (t && (leb 1 v && ltb (v * 10 + (b - 48)) 4294967296)) (move inside [] (Symbol.Digits p ∷ []) [] (v * 10 + (b - 48)))) e

  pub digits_zero : v < 1 → stop ≡ moves ns (Symbol.Digits p) w v b
  unfolding moves
  digits_zero e =
      let none : (is_digit b && (leb 1 v && ltb (v * 10 + (b - 48)) 4294967296)) ≡ false =
      and_right (is_digit b) (leb 1 v && ltb (v * 10 + (b - 48)) 4294967296) (and_left (leb 1 v) (ltb (v * 10 + (b - 48)) 4294967296) (lt-leb 1 v e)) in
      sym (ap (λ t. when t (move inside [] (Symbol.Digits p ∷ []) [] (v * 10 + (b - 48)))) none)

  pub digits_large : 4294967296 ≤ v * 10 + (b - 48) → stop ≡ moves ns (Symbol.Digits p) w v b
  unfolding moves
  digits_large e =
      let none : (is_digit b && (leb 1 v && ltb (v * 10 + (b - 48)) 4294967296)) ≡ false =
      and_right (is_digit b) (leb 1 v && ltb (v * 10 + (b - 48)) 4294967296) (and_right (leb 1 v) (ltb (v * 10 + (b - 48)) 4294967296) (le-ltb (v * 10 + (b - 48)) 4294967296 e)) in
      sym (ap (λ t. when t (move inside [] (Symbol.Digits p ∷ []) [] (v * 10 + (b - 48)))) none)

  pub digits_more : true ≡ is_digit b → 1 ≤ v → v * 10 + (b - 48) < 4294967296 → move inside [] (Symbol.Digits p ∷ []) [] (v * 10 + (b - 48)) ≡ moves ns (Symbol.Digits p) w v b
  unfolding moves
  digits_more d e f =
      let all : (is_digit b && (leb 1 v && ltb (v * 10 + (b - 48)) 4294967296)) ≡ true =
      and_from (is_digit b) (leb 1 v && ltb (v * 10 + (b - 48)) 4294967296) (sym d) (and_from (leb 1 v) (ltb (v * 10 + (b - 48)) 4294967296) (le-leb 1 v e) (lt-ltb (v * 10 + (b - 48)) 4294967296 f)) in
      sym (ap (λ t. when t (move inside [] (Symbol.Digits p ∷ []) [] (v * 10 + (b - 48)))) all)

-- a constant is the one pattern of no number, where it is none
pub canonical_same : (x : ℕ) → canonical_bits x ≡ canonical x
unfolding canonical_bits canonical
canonical_same x = go (nan_bits binary64 x) ∙ ap (λ b. pick b 0x7FF8000000000000 x) (nan_bits_above binary64 x)
  where
    go : (b : Bool) → cond b bits_nan x ≡ pick b 0x7FF8000000000000 x
    go true = refl
    go false = refl

-- a constant's digits
pub hex_room : (n v : ℕ) → 0 < n → (n ≤ 16) × (v < 16 ^ (16 - n)) → v < 1152921504606846976
hex_room n v some (few, low) =
    let less : (k : ℕ) → 0 < k → 16 - k ≤ 15 = λ k h. omega arith in
    let most : 16 ^ (16 - n) ≤ 16 ^ 15 = pow-le-pow_right (lit< tt) (less n some) in omega arith

hex_goes : (n x : ℕ) → 2 ≤ n → move inside [] (Symbol.Hex (n - 1) ∷ []) [] x ≡ hex_move n x
unfolding hex_move
hex_goes zero x many = absurd (omega arith)
hex_goes (suc zero) x many = absurd (omega arith)
hex_goes (suc (suc n)) x many = let less : suc (suc n) - 1 ≡ suc n = omega arith in ap (λ m. move inside [] (Symbol.Hex m ∷ []) [] x) less

module _ (ns : List Word) (w : Word) (n v b : ℕ) where
  pub hex_other : false ≡ is_hex b → stop ≡ moves ns (Symbol.Hex n) w v b
  unfolding moves
  hex_other e = ap (λ t. when t (hex_move n (v * 16 + hex_of b))) e

  hex_is : true ≡ is_hex b → hex_move n (v * 16 + hex_of b) ≡ moves ns (Symbol.Hex n) w v b
  unfolding moves
  hex_is e = ap (λ t. when t (hex_move n (v * 16 + hex_of b))) e

  pub hex_none : true ≡ is_hex b → n ≡ 0 → stop ≡ moves ns (Symbol.Hex n) w v b
  unfolding hex_move
  hex_none e z = sym (ap (λ m. hex_move m (v * 16 + hex_of b)) z) ∙ hex_is e

  pub hex_last : true ≡ is_hex b → n ≡ 1 → (x : ℕ) → x ≡ canonical (v * 16 + hex_of b) → move inside (Step.Constant x ∷ []) [] [] 0 ≡ moves ns (Symbol.Hex n) w v b
  unfolding hex_move
  hex_last e one x is =
      ap (λ y. move inside (Step.Constant y ∷ []) [] [] 0) is ∙ (sym (ap (λ m. hex_move m (v * 16 + hex_of b)) one) ∙ hex_is e)

  pub hex_more : true ≡ is_hex b → 2 ≤ n → move inside [] (Symbol.Hex (n - 1) ∷ []) [] (v * 16 + hex_of b) ≡ moves ns (Symbol.Hex n) w v b
  hex_more e many = hex_goes n (v * 16 + hex_of b) many ∙ hex_is e
