-- Bytes that say no step, read in place.
use Rattle.std.proofs.Common.{◌≡◌, ℕ, ◌+◌, ◌-◌, ◌<◌, ◌≤◌, true, false, ◌&&◌, eqb, ltb, leb, List, [], ◌∷◌, ◌++◌, length, get_or, drop, set, None, sym, refl, ap, ◌∙◌, subst, arith, codes}
use Rattle.std.proofs.lemmas.List.{drop-set, length-set, length-take, length_push}
use Rattle.std.proofs.lemmas.Bool.{eq-eqb, ne_eqb, leb-true, lt-ltb, and_parts, and_from, or_right}
use Rattle.semantics.specs.Shapes.{pick}
use Rattle.grammar.specs.declared.symbol.Symbol.{Symbol}
use Rattle.grammar.specs.declared.symbol.Target.{Target}
use Rattle.grammar.specs.declared.symbol.Number.{Number}
use Rattle.grammar.specs.Letters.{inside, begins, opens}
use Rattle.grammar.specs.Words.{Word, begins_some, head_word, heads, is_letter, in_word, all_in_word, shaped}
use Rattle.grammar.specs.Moves.{belongs, viable, viable_name, move, when, push, spelled, line_move, operands_move, moves}
use Rattle.reader.specs.declared.machine.Machine.{Machine}
use Rattle.reader.specs.declared.turn.Mark.{Mark}
use Rattle.reader.specs.Names.{part}
use Rattle.reader.specs.Turning.{flag_of}
use Rattle.reader.specs.Machines.{Good, Replaced, TopIs, Placed, Spells, in_expression, as_target, BetweenLines, outside, within, Reading, ReadOn}
use Rattle.reader.proofs.Turnings.{part_more, part_none, part_one, operands_more}
use Rattle.reader.proofs.Spelled.{viable_room}
use Rattle.reader.proofs.Settling.{names_of, few_used, top_is, settle_goes, turned_by}
use Rattle.reader.proofs.Noting.{hinted_same, never}

-- the topmost symbol as it was
pub kept : (m : Machine) (s : Symbol) → TopIs m s → Replaced m.stack m.top m.stack m.top (s ∷ [])
kept m s top = record { is = top_is m s top.there (sym top.is); down = omega arith; long = refl }

-- one symbol less
pub popped : (xs : List Symbol) (top : ℕ) → Replaced xs top xs (top + 1) []
popped xs top = record { is = refl; down = omega arith; long = refl }

-- another symbol on top
pub topped : (xs : List Symbol) (top : ℕ) (s : Symbol) → top < length xs → Replaced xs top (set xs top s) top (s ∷ [])
topped xs top s there = record { is = drop-set xs top s there; down = omega arith; long = length-set xs top s }

-- ONE BYTE MORE

all_more : (w : Word) (b : ℕ) → all_in_word w ≡ true → in_word b ≡ true → all_in_word (w ++ b ∷ []) ≡ true
unfolding all_in_word
all_more [] b h e = and_from (in_word b) true e refl
all_more (c ∷ w) b h e = let both = and_parts (in_word c) (all_in_word w) h in and_from (in_word c) (all_in_word (w ++ b ∷ [])) both.0 (all_more w b both.1 e)

shaped_more : (w : Word) (b : ℕ) → shaped w ≡ true → in_word b ≡ true → length w < 8 → shaped (w ++ b ∷ []) ≡ true
unfolding shaped
shaped_more [] b h e few = never h
shaped_more (c ∷ w) b h e few =
    let both = and_parts (is_letter c && all_in_word w) (ltb (length w) 8) h in
    let first = and_parts (is_letter c) (all_in_word w) both.0 in
    and_from (is_letter c && all_in_word (w ++ b ∷ [])) (ltb (length (w ++ b ∷ [])) 8)
    (and_from (is_letter c) (all_in_word (w ++ b ∷ [])) first.0 (all_more w b first.1 e))
    (lt-ltb (length (w ++ b ∷ [])) 8 (omega (arith, length_push w b)))

pub still_shaped : (t : List ℕ) (a i : ℕ) → a ≤ i → i < length t → shaped (part t a i) ≡ true → in_word (get_or t i 0) ≡ true → i - a < 8 → shaped (part t a (i + 1)) ≡ true
still_shaped t a i low there h e few =
    ap shaped (part_more t a i low there) ∙ shaped_more (part t a i) (get_or t i 0) h e (omega (arith, length-take (i - a) (drop a t)))

not_hash : (b : ℕ) → is_letter b ≡ true → b ≡ 35 → ⊥
unfolding is_letter
not_hash b e h = let low = leb-true 97 b (and_parts (leb 97 b) (leb b 122) e).0 in omega arith

spelling_belongs : {s : Symbol} (b : ℕ) → Spells s → belongs s b ≡ in_word b
unfolding belongs
spelling_belongs b in_expression = refl
spelling_belongs b as_target = refl

pub letter_shaped : (b : ℕ) → is_letter b ≡ true → shaped (b ∷ []) ≡ true
unfolding shaped all_in_word
letter_shaped b letter = ap (λ x. x && true && true) letter

between_belongs : {s : Symbol} (b : ℕ) → BetweenLines s → belongs s b ≡ true
unfolding belongs
between_belongs b outside = refl
between_belongs b within = refl

between_let : {s : Symbol} (ns : List Word) (w : Word) (v b : ℕ) → BetweenLines s → b ≡ 108
    → move begins [] (Symbol.Byte 101 ∷ Symbol.Byte 116 ∷ Symbol.Byte 32 ∷ Symbol.Target Target.Let ∷ Symbol.Byte 10 ∷ s ∷ []) [] 0 ≡ moves ns s w v b
unfolding moves line_move spelled
between_let ns w v b outside e = sym (ap (λ x. moves ns Symbol.Lines w v x) e)
between_let ns w v b within e = sym (ap (λ x. moves ns Symbol.Body w v x) e)

between_again : {s : Symbol} (ns : List Word) (w : Word) (v b : ℕ) → BetweenLines s → b ≡ 97
    → move opens [] (spelled (codes "gain ") (Symbol.Number Number.Again ∷ Symbol.Byte 10 ∷ s ∷ [])) [] 0 ≡ moves ns s w v b
unfolding moves line_move
between_again ns w v b outside e = sym (ap (λ x. moves ns Symbol.Lines w v x) e)
between_again ns w v b within e = sym (ap (λ x. moves ns Symbol.Body w v x) e)

module _ (t : List ℕ) (i : ℕ) (m : Machine) (on : Reading t i m) where
  good : Good i 8 m
  good = on.good

  pub read_on : (new : Machine) (x : Mark) (s : Symbol) (p : List Symbol) (u : Word) → TopIs m s → belongs s (get_or t i 0) ≡ true
      → move (flag_of x) [] p u new.value ≡ moves (names_of t m) s (part t m.word i) m.value (get_or t i 0)
      → new.names ≡ m.names → new.count ≡ m.count → new.hints ≡ m.hints → Replaced m.stack m.top new.stack new.top p → part t new.word (i + 1) ≡ u → new.word ≤ i + 1
      → (new.clean ≡ true → shaped (part t new.word (i + 1)) ≡ true) → ReadOn t i m new x
  read_on new x s p u top fits k names count hints down word begun shape =
      record {
        still = λ out. settle_goes m (get_or m.stack m.top Symbol.Lines) top.there refl t i (get_or t i 0) out (sym (ap (λ y. belongs y (get_or t i 0)) top.is ∙ fits));
        turned =
            turned_by t i m new x None p u good (omega (arith, top.there, good.wide)) (k ∙ sym (ap (λ y. moves (names_of t m) y (part t m.word i) m.value (get_or t i 0)) top.is)) names count down word begun;
        hinted = hinted_same t i (i + 1) m new on.hinted names count hints shape;
      }

  -- the next word begins behind the byte
  pub placed_on : (new : Machine) (x : Mark) (s : Symbol) (p : List Symbol) → TopIs m s → belongs s (get_or t i 0) ≡ true
      → move (flag_of x) [] p [] 0 ≡ moves (names_of t m) s (part t m.word i) m.value (get_or t i 0)
      → Placed m new p (i + 1) → ReadOn t i m new x
  placed_on new x s p top fits k placed =
      read_on new x s p [] top fits (ap (λ v. move (flag_of x) [] p [] v) placed.value ∙ k) placed.names placed.count placed.hints placed.down
      (ap (λ a. part t a (i + 1)) placed.begins ∙ part_none t (i + 1)) (omega (arith, placed.begins)) (λ is. never (sym placed.dirty ∙ is))

  pub byte_read : (c : ℕ) (new : Machine) → TopIs m (Symbol.Byte c) → get_or t i 0 ≡ c → Placed m new [] (i + 1) → ReadOn t i m new Mark.Inside
  unfolding belongs moves when push
  byte_read c new top same placed = placed_on new Mark.Inside (Symbol.Byte c) [] top refl (sym (ap (λ x. when x (push [])) (eq-eqb (get_or t i 0) c same))) placed

  -- BYTES OF WORDS

  module _ (letter : in_word (get_or t i 0) ≡ true) (whole : shaped (part t m.word (i + 1)) ≡ true) (few : m.count < 64) where
    more : part t m.word (i + 1) ≡ part t m.word i ++ get_or t i 0 ∷ []
    more = part_more t m.word i good.begun on.inside

    viable_more : viable_name (names_of t m) (part t m.word i ++ get_or t i 0 ∷ []) ≡ true
    viable_more =
        subst (λ w. viable_name (names_of t m) w ≡ true) more (sym (viable_room (names_of t m) (part t m.word (i + 1)) (sym whole) (omega (arith, few_used t i 8 m good))))

    spelling_moves : {s : Symbol} → Spells s → move inside [] (s ∷ []) (part t m.word i ++ get_or t i 0 ∷ []) 0 ≡ moves (names_of t m) s (part t m.word i) m.value (get_or t i 0)
    unfolding moves when viable
    spelling_moves in_expression =
        let w = part t m.word i ++ get_or t i 0 ∷ [] in
        sym (ap (λ x. when x (move inside [] (Symbol.Word ∷ []) w 0)) (or_right (begins_some head_word heads w) (viable_name (names_of t m) w) viable_more))
    spelling_moves (as_target {x = x}) =
        let w = part t m.word i ++ get_or t i 0 ∷ [] in sym (ap (λ y. when y (move inside [] (Symbol.Target x ∷ []) w 0)) viable_more)

    pub word_read : (s : Symbol) → TopIs m s → Spells s
        → ReadOn t i m (record { stack = m.stack; top = m.top; names = m.names; count = m.count; word = m.word; value = 0; hints = m.hints; clean = true }) Mark.Inside
    word_read s top spells =
        read_on _ Mark.Inside s (s ∷ []) (part t m.word i ++ get_or t i 0 ∷ []) top (spelling_belongs (get_or t i 0) spells ∙ letter) (spelling_moves spells) refl refl refl
        (kept m s top) more (omega (arith, good.begun)) (λ is. whole)

  -- BEHIND OPERANDS

  pub last_read : (n : ℕ) (new : Machine) → TopIs m (Symbol.Operands n) → n ≡ 0 → get_or t i 0 ≡ 41 → Placed m new [] (i + 1) → ReadOn t i m new Mark.Inside
  unfolding belongs moves when push operands_move
  last_read n new top none same placed =
      placed_on new Mark.Inside (Symbol.Operands n) [] top refl
      (sym (ap (λ k. operands_move k (get_or t i 0)) none ∙ ap (λ x. when x (push [])) (eq-eqb (get_or t i 0) 41 same))) placed

  pub comma_read : (n : ℕ) (new : Machine) → TopIs m (Symbol.Operands n) → 0 < n → get_or t i 0 ≡ 44
      → Placed m new (Symbol.Byte 32 ∷ Symbol.Expr ∷ Symbol.Operands (n - 1) ∷ []) (i + 1) → ReadOn t i m new Mark.Inside
  unfolding belongs moves when push
  comma_read n new top some same placed =
      placed_on new Mark.Inside (Symbol.Operands n) (Symbol.Byte 32 ∷ Symbol.Expr ∷ Symbol.Operands (n - 1) ∷ []) top refl
      (sym (ap (λ x. when x (push (Symbol.Byte 32 ∷ Symbol.Expr ∷ Symbol.Operands (n - 1) ∷ []))) (eq-eqb (get_or t i 0) 44 same)) ∙ operands_more n (get_or t i 0) some) placed

  -- THE FIRST LETTER OF AN EXPRESSION

  pub letter_read : (mid : Machine) → TopIs m Symbol.Expr → m.count < 64 → is_letter (get_or t i 0) ≡ true → Placed m mid (Symbol.Word ∷ []) i
      → ReadOn t i m (record { stack = mid.stack; top = mid.top; names = mid.names; count = mid.count; word = mid.word; value = mid.value; hints = mid.hints; clean = true }) Mark.Begins
  unfolding belongs moves when viable shaped all_in_word
  letter_read mid top few letter placed =
      let b = get_or t i 0 in
      let new = letter_shaped b letter in
      let named : viable_name (names_of t m) (b ∷ []) ≡ true = sym (viable_room (names_of t m) (b ∷ []) (sym new) (omega (arith, few_used t i 8 m good))) in
      let other : eqb b 35 ≡ false = ne_eqb b 35 (not_hash b letter) in
      let word : part t mid.word (i + 1) ≡ b ∷ [] = ap (λ a. part t a (i + 1)) placed.begins ∙ part_one t i on.inside in
      read_on _ Mark.Begins Symbol.Expr (Symbol.Word ∷ []) (b ∷ []) top refl
      (ap (λ v. move begins [] (Symbol.Word ∷ []) (b ∷ []) v) placed.value
      ∙ sym (ap (λ x. pick x (move begins [] (Symbol.Hex 16 ∷ []) [] 0) (when (viable (names_of t m) (b ∷ [])) (move begins [] (Symbol.Word ∷ []) (b ∷ []) 0))) other
      ∙ ap (λ x. when x (move begins [] (Symbol.Word ∷ []) (b ∷ []) 0)) (or_right (begins_some head_word heads (b ∷ [])) (viable_name (names_of t m) (b ∷ [])) named)))
      placed.names placed.count placed.hints placed.down word (omega (arith, placed.begins)) (λ is. ap shaped word ∙ new)

  -- THE FIRST BYTE OF A STATEMENT

  pub let_read : (s : Symbol) (new : Machine) → TopIs m s → BetweenLines s → get_or t i 0 ≡ 108
      → Placed m new (Symbol.Byte 101 ∷ Symbol.Byte 116 ∷ Symbol.Byte 32 ∷ Symbol.Target Target.Let ∷ Symbol.Byte 10 ∷ s ∷ []) (i + 1) → ReadOn t i m new Mark.Begins
  let_read s new top between same placed =
      placed_on new Mark.Begins s (Symbol.Byte 101 ∷ Symbol.Byte 116 ∷ Symbol.Byte 32 ∷ Symbol.Target Target.Let ∷ Symbol.Byte 10 ∷ s ∷ []) top (between_belongs (get_or t i 0) between)
      (between_let (names_of t m) (part t m.word i) m.value (get_or t i 0) between same) placed

  pub again_read : (s : Symbol) (new : Machine) → TopIs m s → BetweenLines s → get_or t i 0 ≡ 97
      → Placed m new (spelled (codes "gain ") (Symbol.Number Number.Again ∷ Symbol.Byte 10 ∷ s ∷ [])) (i + 1) → ReadOn t i m new Mark.Opens
  again_read s new top between same placed =
      placed_on new Mark.Opens s (spelled (codes "gain ") (Symbol.Number Number.Again ∷ Symbol.Byte 10 ∷ s ∷ [])) top (between_belongs (get_or t i 0) between)
      (between_again (names_of t m) (part t m.word i) m.value (get_or t i 0) between same) placed
