-- The table keeps stacks sound: what an ending or a move puts in a symbol's place may stand there.
use Rattle.std.proofs.Common.{◌≡◌, ℕ, zero, suc, ◌+◌, ◌-◌, ◌*◌, ◌^◌, ◌<◌, ◌≤◌, Bool, true, false, ◌&&◌, ◌||◌, eqb, ltb, leb, List, [], ◌∷◌, ◌++◌, length, Some, None, codes, Option, refl, ap, ◌∙◌, inl, inr, pow-suc, arith}
use Rattle.std.proofs.lemmas.List.{length_push}
use Rattle.std.proofs.lemmas.Bool.{and_parts, ltb-true, false≢true}
use Rattle.semantics.specs.Shapes.{pick}
use Rattle.semantics.specs.declared.operation.Binary.{Binary as Two}
use Rattle.program.specs.declared.step.Step.{Step}
use Rattle.grammar.specs.declared.symbol.Symbol.{Symbol}
use Rattle.grammar.specs.declared.symbol.Number.{Number}
use Rattle.grammar.specs.declared.symbol.Head.{Head}
use Rattle.grammar.specs.declared.symbol.Along.{Along}
use Rattle.grammar.specs.declared.symbol.Target.{Target}
use Rattle.grammar.specs.declared.symbol.Bracket.{Bracket}
use Rattle.grammar.specs.Letters.{Flag, inside, begins, closes}
use Rattle.grammar.specs.Words.{Word, find, begins_some, is_some, itself, is_name, head_word, heads, binary_word, binaries, is_digit}
use Rattle.grammar.specs.Moves.{place, with_name, can_name, viable, viable_name, spelled, operands, head_step, head_rest, target_step, target_rest, number_step, number_rest, Ended, no, ended, name_ends, word_ends, binary_ends, ends, Move, stop, move, push, when, line_move, digit_move, item_number, is_hex, hex_of, hex_move, operands_move, moves}
use Rattle.reader.specs.Turning.{Fit}
use Rattle.reader.specs.Machines.{Plain, Plains, none, more}
use Rattle.reader.proofs.Turnings.{digit_low, hex_low, hex_of_low, hex_of_high}
use Rattle.reader.proofs.Depths.{legal}

abbrev plain : Symbol → Bool
plain Symbol.Lines = true
plain Symbol.Body = true
plain (Symbol.Byte c) = true
plain (Symbol.Target x) = true
plain Symbol.Expr = true
plain Symbol.Word = true
plain (Symbol.Binary a) = true
plain (Symbol.Number p) = true
plain (Symbol.Digits p) = false
plain (Symbol.Hex n) = false
plain (Symbol.Operands n) = true
plain (Symbol.First k) = true
plain (Symbol.More k) = true
plain (Symbol.Item k) = true
plain (Symbol.Step f) = true

abbrev plains : List Symbol → Bool
plains [] = true
plains (s ∷ ss) = plain s && plains ss

is_plain : (s : Symbol) → plain s ≡ true → Plain s
is_plain Symbol.Lines e = tt
is_plain Symbol.Body e = tt
is_plain (Symbol.Byte c) e = tt
is_plain (Symbol.Target x) e = tt
is_plain Symbol.Expr e = tt
is_plain Symbol.Word e = tt
is_plain (Symbol.Binary a) e = tt
is_plain (Symbol.Number p) e = tt
is_plain (Symbol.Digits p) e = absurd (false≢true e)
is_plain (Symbol.Hex n) e = absurd (false≢true e)
is_plain (Symbol.Operands n) e = tt
is_plain (Symbol.First k) e = tt
is_plain (Symbol.More k) e = tt
is_plain (Symbol.Item k) e = tt
is_plain (Symbol.Step f) e = tt

are_plain : (ss : List Symbol) → plains ss ≡ true → Plains ss
are_plain [] e = none
are_plain (s ∷ ss) e = let both = and_parts (plain s) (plains ss) e in more (is_plain s both.0) (are_plain ss both.1)

pub plain_fits : (s : Symbol) (v : ℕ) → Plain s → Fit s v
plain_fits Symbol.Lines v p = tt
plain_fits Symbol.Body v p = tt
plain_fits (Symbol.Byte c) v p = tt
plain_fits (Symbol.Target x) v p = tt
plain_fits Symbol.Expr v p = tt
plain_fits Symbol.Word v p = tt
plain_fits (Symbol.Binary a) v p = tt
plain_fits (Symbol.Number q) v p = tt
plain_fits (Symbol.Digits q) v p = absurd p
plain_fits (Symbol.Hex n) v p = absurd p
plain_fits (Symbol.Operands n) v p = tt
plain_fits (Symbol.First k) v p = tt
plain_fits (Symbol.More k) v p = tt
plain_fits (Symbol.Item k) v p = tt
plain_fits (Symbol.Step f) v p = tt

-- what is pushed, with the number so far
pub data Ready : List Symbol → ℕ → Type 0 where
  gone : Ready [] 0
  top : {s : Symbol} {ss : List Symbol} {v : ℕ} → Fit s v → Plains ss → Ready (s ∷ ss) v

ready_plain : (ss : List Symbol) → plains ss ≡ true → Ready ss 0
ready_plain [] e = gone
ready_plain (s ∷ ss) e = let both = and_parts (plain s) (plains ss) e in top (plain_fits s 0 (is_plain s both.0)) (are_plain ss both.1)

-- ENDINGS

pub data LegalEnd (s : Symbol) : Ended → Type 0 where
  never : LegalEnd s no
  ending : {ns : List Word} {es : List Step} {t : List Symbol} → legal s inside es t ≡ true → Plains t → length ns ≤ 64 → LegalEnd s (ended ns es t)

picked_end : (s : Symbol) (x : Bool) (e : Ended) → (x ≡ true → LegalEnd s e) → LegalEnd s (pick x e no)
picked_end s true e h = h refl
picked_end s false e h = never

module _ (ns : List Word) (few : length ns ≤ 64) where
  few_with : (x : Bool) (w : Word) → (x || ltb (length ns) 64) ≡ true → length (pick x ns (ns ++ w ∷ [])) ≤ 64
  few_with true w e = few
  few_with false w e = let room = ltb-true (length ns) 64 e in omega (arith, length_push ns w)

  few_names : (w : Word) → can_name ns w ≡ true → length (with_name ns w) ≤ 64
  unfolding can_name with_name
  few_names w e =
      let both = and_parts (is_name w) (is_some itself ns w || ltb (length ns) 64) e in few_with (is_some itself ns w) w both.1

  name_legal : (s : Symbol) (w : Word) (step : ℕ → Step) (t : List Symbol) → ((k : ℕ) → legal s inside (step k ∷ []) t ≡ true) → plains t ≡ true → LegalEnd s (name_ends ns w step t)
  unfolding name_ends
  name_legal s w step t h p =
      picked_end s (can_name ns w) (ended (with_name ns w) (step (place ns w) ∷ []) t) (λ e. ending (h (place ns w)) (are_plain t p) (few_names w e))

  head_legal : (h : Head) → LegalEnd Symbol.Word (ended ns (head_step h) (head_rest h))
  unfolding legal head_step head_rest
  head_legal Head.In = ending refl (are_plain (head_rest Head.In) refl) few
  head_legal Head.Count = ending refl (are_plain (head_rest Head.Count) refl) few
  head_legal (Head.Each k) = ending refl (are_plain (head_rest (Head.Each k)) refl) few
  head_legal (Head.Both k) = ending refl (are_plain (head_rest (Head.Both k)) refl) few
  head_legal Head.Choose = ending refl (are_plain (head_rest Head.Choose) refl) few
  head_legal Head.Fold = ending refl (are_plain (head_rest Head.Fold) refl) few
  head_legal Head.Scan = ending refl (are_plain (head_rest Head.Scan) refl) few
  head_legal Head.Shape = ending refl (are_plain (head_rest Head.Shape) refl) few
  head_legal Head.Turn = ending refl (are_plain (head_rest Head.Turn) refl) few
  head_legal Head.Part = ending refl (are_plain (head_rest Head.Part) refl) few
  head_legal Head.Join = ending refl (are_plain (head_rest Head.Join) refl) few
  head_legal Head.Rows = ending refl (are_plain (head_rest Head.Rows) refl) few

  word_legal : (w : Word) (o : Option Head) → LegalEnd Symbol.Word (word_ends ns w o)
  unfolding legal word_ends
  word_legal w (Some h) = head_legal h
  word_legal w None = name_legal Symbol.Word w (λ k. Step.Name k) [] (λ k. refl) refl

  binary_legal : (a : Along) (o : Option Two) → LegalEnd (Symbol.Binary a) (binary_ends ns a o)
  unfolding legal binary_ends
  binary_legal a (Some k) = ending refl (are_plain (Symbol.Byte 32 ∷ Symbol.Number (Number.Along a k) ∷ []) refl) few
  binary_legal a None = never

  target_legal : (x : Target) (w : Word) → LegalEnd (Symbol.Target x) (name_ends ns w (λ k. target_step x k) (target_rest x))
  unfolding legal target_rest
  target_legal Target.Let w = name_legal (Symbol.Target Target.Let) w (λ k. target_step Target.Let k) (target_rest Target.Let) (λ k. refl) refl
  target_legal Target.Put w = name_legal (Symbol.Target Target.Put) w (λ k. target_step Target.Put k) (target_rest Target.Put) (λ k. refl) refl

  number_legal : (p : Number) (v : ℕ) → LegalEnd (Symbol.Digits p) (ended ns (number_step p v) (number_rest p v))
  unfolding legal number_step number_rest
  number_legal Number.Input v = ending refl none few
  number_legal Number.Count v = ending refl none few
  number_legal (Number.Along a k) v = ending refl (are_plain (operands 0) refl) few
  number_legal Number.Join v = ending refl (are_plain (operands 1) refl) few
  number_legal Number.Again v = ending refl (are_plain (number_rest Number.Again v) refl) few
  number_legal Number.Item v = ending refl none few
  number_legal Number.From v = ending refl (are_plain (number_rest Number.From v) refl) few
  number_legal (Number.Step f b) v = ending refl (are_plain (number_rest (Number.Step f b) v) refl) few
  number_legal (Number.Many f b s) v = ending refl none few

  pub ends_legal : (s : Symbol) (w : Word) (v : ℕ) → LegalEnd s (ends ns s w v)
  unfolding ends
  ends_legal Symbol.Lines w v = never
  ends_legal Symbol.Body w v = never
  ends_legal (Symbol.Byte c) w v = never
  ends_legal (Symbol.Target x) w v = target_legal x w
  ends_legal Symbol.Expr w v = never
  ends_legal Symbol.Word w v = word_legal w (find head_word heads w)
  ends_legal (Symbol.Binary a) w v = binary_legal a (find binary_word binaries w)
  ends_legal (Symbol.Number p) w v = never
  ends_legal (Symbol.Digits p) w v = number_legal p v
  ends_legal (Symbol.Hex n) w v = never
  ends_legal (Symbol.Operands n) w v = never
  ends_legal (Symbol.First k) w v = never
  ends_legal (Symbol.More k) w v = never
  ends_legal (Symbol.Item k) w v = never
  ends_legal (Symbol.Step f) w v = never

-- MOVES

pub data LegalMove (s : Symbol) : Move → Type 0 where
  stopped : LegalMove s stop
  goes : {x : Flag} {es : List Step} {t : List Symbol} {u : Word} {n : ℕ} → legal s x es t ≡ true → Ready t n → LegalMove s (move x es t u n)

module _ (s : Symbol) where
  legal_when : (x : Bool) (m : Move) → (x ≡ true → LegalMove s m) → LegalMove s (when x m)
  unfolding when
  legal_when true m h = h refl
  legal_when false m h = stopped

  legal_pick : (x : Bool) (m n : Move) → LegalMove s m → LegalMove s n → LegalMove s (pick x m n)
  legal_pick true m n h k = h
  legal_pick false m n h k = k

  legal_push : (t : List Symbol) → legal s inside [] t ≡ true → plains t ≡ true → LegalMove s (push t)
  unfolding push
  legal_push t e p = goes e (ready_plain t p)

  legal_digit : (x : Flag) (p : Number) (t : List Symbol) (b : ℕ) → legal s x [] (Symbol.Digits p ∷ t) ≡ true → plains t ≡ true → LegalMove s (digit_move x p t b)
  unfolding digit_move
  legal_digit x p t b e q =
      legal_when (is_digit b) (move x [] (Symbol.Digits p ∷ t) [] (b - 48)) (λ d. let low = digit_low b d in goes e (top (omega arith) (are_plain t q)))

lines_legal : (b : ℕ) → LegalMove Symbol.Lines (line_move Symbol.Lines stop b)
unfolding legal line_move
lines_legal b =
    legal_pick Symbol.Lines (eqb b 108) _ _ (goes refl (ready_plain _ refl))
    (legal_pick Symbol.Lines (eqb b 112) _ _ (goes refl (ready_plain _ refl))
    (legal_pick Symbol.Lines (eqb b 115) _ _ (goes refl (ready_plain _ refl)) (legal_pick Symbol.Lines (eqb b 97) _ _ (goes refl (ready_plain _ refl)) stopped)))

body_legal : (b : ℕ) → LegalMove Symbol.Body (line_move Symbol.Body (when (eqb b 101) (move closes (Step.End ∷ []) (spelled (codes "nd") []) [] 0)) b)
unfolding legal line_move
body_legal b =
    legal_pick Symbol.Body (eqb b 108) _ _ (goes refl (ready_plain _ refl))
    (legal_pick Symbol.Body (eqb b 112) _ _ (goes refl (ready_plain _ refl))
    (legal_pick Symbol.Body (eqb b 115) _ _ (goes refl (ready_plain _ refl))
    (legal_pick Symbol.Body (eqb b 97) _ _ (goes refl (ready_plain _ refl)) (legal_when Symbol.Body (eqb b 101) _ (λ e. goes refl (ready_plain _ refl))))))

-- a digit more, of whatever the number is for
digits_stay : (p : Number) → legal (Symbol.Digits p) inside [] (Symbol.Digits p ∷ []) ≡ true
unfolding legal
digits_stay Number.Input = refl
digits_stay Number.Count = refl
digits_stay (Number.Along a k) = refl
digits_stay Number.Join = refl
digits_stay Number.Again = refl
digits_stay Number.Item = refl
digits_stay Number.From = refl
digits_stay (Number.Step f b) = refl
digits_stay (Number.Many f b s) = refl

digits_begin : (p : Number) → legal (Symbol.Number p) inside [] (Symbol.Digits p ∷ []) ≡ true
unfolding legal
digits_begin Number.Input = refl
digits_begin Number.Count = refl
digits_begin (Number.Along a k) = refl
digits_begin Number.Join = refl
digits_begin Number.Again = refl
digits_begin Number.Item = refl
digits_begin Number.From = refl
digits_begin (Number.Step f b) = refl
digits_begin (Number.Many f b s) = refl

first_begins : (k : Bracket) → legal (Symbol.First k) begins [] (Symbol.Digits (item_number k) ∷ Symbol.More k ∷ []) ≡ true
unfolding legal item_number
first_begins Bracket.Numbers = refl
first_begins Bracket.Parts = refl

item_begins : (k : Bracket) → legal (Symbol.Item k) begins [] (Symbol.Digits (item_number k) ∷ []) ≡ true
unfolding legal item_number
item_begins Bracket.Numbers = refl
item_begins Bracket.Parts = refl

operands_legal : (n b : ℕ) → LegalMove (Symbol.Operands n) (operands_move n b)
unfolding legal operands_move
operands_legal zero b = legal_when (Symbol.Operands zero) (eqb b 41) (push []) (λ e. legal_push (Symbol.Operands zero) [] refl refl)
operands_legal (suc n) b =
    legal_when (Symbol.Operands (suc n)) (eqb b 44) (push (Symbol.Byte 32 ∷ Symbol.Expr ∷ Symbol.Operands n ∷ []))
    (λ e. legal_push (Symbol.Operands (suc n)) (Symbol.Byte 32 ∷ Symbol.Expr ∷ Symbol.Operands n ∷ []) refl refl)

hex_digit : (b : ℕ) → is_hex b ≡ true → hex_of b < 16
hex_digit b e =
    elim (hex_low b e) [
      | inl p ↦ let is = hex_of_low b (omega arith) in omega arith
      | inr p ↦ let is = hex_of_high b (omega arith) in omega arith
    ]

hex_fits : (n v d : ℕ) → suc (suc n) ≤ 16 → v < 16 ^ (16 - suc (suc n)) → d < 16 → v * 16 + d < 16 ^ (16 - suc n)
hex_fits n v d few low small =
    let less : 16 - suc n ≡ suc (16 - suc (suc n)) = omega arith in
    let up : 16 ^ (16 - suc n) ≡ 16 ^ (16 - suc (suc n)) * 16 = ap (λ k. 16 ^ k) less ∙ pow-suc 16 (16 - suc (suc n)) in omega arith

hex_legal : (n v d : ℕ) → Fit (Symbol.Hex n) v → d < 16 → LegalMove (Symbol.Hex n) (hex_move n (v * 16 + d))
unfolding legal hex_move
hex_legal zero v d fit small = stopped
hex_legal (suc zero) v d fit small = goes refl gone
hex_legal (suc (suc n)) v d fit small = goes refl (top (omega arith, hex_fits n v d fit.0 fit.1 small) none)

-- a byte that was read is gone
gone_byte : (t : Bool) → (leb 0 (pick t 1 0 + 0) && true) ≡ true
gone_byte true = refl
gone_byte false = refl

gone_legal : (c : ℕ) → legal (Symbol.Byte c) inside [] [] ≡ true
unfolding legal
gone_legal c = gone_byte (eqb c 10)

pub moves_legal : (ns : List Word) (s : Symbol) (w : Word) (v b : ℕ) → Fit s v → LegalMove s (moves ns s w v b)
unfolding legal moves
moves_legal ns Symbol.Lines w v b fit = lines_legal b
moves_legal ns Symbol.Body w v b fit = body_legal b
moves_legal ns (Symbol.Byte c) w v b fit = legal_when (Symbol.Byte c) (eqb b c) (push []) (λ e. legal_push (Symbol.Byte c) [] (gone_legal c) refl)
moves_legal ns (Symbol.Target x) w v b fit = legal_when (Symbol.Target x) (viable_name ns (w ++ b ∷ [])) _ (λ e. goes refl (top tt none))
moves_legal ns Symbol.Expr w v b fit =
    legal_pick Symbol.Expr (eqb b 35) _ _ (goes refl (top (omega arith, omega arith) none)) (legal_when Symbol.Expr (viable ns (b ∷ [])) _ (λ e. goes refl (top tt none)))
moves_legal ns Symbol.Word w v b fit = legal_when Symbol.Word (viable ns (w ++ b ∷ [])) _ (λ e. goes refl (top tt none))
moves_legal ns (Symbol.Binary a) w v b fit = legal_when (Symbol.Binary a) (begins_some binary_word binaries (w ++ b ∷ [])) _ (λ e. goes refl (top tt none))
moves_legal ns (Symbol.Number p) w v b fit = legal_digit (Symbol.Number p) inside p [] b (digits_begin p) refl
moves_legal ns (Symbol.Digits p) w v b fit =
    legal_when (Symbol.Digits p) (is_digit b && (leb 1 v && ltb (v * 10 + (b - 48)) 4294967296)) (move inside [] (Symbol.Digits p ∷ []) [] (v * 10 + (b - 48)))
    (λ e. let first = and_parts (is_digit b) (leb 1 v && ltb (v * 10 + (b - 48)) 4294967296) e in
    let second = and_parts (leb 1 v) (ltb (v * 10 + (b - 48)) 4294967296) first.1 in
    goes (digits_stay p) (top (ltb-true (v * 10 + (b - 48)) 4294967296 second.1) none))
moves_legal ns (Symbol.Hex n) w v b fit =
    legal_when (Symbol.Hex n) (is_hex b) (hex_move n (v * 16 + hex_of b)) (λ e. hex_legal n v (hex_of b) fit (hex_digit b e))
moves_legal ns (Symbol.Operands n) w v b fit = operands_legal n b
moves_legal ns (Symbol.First k) w v b fit =
    legal_pick (Symbol.First k) (eqb b 93) (push []) _ (legal_push (Symbol.First k) [] refl refl)
    (legal_digit (Symbol.First k) begins (item_number k) (Symbol.More k ∷ []) b (first_begins k) refl)
moves_legal ns (Symbol.More k) w v b fit =
    legal_pick (Symbol.More k) (eqb b 93) (push []) _ (legal_push (Symbol.More k) [] refl refl)
    (legal_when (Symbol.More k) (eqb b 44) _ (λ e. legal_push (Symbol.More k) (Symbol.Byte 32 ∷ Symbol.Item k ∷ Symbol.More k ∷ []) refl refl))
moves_legal ns (Symbol.Item k) w v b fit = legal_digit (Symbol.Item k) begins (item_number k) [] b (item_begins k) refl
moves_legal ns (Symbol.Step f) w v b fit =
    legal_pick (Symbol.Step f) (eqb b 45) (push (Symbol.Number (Number.Step f true) ∷ [])) _ (legal_push (Symbol.Step f) (Symbol.Number (Number.Step f true) ∷ []) refl refl)
    (legal_digit (Symbol.Step f) inside (Number.Step f false) [] b refl refl)
