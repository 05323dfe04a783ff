-- A byte read is a letter more before what the symbols then say.
use Rattle.std.proofs.Common.{◌≡◌, ℕ, zero, suc, ◌+◌, ◌-◌, ◌*◌, ◌/◌, ◌%◌, ◌<◌, ◌≤◌, Bool, true, false, ◌&&◌, eqb, ltb, leb, List, [], ◌∷◌, ◌++◌, length, codes, decimal, sym, refl, ap, ◌∙◌, subst, ⊎_elim, append_assoc, arith}
use Rattle.std.proofs.lemmas.Fmt.{decimal_digit, decimal_step}
use Rattle.std.proofs.lemmas.Bool.{and_parts, or_cases, eqb-true, leb-true, ltb-true, lt-ltb, le-ltb}
use Rattle.semantics.specs.Shapes.{pick}
use Rattle.program.specs.declared.step.Step.{Step}
use Rattle.program.specs.Spelling.{items, slices, spell, spell_program}
use Rattle.grammar.specs.Letters.{Flag, inside, begins, opens, closes, Letter, letter, plain, plains, flagged}
use Rattle.grammar.specs.Words.{Word, is_digit, begins_some, binary_word, binaries}
use Rattle.grammar.specs.Constants.{canonical, hex_value, read_constant, read_expr, read_program}
use Rattle.grammar.specs.Sayable.{fit_end, fit_be, fit_put, fit_show, fit_again, fit_constant, none, more}
use Rattle.grammar.specs.Written.{hex_byte, write_hex, write_number, write_item, write_items, write_more_items, write_part, write_parts, write_more_parts, write_expr, write_lines}
use Rattle.grammar.specs.Moves.{Move, stop, move, moves, when, push, spelled, line_move, digit_move, item_number, is_hex, hex_of, hex_move, operands_move, viable, viable_name}
use Rattle.grammar.specs.declared.symbol.Target.{Target}
use Rattle.grammar.specs.declared.symbol.Bracket.{Bracket}
use Rattle.grammar.specs.declared.symbol.Number.{Number}
use Rattle.grammar.specs.declared.symbol.Symbol.{Symbol}
use Rattle.grammar.specs.Automaton.{onto}
use Rattle.grammar.proofs.NumberAlong.{flagged_snoc}
use Rattle.grammar.proofs.Says.{Says, SaysAll, says_next, an_again, an_item, a_from, a_step, says_lines, says_body, says_byte, says_let, says_put, says_expr, says_word, says_binary, says_number, says_digits, says_hex, says_close, says_more, says_first_items, says_first_parts, says_more_items, says_more_parts, says_item, says_part, says_step}

-- what is then said, said of the symbol before
abbrev pub Backs : List Word → Symbol → Word → ℕ → ℕ → Flag → List Step → List Symbol → Word → ℕ → Type 0
Backs ms s w v b x es s' u k =
    (rest : List Symbol) (n o : ℕ) (f : List Letter) (a : List Step) → SaysAll ms (s' ++ rest) u k n o f a → SaysAll ms (s ∷ rest) w v n o (letter x b ∷ f) (onto es a)

pub data Back (ms : List Word) (s : Symbol) (w : Word) (v b : ℕ) : Move → Type 0 where
  back_stop : Back ms s w v b stop
  back_move : {x : Flag} {es : List Step} {s' : List Symbol} {u : Word} {k : ℕ} → Backs ms s w v b x es s' u k → Back ms s w v b (move x es s' u k)

pub when_told : (P : Move → Type 0) (t : Bool) {m : Move} → (t ≡ true → P m) → P stop → P (when t m)
unfolding when
when_told P true p q = p refl
when_told P false p q = q

pub pick_told : {A : Type 0} (P : A → Type 0) (t : Bool) {x y : A} → (t ≡ true → P x) → (t ≡ false → P y) → P (pick t x y)
pick_told P true p q = p refl
pick_told P false p q = q refl

-- a symbol that waits for one byte
pub at_byte : (ms : List Word) (s : Symbol) (w : Word) (v b c : ℕ) {m : Move} → Back ms s w v c m → eqb b c ≡ true → Back ms s w v b m
at_byte ms s w v b c {m} h e = subst (λ x. Back ms s w v x m) (sym (eqb-true b c e)) h

let_lines : (ms : List Word) (w : Word) (v : ℕ) → Backs ms Symbol.Lines w v 108 begins [] (spelled (codes "et ") (Symbol.Target Target.Let ∷ Symbol.Byte 10 ∷ Symbol.Lines ∷ [])) [] 0
unfolding spelled write_lines read_program spell_program plains flagged
let_lines ms w v rest n o f a (says_next says_byte (says_next says_byte (says_next says_byte (says_next (says_let u c q y) (says_next says_byte (says_next (says_lines z) r)))))) =
    rw (sym q) (says_next (says_lines (fit_be c y z)) r)

put_lines : (ms : List Word) (w : Word) (v : ℕ) → Backs ms Symbol.Lines w v 112 begins [] (spelled (codes "ut ") (Symbol.Target Target.Put ∷ Symbol.Byte 10 ∷ Symbol.Lines ∷ [])) [] 0
unfolding spelled write_lines read_program spell_program plains flagged
put_lines ms w v rest n o f a (says_next says_byte (says_next says_byte (says_next says_byte (says_next (says_put u c q h y) (says_next says_byte (says_next (says_lines z) r)))))) =
    rw (sym q) (says_next (says_lines (fit_put c h y z)) r)

show_lines : (ms : List Word) (w : Word) (v : ℕ) → Backs ms Symbol.Lines w v 115 begins (Step.Show ∷ []) (spelled (codes "how ") (Symbol.Expr ∷ Symbol.Byte 10 ∷ Symbol.Lines ∷ [])) [] 0
unfolding spelled write_lines read_program spell_program plains flagged
show_lines ms w v rest n o f a (says_next says_byte (says_next says_byte (says_next says_byte (says_next says_byte (says_next (says_expr y) (says_next says_byte (says_next (says_lines z) r))))))) =
    says_next (says_lines (fit_show y z)) r

again_lines : (ms : List Word) (w : Word) (v : ℕ) → Backs ms Symbol.Lines w v 97 opens [] (spelled (codes "gain ") (Symbol.Number Number.Again ∷ Symbol.Byte 10 ∷ Symbol.Lines ∷ [])) [] 0
unfolding spelled write_lines read_program spell_program plains flagged
again_lines ms w v rest n o f a (says_next says_byte (says_next says_byte (says_next says_byte (says_next says_byte (says_next says_byte (says_next (says_number k (an_again y)) (says_next says_byte (says_next (says_lines z) r)))))))) =
    says_next (says_lines (fit_again k y z)) r

let_body : (ms : List Word) (w : Word) (v : ℕ) → Backs ms Symbol.Body w v 108 begins [] (spelled (codes "et ") (Symbol.Target Target.Let ∷ Symbol.Byte 10 ∷ Symbol.Body ∷ [])) [] 0
unfolding spelled write_lines read_program spell_program plains flagged
let_body ms w v rest n o f a (says_next says_byte (says_next says_byte (says_next says_byte (says_next (says_let u c q y) (says_next says_byte (says_next (says_body z) r)))))) =
    rw (sym q) (says_next (says_body (fit_be c y z)) r)

put_body : (ms : List Word) (w : Word) (v : ℕ) → Backs ms Symbol.Body w v 112 begins [] (spelled (codes "ut ") (Symbol.Target Target.Put ∷ Symbol.Byte 10 ∷ Symbol.Body ∷ [])) [] 0
unfolding spelled write_lines read_program spell_program plains flagged
put_body ms w v rest n o f a (says_next says_byte (says_next says_byte (says_next says_byte (says_next (says_put u c q h y) (says_next says_byte (says_next (says_body z) r)))))) =
    rw (sym q) (says_next (says_body (fit_put c h y z)) r)

show_body : (ms : List Word) (w : Word) (v : ℕ) → Backs ms Symbol.Body w v 115 begins (Step.Show ∷ []) (spelled (codes "how ") (Symbol.Expr ∷ Symbol.Byte 10 ∷ Symbol.Body ∷ [])) [] 0
unfolding spelled write_lines read_program spell_program plains flagged
show_body ms w v rest n o f a (says_next says_byte (says_next says_byte (says_next says_byte (says_next says_byte (says_next (says_expr y) (says_next says_byte (says_next (says_body z) r))))))) =
    says_next (says_body (fit_show y z)) r

again_body : (ms : List Word) (w : Word) (v : ℕ) → Backs ms Symbol.Body w v 97 opens [] (spelled (codes "gain ") (Symbol.Number Number.Again ∷ Symbol.Byte 10 ∷ Symbol.Body ∷ [])) [] 0
unfolding spelled write_lines read_program spell_program plains flagged
again_body ms w v rest n o f a (says_next says_byte (says_next says_byte (says_next says_byte (says_next says_byte (says_next says_byte (says_next (says_number k (an_again y)) (says_next says_byte (says_next (says_body z) r)))))))) =
    says_next (says_body (fit_again k y z)) r

end_body : (ms : List Word) (w : Word) (v : ℕ) → Backs ms Symbol.Body w v 101 closes (Step.End ∷ []) (spelled (codes "nd") []) [] 0
unfolding spelled write_lines read_program spell_program plains flagged
end_body ms w v rest n o f a (says_next says_byte (says_next says_byte r)) = says_next (says_body fit_end) r

lines_back : (ms : List Word) (w : Word) (v b : ℕ) → Back ms Symbol.Lines w v b (line_move Symbol.Lines stop b)
unfolding line_move
lines_back ms w v b =
    let P : Move → Type 0 = Back ms Symbol.Lines w v b in
    pick_told P (eqb b 108) (at_byte ms Symbol.Lines w v b 108 (back_move (let_lines ms w v))) (λ _.
    pick_told P (eqb b 112) (at_byte ms Symbol.Lines w v b 112 (back_move (put_lines ms w v))) (λ _.
    pick_told P (eqb b 115) (at_byte ms Symbol.Lines w v b 115 (back_move (show_lines ms w v))) (λ _.
    pick_told P (eqb b 97) (at_byte ms Symbol.Lines w v b 97 (back_move (again_lines ms w v))) (λ _. back_stop))))

body_back : (ms : List Word) (w : Word) (v b : ℕ) → Back ms Symbol.Body w v b (line_move Symbol.Body (when (eqb b 101) (move closes (Step.End ∷ []) (spelled (codes "nd") []) [] 0)) b)
unfolding line_move
body_back ms w v b =
    let P : Move → Type 0 = Back ms Symbol.Body w v b in
    pick_told P (eqb b 108) (at_byte ms Symbol.Body w v b 108 (back_move (let_body ms w v))) (λ _.
    pick_told P (eqb b 112) (at_byte ms Symbol.Body w v b 112 (back_move (put_body ms w v))) (λ _.
    pick_told P (eqb b 115) (at_byte ms Symbol.Body w v b 115 (back_move (show_body ms w v))) (λ _.
    pick_told P (eqb b 97) (at_byte ms Symbol.Body w v b 97 (back_move (again_body ms w v))) (λ _. when_told P (eqb b 101) (at_byte ms Symbol.Body w v b 101 (back_move (end_body ms w v))) back_stop))))

byte_popped : (ms : List Word) (c : ℕ) (w : Word) (v : ℕ) → Backs ms (Symbol.Byte c) w v c inside [] [] [] 0
unfolding push
byte_popped ms c w v rest n o f a h = says_next says_byte h

byte_back : (ms : List Word) (c : ℕ) (w : Word) (v b : ℕ) → Back ms (Symbol.Byte c) w v b (when (eqb b c) (push []))
unfolding push
byte_back ms c w v b = when_told (Back ms (Symbol.Byte c) w v b) (eqb b c) (at_byte ms (Symbol.Byte c) w v b c (back_move (byte_popped ms c w v))) back_stop

-- a letter more of a word
snoc : (u : Word) (b : ℕ) (v x : Word) → x ≡ (u ++ b ∷ []) ++ v → x ≡ u ++ b ∷ v
snoc u b v x e = e ∙ append_assoc u (b ∷ []) v

target_back : (ms : List Word) (x : Target) (w : Word) (v b : ℕ) → Backs ms (Symbol.Target x) w v b inside [] (Symbol.Target x ∷ []) (w ++ b ∷ []) 0
unfolding plains
target_back ms Target.Let w v b rest n o f a (says_next (says_let u c q y) r) = says_next (says_let (b ∷ u) c (snoc w b u _ q) y) r
target_back ms Target.Put w v b rest n o f a (says_next (says_put u c q h y) r) = says_next (says_put (b ∷ u) c (snoc w b u _ q) h y) r

binary_back : (ms : List Word) (x : _) (w : Word) (v b : ℕ) → Backs ms (Symbol.Binary x) w v b inside [] (Symbol.Binary x ∷ []) (w ++ b ∷ []) 0
unfolding plains
binary_back ms x w v b rest n o f a (says_next (says_binary u t q k y) r) = says_next (says_binary (b ∷ u) t (snoc w b u _ q) k y) r

word_back : (ms : List Word) (w : Word) (v b : ℕ) → 1 ≤ length w → Backs ms Symbol.Word w v b inside [] (Symbol.Word ∷ []) (w ++ b ∷ []) 0
word_back ms w v b l rest n o f a (says_next (says_word y q) r) = says_next (says_word y (q ∙ flagged_snoc begins w b f l)) r

expr_word_back : (ms : List Word) (w : Word) (v b : ℕ) → Backs ms Symbol.Expr w v b begins [] (Symbol.Word ∷ []) (b ∷ []) 0
unfolding flagged plains
expr_word_back ms w v b rest n o f a (says_next (says_word y q) r) = rw (sym q) (says_next (says_expr y) r)

hex_expr : (ms : List Word) {w : Word} {v k n m o : ℕ} {rest : List Symbol} {g : List Letter} {b : List Step} {f : List Letter} {a : List Step} → k ≡ 16 → Says ms (Symbol.Hex k) [] 0 n m f g a b → SaysAll ms rest [] 0 m o g b → SaysAll ms (Symbol.Expr ∷ rest) w v n o (letter begins 35 ∷ f) a
unfolding write_expr read_expr read_constant spell
hex_expr ms e (says_hex h) r = says_next (says_expr (fit_constant (record { digits = h; sixteen = e }))) r

expr_hex_back : (ms : List Word) (w : Word) (v : ℕ) → Backs ms Symbol.Expr w v 35 begins [] (Symbol.Hex 16 ∷ []) [] 0
expr_hex_back ms w v rest n o f a (says_next h r) = hex_expr ms refl h r

-- a digit
record Digit (b : ℕ) : Type 0 where
  below : b - 48 < 10
  back : 48 + (b - 48) ≡ b

digit_tells : (b : ℕ) → is_digit b ≡ true → Digit b
unfolding is_digit
digit_tells b h =
    let p = and_parts (leb 48 b) (leb b 57) h in
    let l = leb-true 48 b p.0 in
    let m = leb-true b 57 p.1 in record { below = omega arith; back = omega arith }

first_digit : (b k : ℕ) (ds : List ℕ) → is_digit b ≡ true → decimal k ≡ decimal (b - 48) ++ ds → decimal k ≡ b ∷ ds
first_digit b k ds h e =
    let d = digit_tells b h in
    e ∙ ap (λ x. x ++ ds) (decimal_digit (b - 48) d.below) ∙ ap {B = List ℕ} (λ x. x ∷ ds) d.back

more_digit : (b v k : ℕ) (ds : List ℕ) → is_digit b ≡ true → 1 ≤ v → v * 10 + (b - 48) < 4294967296 → decimal k ≡ decimal (v * 10 + (b - 48)) ++ ds → decimal k ≡ decimal v ++ b ∷ ds
more_digit b v k ds h i j e =
    let d = digit_tells b h in
    let l = d.below in
    let x : (v * 10 + (b - 48)) / 10 ≡ v = omega arith in
    let y : 48 + (v * 10 + (b - 48)) % 10 ≡ b = omega (arith, d.back) in
    let s : decimal (v * 10 + (b - 48)) ≡ decimal v ++ b ∷ [] = decimal_step (v * 10 + (b - 48)) (omega arith) (omega arith) ∙ ap (λ z. decimal z ++ (48 + (v * 10 + (b - 48)) % 10) ∷ []) x ∙ ap (λ z. decimal v ++ z ∷ []) y in
    snoc (decimal v) b ds (decimal k) (e ∙ ap (λ z. z ++ ds) s)

number_back : (ms : List Word) (p : Number) (w : Word) (v b : ℕ) → is_digit b ≡ true → Backs ms (Symbol.Number p) w v b inside [] (Symbol.Digits p ∷ []) [] (b - 48)
unfolding write_number plains
number_back ms p w v b h rest n o f a (says_next (says_digits {k = k} ds {f = g} j q y) r) =
    subst (λ x. SaysAll ms (Symbol.Number p ∷ rest) w v n o (plains x g) a) (first_digit b k ds h q) (says_next (says_number j y) r)

digits_back : (ms : List Word) (p : Number) (w : Word) (v b : ℕ) → is_digit b ≡ true → 1 ≤ v → v * 10 + (b - 48) < 4294967296 → Backs ms (Symbol.Digits p) w v b inside [] (Symbol.Digits p ∷ []) [] (v * 10 + (b - 48))
unfolding plains
digits_back ms p w v b h i l rest n o f a (says_next (says_digits {k = k} ds j q y) r) = says_next (says_digits (b ∷ ds) j (more_digit b v k ds h i l q) y) r

item_back : (ms : List Word) (k : Bracket) (w : Word) (v b : ℕ) → is_digit b ≡ true → Backs ms (Symbol.Item k) w v b begins [] (Symbol.Digits (item_number k) ∷ []) [] (b - 48)
unfolding write_item write_part flagged plains item_number slices
item_back ms Bracket.Numbers w v b h rest n o f a (says_next (says_digits {k = k} ds {g = g} j q an_item) r) =
    subst (λ x. SaysAll ms (Symbol.Item Bracket.Numbers ∷ rest) w v n o (flagged begins x g) a) (first_digit b k ds h q) (says_next (says_item j) r)
item_back ms Bracket.Parts w v b h rest n o f a (says_next (says_digits {k = k} ds {f = g} j q (a_from {s = s} {m = m} {c = c} x y)) r) =
    subst (λ z. SaysAll ms (Symbol.Item Bracket.Parts ∷ rest) w v n o (flagged begins z g) a) (first_digit b k ds h q)
    (says_next (says_part {p = record { from = k; backward = c; step = s; many = m }} (record { from_small = j; step_small = x; many_small = y })) r)

first_back : (ms : List Word) (k : Bracket) (w : Word) (v b : ℕ) → is_digit b ≡ true → Backs ms (Symbol.First k) w v b begins [] (Symbol.Digits (item_number k) ∷ Symbol.More k ∷ []) [] (b - 48)
unfolding write_items write_parts write_item write_part flagged plains item_number slices items
first_back ms Bracket.Numbers w v b h rest n o f a (says_next (says_digits {k = k} ds {g = g} j q an_item) (says_next (says_more_items y) r)) =
    subst (λ x. SaysAll ms (Symbol.First Bracket.Numbers ∷ rest) w v n o (flagged begins x g) a) (first_digit b k ds h q) (says_next (says_first_items (more j y)) r)
first_back ms Bracket.Parts w v b h rest n o f a (says_next (says_digits {k = k} ds {f = g} j q (a_from {s = s} {m = m} {c = c} x y)) (says_next (says_more_parts z) r)) =
    subst (λ u. SaysAll ms (Symbol.First Bracket.Parts ∷ rest) w v n o (flagged begins u g) a) (first_digit b k ds h q)
    (says_next (says_first_parts (more {p = record { from = k; backward = c; step = s; many = m }} (record { from_small = j; step_small = x; many_small = y }) z)) r)

first_none : (ms : List Word) (k : Bracket) (w : Word) (v : ℕ) → Backs ms (Symbol.First k) w v 93 inside [] [] [] 0
unfolding write_items write_parts items slices
first_none ms Bracket.Numbers w v rest n o f a h = says_next (says_first_items none) h
first_none ms Bracket.Parts w v rest n o f a h = says_next (says_first_parts none) h

more_none : (ms : List Word) (k : Bracket) (w : Word) (v : ℕ) → Backs ms (Symbol.More k) w v 93 inside [] [] [] 0
unfolding write_more_items write_more_parts items slices
more_none ms Bracket.Numbers w v rest n o f a h = says_next (says_more_items none) h
more_none ms Bracket.Parts w v rest n o f a h = says_next (says_more_parts none) h

more_comma : (ms : List Word) (k : Bracket) (w : Word) (v : ℕ) → Backs ms (Symbol.More k) w v 44 inside [] (Symbol.Byte 32 ∷ Symbol.Item k ∷ Symbol.More k ∷ []) [] 0
unfolding write_more_items write_more_parts items slices
more_comma ms Bracket.Numbers w v rest n o f a (says_next says_byte (says_next (says_item j) (says_next (says_more_items y) r))) = says_next (says_more_items (more j y)) r
more_comma ms Bracket.Parts w v rest n o f a (says_next says_byte (says_next (says_part j) (says_next (says_more_parts y) r))) = says_next (says_more_parts (more j y)) r

step_minus_back : (ms : List Word) (k : ℕ) (w : Word) (v : ℕ) → Backs ms (Symbol.Step k) w v 45 inside [] (Symbol.Number (Number.Step k true) ∷ []) [] 0
unfolding plains
step_minus_back ms k w v rest n o f a (says_next (says_number j (a_step y)) r) = says_next (says_step {c = true} j y) r

step_digit_back : (ms : List Word) (k : ℕ) (w : Word) (v b : ℕ) → is_digit b ≡ true → Backs ms (Symbol.Step k) w v b inside [] (Symbol.Digits (Number.Step k false) ∷ []) [] (b - 48)
unfolding plains write_number
step_digit_back ms k w v b h rest n o f a (says_next (says_digits {k = i} ds {f = g} j q (a_step y)) r) =
    subst (λ x. SaysAll ms (Symbol.Step k ∷ rest) w v n o (plains x g) a) (first_digit b i ds h q) (says_next (says_step {c = false} j y) r)

close_back : (ms : List Word) (w : Word) (v : ℕ) → Backs ms (Symbol.Operands 0) w v 41 inside [] [] [] 0
close_back ms w v rest n o f a h = says_next says_close h

comma_back : (ms : List Word) (i : ℕ) (w : Word) (v : ℕ) → Backs ms (Symbol.Operands (suc i)) w v 44 inside [] (Symbol.Byte 32 ∷ Symbol.Expr ∷ Symbol.Operands i ∷ []) [] 0
comma_back ms i w v rest n o f a (says_next says_byte (says_next (says_expr y) (says_next z r))) = says_next (says_more y z) r

-- a hexadecimal digit
record Hexed (b : ℕ) : Type 0 where
  below : hex_of b < 16
  back : hex_byte (hex_of b) ≡ b

hex_tells : (b : ℕ) → is_hex b ≡ true → Hexed b
unfolding is_hex hex_of hex_byte is_digit
hex_tells b h =
    ⊎_elim
    (λ (d : is_digit b ≡ true).
    let p = and_parts (leb 48 b) (leb b 57) d in
    let l = leb-true 48 b p.0 in
    let m = leb-true b 57 p.1 in
    record { below = rw (lt-ltb b 97 (omega arith)) (omega arith); back = rw (lt-ltb b 97 (omega arith), lt-ltb (b - 48) 10 (omega arith)) (omega arith) })
    (λ (d : (leb 97 b && leb b 102) ≡ true).
    let p = and_parts (leb 97 b) (leb b 102) d in
    let l = leb-true 97 b p.0 in
    let m = leb-true b 102 p.1 in
    record { below = rw (le-ltb b 97 l) (omega arith); back = rw (le-ltb b 97 l, le-ltb (b - 87) 10 (omega arith)) (omega arith) })
    (or_cases (is_digit b) (leb 97 b && leb b 102) h)

hex_last : (ms : List Word) (w : Word) (v b : ℕ) → Hexed b → Backs ms (Symbol.Hex 1) w v b inside (Step.Constant (canonical (v * 16 + hex_of b)) ∷ []) [] [] 0
unfolding write_hex hex_value
hex_last ms w v b h rest n o f a r =
    subst (λ x. SaysAll ms (Symbol.Hex 1 ∷ rest) w v n o (plain x ∷ f) (Step.Constant (canonical (v * 16 + hex_of b)) ∷ a)) h.back
    (says_next (says_hex (more h.below none)) r)

hex_next : (ms : List Word) {w : Word} {v b k j n m o : ℕ} {rest : List Symbol} {f g : List Letter} {a c : List Step} → Hexed b → j ≡ v * 16 + hex_of b → Says ms (Symbol.Hex k) [] j n m f g a c → SaysAll ms rest [] 0 m o g c → SaysAll ms (Symbol.Hex (suc k) ∷ rest) w v n o (plain b ∷ f) a
unfolding write_hex hex_value
hex_next ms {w} {v} {b} {j = j} {n = n} {o = o} {rest = rest} h e (says_hex {ds = ds} {g = g} {b = c} i) r =
    subst (λ y. SaysAll ms (Symbol.Hex (suc (length ds)) ∷ rest) w v n o (plain b ∷ write_hex ds g) (Step.Constant (canonical (hex_value y ds)) ∷ c)) (sym e)
    (subst (λ x. SaysAll ms (Symbol.Hex (suc (length ds)) ∷ rest) w v n o (plain x ∷ write_hex ds g) (Step.Constant (canonical (hex_value (v * 16 + hex_of b) ds)) ∷ c)) h.back
    (says_next (says_hex (more h.below i)) r))

hex_more : (ms : List Word) (i : ℕ) (w : Word) (v b : ℕ) → Hexed b → Backs ms (Symbol.Hex (suc (suc i))) w v b inside [] (Symbol.Hex (suc i) ∷ []) [] (v * 16 + hex_of b)
hex_more ms i w v b h rest n o f a (says_next x r) = hex_next ms h refl x r

hex_back : (ms : List Word) (i : ℕ) (w : Word) (v b : ℕ) → is_hex b ≡ true → Back ms (Symbol.Hex i) w v b (hex_move i (v * 16 + hex_of b))
unfolding hex_move
hex_back ms zero w v b h = back_stop
hex_back ms (suc zero) w v b h = back_move (hex_last ms w v b (hex_tells b h))
hex_back ms (suc (suc i)) w v b h = back_move (hex_more ms i w v b (hex_tells b h))

operands_back : (ms : List Word) (i : ℕ) (w : Word) (v b : ℕ) → Back ms (Symbol.Operands i) w v b (operands_move i b)
unfolding operands_move push
operands_back ms zero w v b = when_told (Back ms (Symbol.Operands 0) w v b) (eqb b 41) (at_byte ms (Symbol.Operands 0) w v b 41 (back_move (close_back ms w v))) back_stop
operands_back ms (suc i) w v b = when_told (Back ms (Symbol.Operands (suc i)) w v b) (eqb b 44) (at_byte ms (Symbol.Operands (suc i)) w v b 44 (back_move (comma_back ms i w v))) back_stop

pub moves_back : (ms ns : List Word) (s : Symbol) (w : Word) (v b : ℕ) → (s ≡ Symbol.Word → 1 ≤ length w) → Back ms s w v b (moves ns s w v b)
unfolding moves push digit_move
moves_back ms ns Symbol.Lines w v b l = lines_back ms w v b
moves_back ms ns Symbol.Body w v b l = body_back ms w v b
moves_back ms ns (Symbol.Byte c) w v b l = byte_back ms c w v b
moves_back ms ns (Symbol.Target x) w v b l = when_told (Back ms (Symbol.Target x) w v b) (viable_name ns (w ++ b ∷ [])) (λ e. back_move (target_back ms x w v b)) back_stop
moves_back ms ns Symbol.Expr w v b l =
    pick_told (Back ms Symbol.Expr w v b) (eqb b 35) (at_byte ms Symbol.Expr w v b 35 (back_move (expr_hex_back ms w v)))
    (λ _. when_told (Back ms Symbol.Expr w v b) (viable ns (b ∷ [])) (λ e. back_move (expr_word_back ms w v b)) back_stop)
moves_back ms ns Symbol.Word w v b l = when_told (Back ms Symbol.Word w v b) (viable ns (w ++ b ∷ [])) (λ e. back_move (word_back ms w v b (l refl))) back_stop
moves_back ms ns (Symbol.Binary x) w v b l = when_told (Back ms (Symbol.Binary x) w v b) (begins_some binary_word binaries (w ++ b ∷ [])) (λ e. back_move (binary_back ms x w v b)) back_stop
moves_back ms ns (Symbol.Number p) w v b l = when_told (Back ms (Symbol.Number p) w v b) (is_digit b) (λ e. back_move (number_back ms p w v b e)) back_stop
moves_back ms ns (Symbol.Digits p) w v b l =
    when_told (Back ms (Symbol.Digits p) w v b) (is_digit b && (leb 1 v && ltb (v * 10 + (b - 48)) 4294967296))
    (λ e.
    let x = and_parts (is_digit b) (leb 1 v && ltb (v * 10 + (b - 48)) 4294967296) e in
    let y = and_parts (leb 1 v) (ltb (v * 10 + (b - 48)) 4294967296) x.1 in
    back_move (digits_back ms p w v b x.0 (leb-true 1 v y.0) (ltb-true (v * 10 + (b - 48)) 4294967296 y.1)))
    back_stop
moves_back ms ns (Symbol.Hex i) w v b l = when_told (Back ms (Symbol.Hex i) w v b) (is_hex b) (λ e. hex_back ms i w v b e) back_stop
moves_back ms ns (Symbol.Operands i) w v b l = operands_back ms i w v b
moves_back ms ns (Symbol.First k) w v b l =
    pick_told (Back ms (Symbol.First k) w v b) (eqb b 93) (at_byte ms (Symbol.First k) w v b 93 (back_move (first_none ms k w v)))
    (λ _. when_told (Back ms (Symbol.First k) w v b) (is_digit b) (λ e. back_move (first_back ms k w v b e)) back_stop)
moves_back ms ns (Symbol.More k) w v b l =
    pick_told (Back ms (Symbol.More k) w v b) (eqb b 93) (at_byte ms (Symbol.More k) w v b 93 (back_move (more_none ms k w v)))
    (λ _. when_told (Back ms (Symbol.More k) w v b) (eqb b 44) (at_byte ms (Symbol.More k) w v b 44 (back_move (more_comma ms k w v))) back_stop)
moves_back ms ns (Symbol.Item k) w v b l = when_told (Back ms (Symbol.Item k) w v b) (is_digit b) (λ e. back_move (item_back ms k w v b e)) back_stop
moves_back ms ns (Symbol.Step k) w v b l =
    pick_told (Back ms (Symbol.Step k) w v b) (eqb b 45) (at_byte ms (Symbol.Step k) w v b 45 (back_move (step_minus_back ms k w v)))
    (λ _. when_told (Back ms (Symbol.Step k) w v b) (is_digit b) (λ e. back_move (step_digit_back ms k w v b e)) back_stop)
