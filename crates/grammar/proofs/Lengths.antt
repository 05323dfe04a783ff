-- How long texts are: at most 35 bytes a mark.
use Rattle.std.proofs.Common.{◌≡◌, ℕ, zero, suc, ◌+◌, ◌*◌, ◌≤◌, Bool, true, false, not, ◌&&◌, ltb, List, [], ◌∷◌, ◌++◌, length, get_or, codes, decimal, sym, refl, ap, ◌∙◌, ⊎_elim, arith, length-append}
use Rattle.std.proofs.lemmas.Fmt.{length-decimal-le}
use Rattle.std.proofs.lemmas.Bool.{and_parts, ltb-true}
use Rattle.semantics.specs.Shapes.{pick}
use Rattle.semantics.specs.Parts.{Part}
use Rattle.semantics.specs.declared.operation.Unary.{Unary}
use Rattle.semantics.specs.declared.operation.Unary.TheVariants.{Neg, Abs, Sqrt, Floor, Not}
use Rattle.semantics.specs.declared.operation.Binary.{Binary}
use Rattle.semantics.specs.declared.operation.Binary.TheVariants.{Add, Sub, Mul, Div, Less, Same, Least, Most}
use Rattle.semantics.specs.Values.{Expr}
use Rattle.semantics.specs.Programs.{Program}
use Rattle.grammar.specs.Letters.{Flag, begins, closes, opens, Letter, letter, bytes, plain, plains, flagged}
use Rattle.grammar.specs.Words.{Word, unary_word, binary_word, are_names, is_name, shaped, reserved, is_letter, all_in_word}
use Rattle.grammar.specs.Constants.{read_expr, read_program}
use Rattle.grammar.specs.Sayable.{Small, Smalls, SmallPart, SmallParts, none, more, Sixteen, Fits, fit_name, fit_input, fit_constant, fit_count, fit_each, fit_both, fit_choose, fit_fold, fit_scan, fit_shape, fit_turn, fit_part, fit_join, fit_rows, FitLines, fit_end, fit_be, fit_put, fit_show, fit_again}
use Rattle.grammar.specs.Limits.{marks_in, marks_of, depth_of}
use Rattle.grammar.specs.Written.{write_hex, write_number, write_item, write_items, write_more_items, write_part, write_parts, write_more_parts, write_expr, write_lines}
use Rattle.grammar.specs.Texts.{Writing, letters, Reads}
use Rattle.grammar.proofs.NameLaws.{names_more}

length_plains : (w : Word) (r : List Letter) → length (plains w r) ≡ length w + length r
unfolding plains
length_plains [] r = omega arith
length_plains (b ∷ w) r = let k = length_plains w r in omega arith

length_flagged : (x : Flag) (w : Word) (r : List Letter) → length (flagged x w r) ≡ length w + length r
unfolding flagged
length_flagged x [] r = omega arith
length_flagged x (b ∷ w) r = let k = length_plains w r in omega arith

name_short : (w : Word) → is_name w ≡ true → length w ≤ 8
unfolding is_name shaped
name_short [] h = omega arith
name_short (b ∷ w) h =
    let p = and_parts (shaped (b ∷ w)) (not (reserved (b ∷ w))) h in
    let q = and_parts (is_letter b && all_in_word w) (ltb (length w) 8) p.0 in
    let l = ltb-true (length w) 8 q.1 in omega arith

names_short : (ms : List Word) (k : ℕ) → are_names ms ≡ true → length (get_or ms k []) ≤ 8
names_short [] k h = omega arith
names_short (w ∷ ms) zero h = name_short w (names_more w ms h).first
names_short (w ∷ ms) (suc k) h = names_short ms k (names_more w ms h).rest

unary_short : (k : Unary) → length (unary_word k) ≤ 5
unfolding unary_word
unary_short Neg = omega arith
unary_short Abs = omega arith
unary_short Sqrt = omega arith
unary_short Floor = omega arith
unary_short Not = omega arith

binary_short : (k : Binary) → length (binary_word k) ≤ 5
unfolding binary_word
binary_short Add = omega arith
binary_short Sub = omega arith
binary_short Mul = omega arith
binary_short Div = omega arith
binary_short Less = omega arith
binary_short Same = omega arith
binary_short Least = omega arith
binary_short Most = omega arith

decimal_short : (k : ℕ) → Small k → length (decimal k) ≤ 10
decimal_short k h = length-decimal-le 10 k (omega arith) (omega arith) (omega arith)

number_short : (k : ℕ) (r : List Letter) → Small k → length (write_number k r) ≤ 10 + length r
unfolding write_number
number_short k r h = omega (arith, length_plains (decimal k) r, decimal_short k h)

hex_short : (ds : List ℕ) (r : List Letter) → length (write_hex ds r) ≡ length ds + length r
unfolding write_hex
hex_short [] r = omega arith
hex_short (d ∷ ds) r = let k = hex_short ds r in omega arith

item_short : (k : ℕ) (r : List Letter) → Small k → length (write_item k r) ≤ 10 + length r
unfolding write_item
item_short k r h = omega (arith, length_flagged begins (decimal k) r, decimal_short k h)

more_items_short : {ks : List ℕ} (r : List Letter) → Smalls ks → length (write_more_items ks r) ≤ 35 * length ks + length r
unfolding write_more_items
more_items_short r none = omega arith
more_items_short {ks = k ∷ ks} r (more h i) = omega (arith, item_short k (write_more_items ks r) h, more_items_short r i)

items_short : {ks : List ℕ} (r : List Letter) → Smalls ks → length (write_items ks r) ≤ 35 * length ks + length r
unfolding write_items
items_short r none = omega arith
items_short {ks = k ∷ ks} r (more h i) = omega (arith, item_short k (write_more_items ks r) h, more_items_short r i)

sign_short : (b : Bool) (r : List Letter) → length (plains (pick b (codes "-") []) r) ≤ 1 + length r
unfolding plains
sign_short true r = omega arith
sign_short false r = omega arith

part_short : (p : Part) (r : List Letter) → SmallPart p → length (write_part p r) ≤ 33 + length r
unfolding write_part
part_short p r h =
    omega (arith, length_flagged begins (decimal p.from) (plain 58 ∷ plains (pick p.backward (codes "-") []) (write_number p.step (plain 58 ∷ write_number p.many r))), decimal_short p.from h.from_small, sign_short p.backward (write_number p.step (plain 58 ∷ write_number p.many r)), number_short p.step (plain 58 ∷ write_number p.many r) h.step_small, number_short p.many r h.many_small)

more_parts_short : {ps : List Part} (r : List Letter) → SmallParts ps → length (write_more_parts ps r) ≤ 35 * length ps + length r
unfolding write_more_parts
more_parts_short r none = omega arith
more_parts_short {ps = p ∷ ps} r (more h i) = omega (arith, part_short p (write_more_parts ps r) h, more_parts_short r i)

parts_short : {ps : List Part} (r : List Letter) → SmallParts ps → length (write_parts ps r) ≤ 35 * length ps + length r
unfolding write_parts
parts_short r none = omega arith
parts_short {ps = p ∷ ps} r (more h i) = omega (arith, part_short p (write_more_parts ps r) h, more_parts_short r i)

module _ (ms : List Word) (are : are_names ms ≡ true) where
  -- two bytes less, for what parts operands
  expr_short : {e : Expr (List ℕ)} {n m : ℕ} (r : List Letter) → Fits Sixteen e n m → length (write_expr ms e r) + 2 ≤ 35 * marks_in e + length r
  unfolding write_expr marks_in
  expr_short r (fit_name {k = k} c) = omega (arith, length_flagged begins (get_or ms k []) r, names_short ms k are)
  expr_short r (fit_input {k = k} h) = omega (arith, length_flagged begins (codes "in ") (write_number k r), number_short k r h)
  expr_short r (fit_constant {x = ds} h) = omega (arith, hex_short ds r, h.sixteen)
  expr_short r (fit_count {k = k} h) = omega (arith, length_flagged begins (codes "count ") (write_number k r), number_short k r h)
  expr_short r (fit_each {k = k} {e = e} x) =
      omega (arith, length_flagged begins (unary_word k) (plain 40 ∷ write_expr ms e (plain 41 ∷ r)), unary_short k, expr_short (plain 41 ∷ r) x)
  expr_short r (fit_both {k = k} {e = e} {f = f} x y) =
      let s : List Letter = plain 44 ∷ plain 32 ∷ write_expr ms f (plain 41 ∷ r) in
      omega (arith, length_flagged begins (binary_word k) (plain 40 ∷ write_expr ms e s), binary_short k, expr_short s x, expr_short (plain 41 ∷ r) y)
  expr_short r (fit_choose {e = e} {f = f} {g = g} x y z) =
      let t : List Letter = plain 44 ∷ plain 32 ∷ write_expr ms g (plain 41 ∷ r) in
      let s : List Letter = plain 44 ∷ plain 32 ∷ write_expr ms f t in
      omega (arith, length_flagged begins (codes "choose(") (write_expr ms e s), expr_short s x, expr_short t y, expr_short (plain 41 ∷ r) z)
  expr_short r (fit_fold {k = k} {x = v} {e = e} h x) =
      let s : List Letter = plain 40 ∷ write_expr ms e (plain 41 ∷ r) in
      let t : List Letter = plain 32 ∷ write_number v s in
      omega (arith, length_flagged begins (codes "fold ") (plains (binary_word k) t), length_plains (binary_word k) t, binary_short k, number_short v s h, expr_short (plain 41 ∷ r) x)
  expr_short r (fit_scan {k = k} {x = v} {e = e} h x) =
      let s : List Letter = plain 40 ∷ write_expr ms e (plain 41 ∷ r) in
      let t : List Letter = plain 32 ∷ write_number v s in
      omega (arith, length_flagged begins (codes "scan ") (plains (binary_word k) t), length_plains (binary_word k) t, binary_short k, number_short v s h, expr_short (plain 41 ∷ r) x)
  expr_short r (fit_shape {t = ks} {e = e} h x) =
      let s : List Letter = plain 93 ∷ plain 40 ∷ write_expr ms e (plain 41 ∷ r) in
      omega (arith, length_flagged begins (codes "shape [") (write_items ks s), items_short s h, expr_short (plain 41 ∷ r) x)
  expr_short r (fit_turn {os = ks} {e = e} h x) =
      let s : List Letter = plain 93 ∷ plain 40 ∷ write_expr ms e (plain 41 ∷ r) in
      omega (arith, length_flagged begins (codes "turn [") (write_items ks s), items_short s h, expr_short (plain 41 ∷ r) x)
  expr_short r (fit_part {ps = ps} {e = e} h x) =
      let s : List Letter = plain 93 ∷ plain 40 ∷ write_expr ms e (plain 41 ∷ r) in
      omega (arith, length_flagged begins (codes "part [") (write_parts ps s), parts_short s h, expr_short (plain 41 ∷ r) x)
  expr_short r (fit_join {x = v} {e = e} {f = f} h x y) =
      let s : List Letter = plain 44 ∷ plain 32 ∷ write_expr ms f (plain 41 ∷ r) in
      let t : List Letter = plain 40 ∷ write_expr ms e s in
      omega (arith, length_flagged begins (codes "join ") (write_number v t), number_short v t h, expr_short s x, expr_short (plain 41 ∷ r) y)
  expr_short r (fit_rows {e = e} {f = f} x y) =
      let s : List Letter = plain 44 ∷ plain 32 ∷ write_expr ms f (plain 41 ∷ r) in
      omega (arith, length_flagged begins (codes "rows(") (write_expr ms e s), expr_short s x, expr_short (plain 41 ∷ r) y)

  lines_short : {p : Program (List ℕ)} {n m : ℕ} (r : List Letter) → FitLines Sixteen p n m → length (write_lines ms p r) ≤ 35 * marks_of p + length r
  unfolding write_lines marks_of
  lines_short r fit_end = omega arith
  lines_short r (fit_be {k = k} {e = e} {p = p} c x y) =
      let s : List Letter = write_expr ms e (plain 10 ∷ write_lines ms p r) in
      let t : List Letter = plains (codes " = ") s in
      omega (arith, length_flagged begins (codes "let ") (plains (get_or ms k []) t), length_plains (get_or ms k []) t, length_plains (codes " = ") s, names_short ms k are, expr_short (plain 10 ∷ write_lines ms p r) x, lines_short r y)
  lines_short r (fit_put {k = k} {ps = ps} {e = e} {p = p} c h x y) =
      let s : List Letter = write_expr ms e (plain 10 ∷ write_lines ms p r) in
      let t : List Letter = plains (codes "] = ") s in
      let u : List Letter = plains (codes " [") (write_parts ps t) in
      omega (arith, length_flagged begins (codes "put ") (plains (get_or ms k []) u), length_plains (get_or ms k []) u, length_plains (codes " [") (write_parts ps t), length_plains (codes "] = ") s, parts_short t h, names_short ms k are, expr_short (plain 10 ∷ write_lines ms p r) x, lines_short r y)
  lines_short r (fit_show {e = e} {p = p} x y) =
      let s : List Letter = write_expr ms e (plain 10 ∷ write_lines ms p r) in
      omega (arith, length_flagged begins (codes "show ") s, expr_short (plain 10 ∷ write_lines ms p r) x, lines_short r y)
  lines_short r (fit_again {k = k} {b = b} {p = p} h x y) =
      let u : List Letter = plain 10 ∷ write_lines ms p r in
      let s : List Letter = flagged closes (codes "end") u in
      let t : List Letter = plain 10 ∷ write_lines ms b s in
      omega (arith, length_flagged opens (codes "again ") (write_number k t), number_short k t h, lines_short s x, length_flagged closes (codes "end") u, lines_short r y)

-- reading a constant changes no mark and no depth
marks_in_read : (e : Expr (List ℕ)) → marks_in (read_expr e) ≡ marks_in e
unfolding marks_in read_expr
marks_in_read (Expr.name k) = refl
marks_in_read (Expr.input k) = refl
marks_in_read (Expr.constant x) = refl
marks_in_read (Expr.count k) = refl
marks_in_read (Expr.each k e) = omega (arith, marks_in_read e)
marks_in_read (Expr.both k e f) = omega (arith, marks_in_read e, marks_in_read f)
marks_in_read (Expr.choose e f g) = omega (arith, marks_in_read e, marks_in_read f, marks_in_read g)
marks_in_read (Expr.fold k x e) = omega (arith, marks_in_read e)
marks_in_read (Expr.scan k x e) = omega (arith, marks_in_read e)
marks_in_read (Expr.shape_to t e) = omega (arith, marks_in_read e)
marks_in_read (Expr.turn t e) = omega (arith, marks_in_read e)
marks_in_read (Expr.part t e) = omega (arith, marks_in_read e)
marks_in_read (Expr.join x e f) = omega (arith, marks_in_read e, marks_in_read f)
marks_in_read (Expr.rows e f) = omega (arith, marks_in_read e, marks_in_read f)

pub marks_of_read : (p : Program (List ℕ)) → marks_of (read_program p) ≡ marks_of p
unfolding marks_of read_program
marks_of_read Program.end = refl
marks_of_read (Program.be k e p) = omega (arith, marks_in_read e, marks_of_read p)
marks_of_read (Program.put k ps e p) = omega (arith, marks_in_read e, marks_of_read p)
marks_of_read (Program.show e p) = omega (arith, marks_in_read e, marks_of_read p)
marks_of_read (Program.again k b p) = omega (arith, marks_of_read b, marks_of_read p)

pub depth_of_read : (p : Program (List ℕ)) → depth_of (read_program p) ≡ depth_of p
unfolding depth_of read_program
depth_of_read Program.end = refl
depth_of_read (Program.be k e p) = depth_of_read p
depth_of_read (Program.put k ps e p) = depth_of_read p
depth_of_read (Program.show e p) = depth_of_read p
depth_of_read (Program.again k b p) = omega (arith, depth_of_read b, depth_of_read p)

pub length_bytes : (f : List Letter) → length (bytes f) ≡ length f
unfolding bytes
length_bytes [] = refl
length_bytes (letter x b ∷ f) = ap suc (length_bytes f)

writing_short : (w : Writing) → length (bytes (letters w)) ≤ 35 * marks_of w.written
unfolding letters
writing_short w = omega (arith, length_bytes (write_lines w.names w.written []), lines_short w.names w.are [] w.fits)

pub reads_short : (t : List ℕ) (p : Program ℕ) → Reads t p → length t ≤ 35 * marks_of p
reads_short t p r =
    let a = writing_short r.writing in
    let b : marks_of p ≡ marks_of r.writing.written = ap marks_of (sym r.is) ∙ marks_of_read r.writing.written in
    ⊎_elim
    (λ e. let c : length (bytes (letters r.writing)) ≡ length t = ap length e in omega arith)
    (λ e. let c : length (bytes (letters r.writing)) ≡ length (t ++ 10 ∷ []) = ap length e in omega (arith, length-append t (10 ∷ [])))
    r.lines
