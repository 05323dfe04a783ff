-- What is counted along the letters of a program stays within its marks and its depth.
use Rattle.std.proofs.Common.{◌≡◌, ℕ, zero, suc, ◌+◌, ◌-◌, ◌<◌, ◌≤◌, max, true, false, not, List, [], ◌∷◌, length, get_or, take, codes, decimal, refl, ap, ◌∙◌, arith}
use Rattle.std.proofs.lemmas.Fmt.{decimal_nonempty as decimal-some}
use Rattle.std.proofs.lemmas.Bool.{and_parts, both_ways}
use Rattle.semantics.specs.Shapes.{pick}
use Rattle.semantics.specs.Parts.{Part}
use Rattle.semantics.specs.declared.operation.Unary.{Unary}
use Rattle.semantics.specs.declared.operation.Unary.TheVariants.{Neg, Abs, Sqrt, Floor, Not}
use Rattle.semantics.specs.declared.operation.Binary.{Binary}
use Rattle.semantics.specs.declared.operation.Binary.TheVariants.{Add, Sub, Mul, Div, Less, Same, Least, Most}
use Rattle.semantics.specs.Values.{Expr}
use Rattle.semantics.specs.Programs.{Program}
use Rattle.grammar.specs.Letters.{Flag, inside, begins, opens, closes, Letter, letter, Tally, tally_flag, tally_from, plain, plains, flagged}
use Rattle.grammar.specs.Words.{Word, unary_word, binary_word, are_names, is_name, shaped, reserved}
use Rattle.grammar.specs.Sayable.{Small, Smalls, SmallPart, SmallParts, none, more, Sixteen, Comes, known, new, Fits, fit_name, fit_input, fit_constant, fit_count, fit_each, fit_both, fit_choose, fit_fold, fit_scan, fit_shape, fit_turn, fit_part, fit_join, fit_rows, FitLines, fit_end, fit_be, fit_put, fit_show, fit_again}
use Rattle.grammar.specs.Limits.{marks_in, marks_of, depth_of}
use Rattle.grammar.specs.Written.{write_hex, write_number, write_item, write_items, write_more_items, write_part, write_parts, write_more_parts, write_expr, write_lines}
use Rattle.grammar.proofs.NameLaws.{names_at}
use Rattle.grammar.proofs.ExprAlong.{fits_more}
use Rattle.grammar.proofs.LinesAlong.{lines_more}

-- the level with one flag more; the marks that letters begin, and the level that they come to at the highest, from level l
unfoldable pub level_flag : Flag → ℕ → ℕ
level_flag inside l = l
level_flag begins l = l
level_flag opens l = suc l
level_flag closes l = l - 1

unfoldable pub marks_along : List Letter → ℕ
marks_along [] = 0
marks_along (letter inside b ∷ f) = marks_along f
marks_along (letter begins b ∷ f) = suc (marks_along f)
marks_along (letter opens b ∷ f) = suc (marks_along f)
marks_along (letter closes b ∷ f) = suc (marks_along f)

unfoldable pub peak_along : ℕ → List Letter → ℕ
unfolding level_flag
peak_along l [] = l
peak_along l (letter x b ∷ f) = max l (peak_along (level_flag x l) f)

peak_least : (l : ℕ) (f : List Letter) → l ≤ peak_along l f
unfolding peak_along
peak_least l [] = omega arith
peak_least l (letter x b ∷ f) = omega arith

pub tally_marks : (i : ℕ) (c : Tally) (f : List Letter) → (tally_from c (take i f)).marks ≤ c.marks + marks_along f
unfolding tally_from tally_flag marks_along
tally_marks zero c f = omega arith
tally_marks (suc i) c [] = omega arith
tally_marks (suc i) c (letter inside b ∷ f) = tally_marks i c f
tally_marks (suc i) c (letter begins b ∷ f) = omega (arith, tally_marks i (tally_flag begins c) f)
tally_marks (suc i) c (letter opens b ∷ f) = omega (arith, tally_marks i (tally_flag opens c) f)
tally_marks (suc i) c (letter closes b ∷ f) = omega (arith, tally_marks i (tally_flag closes c) f)

pub tally_peak : (i : ℕ) (c : Tally) (f : List Letter) → (tally_from c (take i f)).level ≤ peak_along c.level f
unfolding tally_from tally_flag peak_along level_flag
tally_peak zero c f = peak_least c.level f
tally_peak (suc i) c [] = omega arith
tally_peak (suc i) c (letter inside b ∷ f) = omega (arith, tally_peak i c f)
tally_peak (suc i) c (letter begins b ∷ f) = omega (arith, tally_peak i (tally_flag begins c) f)
tally_peak (suc i) c (letter opens b ∷ f) = omega (arith, tally_peak i (tally_flag opens c) f)
tally_peak (suc i) c (letter closes b ∷ f) = omega (arith, tally_peak i (tally_flag closes c) f)

-- f has k marks more than r, and comes no higher
record Adds (f r : List Letter) (k : ℕ) : Type 0 where
  marks : marks_along f ≡ k + marks_along r
  flat : (l : ℕ) → peak_along l f ≡ peak_along l r

plain_adds : (b : ℕ) (r : List Letter) → Adds (plain b ∷ r) r 0
unfolding marks_along peak_along level_flag
plain_adds b r = record { marks = omega arith; flat = λ l. omega (arith, peak_least l r) }

plains_adds : (w : Word) (r : List Letter) → Adds (plains w r) r 0
unfolding plains
plains_adds [] r = record { marks = omega arith; flat = λ l. refl }
plains_adds (b ∷ w) r =
    let h = plains_adds w r in
    let k = plain_adds b (plains w r) in
    let x = h.marks in
    let y = k.marks in
    record { marks = omega arith; flat = λ l. k.flat l ∙ h.flat l }

begins_adds : (w : Word) (r : List Letter) → 1 ≤ length w → Adds (flagged begins w r) r 1
unfolding flagged marks_along peak_along level_flag
begins_adds [] r h = absurd (omega arith)
begins_adds (b ∷ w) r h =
    let k = plains_adds w r in
    let x = k.marks in
    record { marks = omega arith; flat = λ l. omega (arith, k.flat l, peak_least l r) }

then : {f g r : List Letter} {j k : ℕ} (i : ℕ) → Adds f g j → Adds g r k → i ≡ j + k → Adds f r i
then i a b e = let x = a.marks in let y = b.marks in record { marks = omega arith; flat = λ l. a.flat l ∙ b.flat l }

hex_adds : (ds : List ℕ) (r : List Letter) → Adds (write_hex ds r) r 0
unfolding write_hex
hex_adds [] r = record { marks = omega arith; flat = λ l. refl }
hex_adds (d ∷ ds) r = then 0 (plain_adds _ (write_hex ds r)) (hex_adds ds r) (omega arith)

number_adds : (k : ℕ) (r : List Letter) → Adds (write_number k r) r 0
unfolding write_number
number_adds k r = plains_adds (decimal k) r

item_adds : (k : ℕ) (r : List Letter) → Small k → Adds (write_item k r) r 1
unfolding write_item
item_adds k r h = begins_adds (decimal k) r (decimal-some k (omega arith))

comma_adds : (r : List Letter) → Adds (plain 44 ∷ plain 32 ∷ r) r 0
comma_adds r = then 0 (plain_adds 44 (plain 32 ∷ r)) (plain_adds 32 r) (omega arith)

more_items_adds : {ks : List ℕ} (r : List Letter) → Smalls ks → Adds (write_more_items ks r) r (length ks)
unfolding write_more_items
more_items_adds r none = record { marks = omega arith; flat = λ l. refl }
more_items_adds {ks = k ∷ ks} r (more h i) =
    then (suc (length ks)) (comma_adds (write_item k (write_more_items ks r))) (then (suc (length ks)) (item_adds k (write_more_items ks r) h) (more_items_adds r i) (omega arith)) (omega arith)

items_adds : {ks : List ℕ} (r : List Letter) → Smalls ks → Adds (write_items ks r) r (length ks)
unfolding write_items
items_adds r none = record { marks = omega arith; flat = λ l. refl }
items_adds {ks = k ∷ ks} r (more h i) = then (suc (length ks)) (item_adds k (write_more_items ks r) h) (more_items_adds r i) (omega arith)

part_adds : (p : Part) (r : List Letter) → SmallPart p → Adds (write_part p r) r 1
unfolding write_part
part_adds p r h =
    then 1 (begins_adds (decimal p.from) _ (decimal-some p.from (let s = h.from_small in omega arith)))
    (then 0 (plain_adds 58 _) (then 0 (plains_adds (pick p.backward (codes "-") []) (write_number p.step (plain 58 ∷ write_number p.many r)))
    (then 0 (number_adds p.step (plain 58 ∷ write_number p.many r)) (then 0 (plain_adds 58 (write_number p.many r)) (number_adds p.many r) (omega arith)) (omega arith)) (omega arith)) (omega arith)) (omega arith)

more_parts_adds : {ps : List Part} (r : List Letter) → SmallParts ps → Adds (write_more_parts ps r) r (length ps)
unfolding write_more_parts
more_parts_adds r none = record { marks = omega arith; flat = λ l. refl }
more_parts_adds {ps = p ∷ ps} r (more h i) =
    then (suc (length ps)) (comma_adds (write_part p (write_more_parts ps r))) (then (suc (length ps)) (part_adds p (write_more_parts ps r) h) (more_parts_adds r i) (omega arith)) (omega arith)

parts_adds : {ps : List Part} (r : List Letter) → SmallParts ps → Adds (write_parts ps r) r (length ps)
unfolding write_parts
parts_adds r none = record { marks = omega arith; flat = λ l. refl }
parts_adds {ps = p ∷ ps} r (more h i) = then (suc (length ps)) (part_adds p (write_more_parts ps r) h) (more_parts_adds r i) (omega arith)

unary_some : (k : Unary) → 1 ≤ length (unary_word k)
unfolding unary_word
unary_some Neg = omega arith
unary_some Abs = omega arith
unary_some Sqrt = omega arith
unary_some Floor = omega arith
unary_some Not = omega arith

binary_some : (k : Binary) → 1 ≤ length (binary_word k)
unfolding binary_word
binary_some Add = omega arith
binary_some Sub = omega arith
binary_some Mul = omega arith
binary_some Div = omega arith
binary_some Less = omega arith
binary_some Same = omega arith
binary_some Least = omega arith
binary_some Most = omega arith

name_some : (w : Word) → is_name w ≡ true → 1 ≤ length w
unfolding is_name shaped
name_some [] h = absurd (both_ways false refl (and_parts (shaped []) (not (reserved [])) h).0)
name_some (b ∷ w) h = omega arith

comes_below : {k n m : ℕ} → Comes k n m → k < m
comes_below (known h) = h
comes_below new = omega arith

-- lines: so many marks more, and so much higher
pub record LinesAdd (ms : List Word) (p : Program (List ℕ)) (r : List Letter) : Type 0 where
  pub marks : marks_along (write_lines ms p r) ≡ marks_of p + marks_along r
  pub high : (l : ℕ) → peak_along l (write_lines ms p r) ≡ max (l + depth_of p) (peak_along l r)

-- the highest of an again, with d levels inside of it, and of p levels and height r behind it
peak_again : (i d p r : ℕ) → max i (max (suc i + d) (max (suc i) (max (i + p) r))) ≡ max (i + max (suc d) p) r
peak_again i d p r = begin_low (max (suc i) (max (i + p) r)) ∙ end_low (max (i + p) r) ∙ omega arith
  where
    begin_low : (m : ℕ) → max i (max (suc i + d) m) ≡ max (suc i + d) m
    begin_low m = omega arith

    end_low : (n : ℕ) → max (suc i + d) (max (suc i) n) ≡ max (suc i + d) n
    end_low n = omega arith

-- an again: its first byte, its lines, and its end
again_add : (ms : List Word) (r : List Letter) (k : ℕ) (b p : Program (List ℕ)) → Adds (plains (codes "gain ") (write_number k (plain 10 ∷ write_lines ms b (flagged closes (codes "end") (plain 10 ∷ write_lines ms p r))))) (write_lines ms b (flagged closes (codes "end") (plain 10 ∷ write_lines ms p r))) 0 → Adds (plains (codes "nd") (plain 10 ∷ write_lines ms p r)) (write_lines ms p r) 0
    → marks_along (write_lines ms b (flagged closes (codes "end") (plain 10 ∷ write_lines ms p r))) ≡ marks_of b + marks_along (flagged closes (codes "end") (plain 10 ∷ write_lines ms p r))
    → ((l : ℕ) → peak_along l (write_lines ms b (flagged closes (codes "end") (plain 10 ∷ write_lines ms p r))) ≡ max (l + depth_of b) (peak_along l (flagged closes (codes "end") (plain 10 ∷ write_lines ms p r))))
    → marks_along (write_lines ms p r) ≡ marks_of p + marks_along r → ((l : ℕ) → peak_along l (write_lines ms p r) ≡ max (l + depth_of p) (peak_along l r)) → LinesAdd ms (Program.again k b p) r
unfolding write_lines marks_of depth_of flagged marks_along peak_along level_flag
again_add ms r k b p g e bm bh pm ph =
    let gm = g.marks in
    let em = e.marks in
    record {
      marks = omega arith;
      high = λ i.
          let z : peak_along (suc i - 1) (plains (codes "nd") (plain 10 ∷ write_lines ms p r)) ≡ peak_along i (write_lines ms p r) = ap (λ j. peak_along j (plains (codes "nd") (plain 10 ∷ write_lines ms p r))) (omega arith) ∙ e.flat i in
          ap (λ n. max i n) (g.flat (suc i) ∙ bh (suc i) ∙ ap (λ n. max (suc i + depth_of b) (max (suc i) n)) (z ∙ ph i)) ∙ peak_again i (depth_of b) (depth_of p) (peak_along i r);
    }

module _ (ms : List Word) (are : are_names ms ≡ true) where
  expr_adds : {e : Expr (List ℕ)} {n m : ℕ} (r : List Letter) → Fits Sixteen e n m → m ≤ length ms → Adds (write_expr ms e r) r (marks_in e)
  unfolding write_expr marks_in flagged plains
  expr_adds r (fit_name {k = k} c) l = begins_adds (get_or ms k []) r (name_some (get_or ms k []) (names_at ms k are (let b = comes_below c in omega arith)))
  expr_adds r (fit_input {k = k} h) l = then 1 (begins_adds (codes "in ") (write_number k r) (omega arith)) (number_adds k r) (omega arith)
  expr_adds r (fit_constant {x = ds} h) l = then 1 (begins_adds (35 ∷ []) (write_hex ds r) (omega arith)) (hex_adds ds r) (omega arith)
  expr_adds r (fit_count {k = k} h) l = then 1 (begins_adds (codes "count ") (write_number k r) (omega arith)) (number_adds k r) (omega arith)
  expr_adds r (fit_each {k = k} {e = e} x) l =
      then (1 + marks_in e) (begins_adds (unary_word k) (plain 40 ∷ write_expr ms e (plain 41 ∷ r)) (unary_some k))
      (then (marks_in e) (plain_adds 40 (write_expr ms e (plain 41 ∷ r))) (then (marks_in e) (expr_adds (plain 41 ∷ r) x l) (plain_adds 41 r) (omega arith)) (omega arith)) (omega arith)
  expr_adds r (fit_both {k = k} {e = e} {f = f} x y) l =
      let s : List Letter = write_expr ms f (plain 41 ∷ r) in
      let a = fits_more y in
      then (1 + marks_in e + marks_in f) (begins_adds (binary_word k) (plain 40 ∷ write_expr ms e (plain 44 ∷ plain 32 ∷ s)) (binary_some k))
      (then (marks_in e + marks_in f) (plain_adds 40 (write_expr ms e (plain 44 ∷ plain 32 ∷ s)))
      (then (marks_in e + marks_in f) (expr_adds (plain 44 ∷ plain 32 ∷ s) x (omega arith))
      (then (marks_in f) (comma_adds s) (then (marks_in f) (expr_adds (plain 41 ∷ r) y l) (plain_adds 41 r) (omega arith)) (omega arith)) (omega arith)) (omega arith)) (omega arith)
  expr_adds r (fit_choose {e = e} {f = f} {g = g} x y z) l =
      let t : List Letter = write_expr ms g (plain 41 ∷ r) in
      let s : List Letter = write_expr ms f (plain 44 ∷ plain 32 ∷ t) in
      let a = fits_more y in
      let b = fits_more z in
      then (1 + marks_in e + marks_in f + marks_in g) (begins_adds (codes "choose(") (write_expr ms e (plain 44 ∷ plain 32 ∷ s)) (omega arith))
      (then (marks_in e + marks_in f + marks_in g) (expr_adds (plain 44 ∷ plain 32 ∷ s) x (omega arith))
      (then (marks_in f + marks_in g) (comma_adds s)
      (then (marks_in f + marks_in g) (expr_adds (plain 44 ∷ plain 32 ∷ t) y (omega arith))
      (then (marks_in g) (comma_adds t) (then (marks_in g) (expr_adds (plain 41 ∷ r) z l) (plain_adds 41 r) (omega arith)) (omega arith)) (omega arith)) (omega arith)) (omega arith)) (omega arith)
  expr_adds r (fit_fold {k = k} {x = v} {e = e} h x) l =
      let s : List Letter = plain 40 ∷ write_expr ms e (plain 41 ∷ r) in
      let t : List Letter = plain 32 ∷ write_number v s in
      then (1 + marks_in e) (begins_adds (codes "fold ") (plains (binary_word k) t) (omega arith))
      (then (marks_in e) (plains_adds (binary_word k) t) (then (marks_in e) (plain_adds 32 (write_number v s)) (then (marks_in e) (number_adds v s)
      (then (marks_in e) (plain_adds 40 (write_expr ms e (plain 41 ∷ r))) (then (marks_in e) (expr_adds (plain 41 ∷ r) x l) (plain_adds 41 r) (omega arith)) (omega arith)) (omega arith)) (omega arith)) (omega arith)) (omega arith)
  expr_adds r (fit_scan {k = k} {x = v} {e = e} h x) l =
      let s : List Letter = plain 40 ∷ write_expr ms e (plain 41 ∷ r) in
      let t : List Letter = plain 32 ∷ write_number v s in
      then (1 + marks_in e) (begins_adds (codes "scan ") (plains (binary_word k) t) (omega arith))
      (then (marks_in e) (plains_adds (binary_word k) t) (then (marks_in e) (plain_adds 32 (write_number v s)) (then (marks_in e) (number_adds v s)
      (then (marks_in e) (plain_adds 40 (write_expr ms e (plain 41 ∷ r))) (then (marks_in e) (expr_adds (plain 41 ∷ r) x l) (plain_adds 41 r) (omega arith)) (omega arith)) (omega arith)) (omega arith)) (omega arith)) (omega arith)
  expr_adds r (fit_shape {t = ks} {e = e} h x) l =
      let u : List Letter = write_expr ms e (plain 41 ∷ r) in
      let s : List Letter = plain 93 ∷ plain 40 ∷ u in
      then (1 + length ks + marks_in e) (begins_adds (codes "shape [") (write_items ks s) (omega arith))
      (then (length ks + marks_in e) (items_adds s h) (then (marks_in e) (plain_adds 93 (plain 40 ∷ u)) (then (marks_in e) (plain_adds 40 u)
      (then (marks_in e) (expr_adds (plain 41 ∷ r) x l) (plain_adds 41 r) (omega arith)) (omega arith)) (omega arith)) (omega arith)) (omega arith)
  expr_adds r (fit_turn {os = ks} {e = e} h x) l =
      let u : List Letter = write_expr ms e (plain 41 ∷ r) in
      let s : List Letter = plain 93 ∷ plain 40 ∷ u in
      then (1 + length ks + marks_in e) (begins_adds (codes "turn [") (write_items ks s) (omega arith))
      (then (length ks + marks_in e) (items_adds s h) (then (marks_in e) (plain_adds 93 (plain 40 ∷ u)) (then (marks_in e) (plain_adds 40 u)
      (then (marks_in e) (expr_adds (plain 41 ∷ r) x l) (plain_adds 41 r) (omega arith)) (omega arith)) (omega arith)) (omega arith)) (omega arith)
  expr_adds r (fit_part {ps = ks} {e = e} h x) l =
      let u : List Letter = write_expr ms e (plain 41 ∷ r) in
      let s : List Letter = plain 93 ∷ plain 40 ∷ u in
      then (1 + length ks + marks_in e) (begins_adds (codes "part [") (write_parts ks s) (omega arith))
      (then (length ks + marks_in e) (parts_adds s h) (then (marks_in e) (plain_adds 93 (plain 40 ∷ u)) (then (marks_in e) (plain_adds 40 u)
      (then (marks_in e) (expr_adds (plain 41 ∷ r) x l) (plain_adds 41 r) (omega arith)) (omega arith)) (omega arith)) (omega arith)) (omega arith)
  expr_adds r (fit_join {x = v} {e = e} {f = f} h x y) l =
      let s : List Letter = write_expr ms f (plain 41 ∷ r) in
      let t : List Letter = plain 40 ∷ write_expr ms e (plain 44 ∷ plain 32 ∷ s) in
      let a = fits_more y in
      then (1 + marks_in e + marks_in f) (begins_adds (codes "join ") (write_number v t) (omega arith))
      (then (marks_in e + marks_in f) (number_adds v t) (then (marks_in e + marks_in f) (plain_adds 40 (write_expr ms e (plain 44 ∷ plain 32 ∷ s)))
      (then (marks_in e + marks_in f) (expr_adds (plain 44 ∷ plain 32 ∷ s) x (omega arith))
      (then (marks_in f) (comma_adds s) (then (marks_in f) (expr_adds (plain 41 ∷ r) y l) (plain_adds 41 r) (omega arith)) (omega arith)) (omega arith)) (omega arith)) (omega arith)) (omega arith)
  expr_adds r (fit_rows {e = e} {f = f} x y) l =
      let s : List Letter = write_expr ms f (plain 41 ∷ r) in
      let a = fits_more y in
      then (1 + marks_in e + marks_in f) (begins_adds (codes "rows(") (write_expr ms e (plain 44 ∷ plain 32 ∷ s)) (omega arith))
      (then (marks_in e + marks_in f) (expr_adds (plain 44 ∷ plain 32 ∷ s) x (omega arith))
      (then (marks_in f) (comma_adds s) (then (marks_in f) (expr_adds (plain 41 ∷ r) y l) (plain_adds 41 r) (omega arith)) (omega arith)) (omega arith)) (omega arith)

  -- a line's expression, with its newline
  line_adds : {e : Expr (List ℕ)} {n m : ℕ} (r : List Letter) → Fits Sixteen e n m → m ≤ length ms → Adds (write_expr ms e (plain 10 ∷ r)) r (marks_in e)
  line_adds {e} r x l = then (marks_in e) (expr_adds (plain 10 ∷ r) x l) (plain_adds 10 r) (omega arith)

  pub lines_add : {p : Program (List ℕ)} {n m : ℕ} (r : List Letter) → FitLines Sixteen p n m → m ≤ length ms → LinesAdd ms p r
  unfolding write_lines marks_of depth_of
  lines_add r fit_end l = record { marks = omega arith; high = λ i. omega (arith, peak_least i r) }
  lines_add r (fit_be {k = k} {e = e} {p = p} c x y) l =
      let q = lines_more y in
      let s : List Letter = write_lines ms p r in
      let t : List Letter = write_expr ms e (plain 10 ∷ s) in
      let a : Adds (flagged begins (codes "let ") (plains (get_or ms k []) (plains (codes " = ") t))) s (1 + marks_in e) =
      then (1 + marks_in e) (begins_adds (codes "let ") (plains (get_or ms k []) (plains (codes " = ") t)) (omega arith))
      (then (marks_in e) (plains_adds (get_or ms k []) (plains (codes " = ") t)) (then (marks_in e) (plains_adds (codes " = ") t) (line_adds s x (omega arith)) (omega arith)) (omega arith)) (omega arith) in
      let b = lines_add r y l in
      let u = a.marks in
      let v = b.marks in
      record { marks = omega arith; high = λ i. a.flat i ∙ b.high i }
  lines_add r (fit_put {k = k} {ps = ps} {e = e} {p = p} c h x y) l =
      let q = lines_more y in
      let s : List Letter = write_lines ms p r in
      let t : List Letter = write_expr ms e (plain 10 ∷ s) in
      let w : List Letter = write_parts ps (plains (codes "] = ") t) in
      let a : Adds (flagged begins (codes "put ") (plains (get_or ms k []) (plains (codes " [") w))) s (1 + length ps + marks_in e) =
      then (1 + length ps + marks_in e) (begins_adds (codes "put ") (plains (get_or ms k []) (plains (codes " [") w)) (omega arith))
      (then (length ps + marks_in e) (plains_adds (get_or ms k []) (plains (codes " [") w)) (then (length ps + marks_in e) (plains_adds (codes " [") w)
      (then (length ps + marks_in e) (parts_adds (plains (codes "] = ") t) h) (then (marks_in e) (plains_adds (codes "] = ") t) (line_adds s x (omega arith)) (omega arith)) (omega arith)) (omega arith)) (omega arith)) (omega arith) in
      let b = lines_add r y l in
      let u = a.marks in
      let v = b.marks in
      record { marks = omega arith; high = λ i. a.flat i ∙ b.high i }
  lines_add r (fit_show {e = e} {p = p} x y) l =
      let q = lines_more y in
      let s : List Letter = write_lines ms p r in
      let a : Adds (flagged begins (codes "show ") (write_expr ms e (plain 10 ∷ s))) s (1 + marks_in e) =
      then (1 + marks_in e) (begins_adds (codes "show ") (write_expr ms e (plain 10 ∷ s)) (omega arith)) (line_adds s x (omega arith)) (omega arith) in
      let b = lines_add r y l in
      let u = a.marks in
      let v = b.marks in
      record { marks = omega arith; high = λ i. a.flat i ∙ b.high i }
  lines_add r (fit_again {k = k} {b = b} {p = p} h x y) l =
      let q = lines_more y in
      let s : List Letter = write_lines ms p r in
      let c : List Letter = flagged closes (codes "end") (plain 10 ∷ s) in
      let a = lines_add c x (omega arith) in
      let z = lines_add r y l in
      again_add ms r k b p (then 0 (plains_adds (codes "gain ") (write_number k (plain 10 ∷ write_lines ms b c))) (then 0 (number_adds k (plain 10 ∷ write_lines ms b c)) (plain_adds 10 (write_lines ms b c)) (omega arith)) (omega arith)) (then 0 (plains_adds (codes "nd") (plain 10 ∷ s)) (plain_adds 10 s) (omega arith)) a.marks a.high z.marks z.high
