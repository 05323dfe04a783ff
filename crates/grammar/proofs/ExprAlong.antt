-- The automaton along an expression: afterwards its steps are there, its names have come, and what stood below it is next.
use Rattle.std.proofs.Common.{◌≡◌, ℕ, suc, ◌<◌, ◌≤◌, true, false, not, ◌&&◌, ◌||◌, eqb, ltb, leb, List, [], ◌∷◌, ◌++◌, length, get_or, take, None, sym, refl, ap, ◌∙◌, ap₂, arith, length-take}
use Rattle.std.proofs.lemmas.Bool.{and_from, and_parts, or_left, or_right, or_parts, not-true, lt-ltb, leb-true, ne_eqb}
use Rattle.semantics.specs.Shapes.{pick}
use Rattle.semantics.specs.Values.{Expr}
use Rattle.program.specs.declared.step.Step.{Step}
use Rattle.grammar.specs.Letters.{Flag, inside, begins, Letter, letter, plain, plains, flagged}
use Rattle.grammar.specs.Words.{Word, in_word, is_digit, is_letter, all_in_word, is_name, is_some, itself, shaped, reserved, find, head_word, heads, are_names}
use Rattle.grammar.specs.Constants.{read_expr, read_constant}
use Rattle.grammar.specs.Sayable.{Small, Comes, known, new, Fits, fit_name, fit_input, fit_constant, fit_count, fit_each, fit_both, fit_choose, fit_fold, fit_scan, fit_shape, fit_turn, fit_part, fit_join, fit_rows, Sixteen, Digits, more}
use Rattle.grammar.specs.Written.{write_expr, write_hex, write_number}
use Rattle.grammar.specs.Moves.{belongs, Move, move, moves, when, can_name, viable_name, viable, with_name, place, ends, word_ends, name_ends, Ended, ended, no, number_step, target_step, target_rest}
use Rattle.grammar.specs.Automaton.{at}
use Rattle.grammar.specs.declared.symbol.Along.{Along}
use Rattle.grammar.specs.declared.symbol.Target.{Target}
use Rattle.grammar.specs.declared.symbol.Number.{Number}
use Rattle.grammar.specs.declared.symbol.Symbol.{Symbol}
use Rattle.grammar.proofs.WordLaws.{find_none}
use Rattle.grammar.proofs.NameLaws.{names_at, place_known, place_new, take_snoc}
use Rattle.grammar.proofs.Along.{along, along_moves, along_ends}
use Rattle.grammar.proofs.NumberAlong.{when_true}
use Rattle.grammar.proofs.NameAlong.{viable_front, viable_from_name, letters_along}
use Rattle.grammar.proofs.ListAlong.{hex_along, number_all, items_along, parts_along}
use Rattle.grammar.proofs.Emits.{emit, emit_items, emit_parts}
use Rattle.grammar.proofs.Pieces.{each_head, both_head, choose_head, rows_head, in_head, count_head, join_head, fold_head, scan_head, binary_along, along_end, join_end, shape_head, turn_head, part_head, constant_head, byte_along, close_along, comma_along}

-- a word is the name k; with it the names are ns'
pub record Named (ns : List Word) (w : Word) (ns' : List Word) (k : ℕ) : Type 0 where
  pub can : can_name ns w ≡ true
  pub with_it : with_name ns w ≡ ns'
  pub number : place ns w ≡ k

-- spellings enough for a program
pub record Spellings (ms : List Word) : Type 0 where
  pub are : are_names ms ≡ true
  pub few : length ms ≤ 64

pub named : {ms : List Word} → Spellings ms → {k n m : ℕ} → Comes k n m → m ≤ length ms → Named (take n ms) (get_or ms k []) (take m ms) k
unfolding can_name with_name
named {ms} sp {k} {n} (known h) l =
    let p = place_known ms n k sp.are l h in
    record {
      can = and_from _ _ (names_at ms k sp.are (omega arith)) (or_left _ _ p.1);
      with_it = ap (λ t. pick t (take n ms) (take n ms ++ get_or ms k [] ∷ [])) p.1;
      number = p.0;
    }
named {ms} sp {n = n} new l =
    let p = place_new ms n sp.are l in
    let f = sp.few in
    let s : length (take n ms) < 64 = omega (arith, length-take n ms) in
    record {
      can = and_from _ _ (names_at ms n sp.are l) (or_right _ _ (lt-ltb (length (take n ms)) 64 s));
      with_it = ap (λ t. pick t (take n ms) (take n ms ++ get_or ms n [] ∷ [])) p.1 ∙ take_snoc ms n l;
      number = p.0;
    }

-- what can_name tells of the word
record Letters (ns : List Word) (w : Word) : Type 0 where
  has_shape : shaped w ≡ true
  free : find head_word heads w ≡ None

can_letters : (ns : List Word) (w : Word) → can_name ns w ≡ true → Letters ns w
unfolding can_name is_name reserved
can_letters ns w h =
    let p = and_parts (is_name w) (is_some itself ns w || ltb (length ns) 64) h in
    let q = and_parts (shaped w) (not (reserved w)) p.0 in
    let r = or_parts _ _ (not-true (reserved w) q.1) in
    record { has_shape = q.0; free = find_none head_word heads w r.0 }

name_ended : {ns : List Word} {w : Word} {ns' : List Word} {k : ℕ} → Named ns w ns' k → (step : ℕ → Step) (rest : List Symbol) → name_ends ns w step rest ≡ ended ns' (step k ∷ []) rest
unfolding name_ends
name_ended {ns} {w} h step rest =
    ap (λ t. pick t (ended (with_name ns w) (step (place ns w) ∷ []) rest) no) h.can
    ∙ ap₂ (λ x y. ended x (step y ∷ []) rest) h.with_it h.number

record Shape (b : ℕ) (w : Word) : Type 0 where
  a_letter : is_letter b ≡ true
  all_letters : all_in_word w ≡ true

shape_tells : (b : ℕ) (w : Word) → shaped (b ∷ w) ≡ true → Shape b w
unfolding shaped
shape_tells b w h =
    let p = and_parts (is_letter b && all_in_word w) (ltb (length w) 8) h in
    let q = and_parts (is_letter b) (all_in_word w) p.0 in record { a_letter = q.0; all_letters = q.1 }

letter_other : (b : ℕ) → is_letter b ≡ true → eqb b 35 ≡ false
unfolding is_letter
letter_other b h = ne_eqb b 35 (λ e. let l = leb-true 97 b (and_parts (leb 97 b) (leb b 122) h).0 in omega arith)

-- the byte behind an expression ends every word and number, and is for what stands below
pub record Stop (t : Symbol) (b : ℕ) : Type 0 where
  pub ends_word : in_word b ≡ false
  pub fresh : belongs t b ≡ true

pub stop_digit : {t : Symbol} {b : ℕ} → Stop t b → is_digit b ≡ false
unfolding in_word
stop_digit {b = b} h = (or_parts (is_letter b) (is_digit b) h.ends_word).1

-- a name in an expression
pub name_along : {ns : List Word} {w : Word} {ns' : List Word} {k : ℕ} → Named ns w ns' k → (o : List Step) {t : Symbol} (rest : List Symbol) (x : Flag) {b : ℕ} (f : List Letter) → Stop t b → along (at ns o (Symbol.Expr ∷ t ∷ rest) [] 0) (flagged begins w (letter x b ∷ f)) ≡ along (at ns' (Step.Name k ∷ o) (t ∷ rest) [] 0) (letter x b ∷ f)
unfolding flagged belongs moves ends word_ends shaped
name_along {ns} {w = []} h o rest x f c = absurd (empty (can_letters ns [] h.can).has_shape)
  where
    empty : false ≡ true → ⊥
    empty e = let z : ◌≡◌ {A = ℕ} 0 1 = cc in omega arith
name_along {ns} {w = a ∷ w} {k = k} h o {t} rest x {b} f c =
    let l = can_letters ns (a ∷ w) h.can in
    let s = shape_tells a w l.has_shape in
    let v : viable ns (a ∷ []) ≡ true = viable_from_name ns (a ∷ []) (viable_front ns (a ∷ w) (a ∷ []) w h.can refl (omega arith)) in
    along_moves ns o Symbol.Expr (t ∷ rest) [] 0 a (plains w (letter x b ∷ f)) refl
    (ap (λ d. pick d (move begins [] (Symbol.Hex 16 ∷ []) [] 0) (when (viable ns (a ∷ [])) (move begins [] (Symbol.Word ∷ []) (a ∷ []) 0))) (letter_other a s.a_letter) ∙ when_true _ _ v)
    ∙ letters_along ns o Symbol.Word (t ∷ rest) (viable ns) (λ d. refl) (λ u d. refl) (a ∷ w) (a ∷ []) w (letter x b ∷ f) refl (λ u d e g. viable_from_name ns u (viable_front ns (a ∷ w) u d h.can e g)) s.all_letters
    ∙ along_ends ns o Symbol.Word (t ∷ rest) (a ∷ w) 0 x b f c.ends_word (ap (λ d. word_ends ns (a ∷ w) d) l.free ∙ name_ended h (λ d. Step.Name d) []) refl c.fresh

-- a name behind let or put, up to the space behind it
pub target_along : {ns : List Word} {w : Word} {ns' : List Word} {k : ℕ} → Named ns w ns' k → (o : List Step) (y : Target) {rest' : List Symbol} (rest : List Symbol) (f : List Letter) → target_rest y ++ rest ≡ Symbol.Byte 32 ∷ rest' → along (at ns o (Symbol.Target y ∷ rest) [] 0) (plains w (plain 32 ∷ f)) ≡ along (at ns' (target_step y k ∷ o) (Symbol.Byte 32 ∷ rest') [] 0) (plain 32 ∷ f)
unfolding belongs moves ends shaped all_in_word in_word is_digit is_letter
target_along {ns} {w = []} h o y rest f e = absurd (empty (can_letters ns [] h.can).has_shape)
  where
    empty : false ≡ true → ⊥
    empty e = let z : ◌≡◌ {A = ℕ} 0 1 = cc in omega arith
target_along {ns} {w = a ∷ w} h o y rest f e =
    let l = can_letters ns (a ∷ w) h.can in
    let s = shape_tells a w l.has_shape in
    letters_along ns o (Symbol.Target y) rest (viable_name ns) (λ d. refl) (λ u d. refl) (a ∷ w) [] (a ∷ w) (plain 32 ∷ f) refl (λ u d q g. viable_front ns (a ∷ w) u d h.can q g) (and_from _ _ (or_left _ _ s.a_letter) s.all_letters)
    ∙ along_ends ns o (Symbol.Target y) rest (a ∷ w) 0 inside 32 f refl (name_ended h (λ d. target_step y d) (target_rest y)) e refl

-- names only become more
pub comes_more : {k n m : ℕ} → Comes k n m → n ≤ m
comes_more (known h) = omega arith
comes_more new = omega arith

pub fits_more : {Num : Type 0} {Ok : Num → Type 0} {e : Expr Num} {n m : ℕ} → Fits Ok e n m → n ≤ m
fits_more (fit_name c) = comes_more c
fits_more (fit_input h) = omega arith
fits_more (fit_constant h) = omega arith
fits_more (fit_count h) = omega arith
fits_more (fit_each e) = fits_more e
fits_more (fit_both e f) = omega (arith, fits_more e, fits_more f)
fits_more (fit_choose e f g) = omega (arith, fits_more e, fits_more f, fits_more g)
fits_more (fit_fold h e) = fits_more e
fits_more (fit_scan h e) = fits_more e
fits_more (fit_shape h e) = fits_more e
fits_more (fit_turn h e) = fits_more e
fits_more (fit_part h e) = fits_more e
fits_more (fit_join h e f) = omega (arith, fits_more e, fits_more f)
fits_more (fit_rows e f) = omega (arith, fits_more e, fits_more f)

-- a number that ends an expression
number_ends : (ns : List Word) (o : List Step) (p : Number) {t : Symbol} (rest : List Symbol) (v : ℕ) (x : Flag) {b : ℕ} (f : List Letter) → Stop t b → ends ns (Symbol.Digits p) [] v ≡ ended ns (number_step p v) [] → along (at ns o (Symbol.Digits p ∷ t ∷ rest) [] v) (letter x b ∷ f) ≡ along (at ns (number_step p v ++ o) (t ∷ rest) [] 0) (letter x b ∷ f)
unfolding belongs
number_ends ns o p {t} rest v x {b} f c e = along_ends ns o (Symbol.Digits p) (t ∷ rest) [] v x b f (stop_digit c) e refl c.fresh

constant_along : (ns : List Word) (o : List Step) (s : List Symbol) (ds : List ℕ) (f : List Letter) → Sixteen ds → along (at ns o (Symbol.Hex 16 ∷ s) [] 0) (write_hex ds f) ≡ along (at ns (Step.Constant (read_constant ds) ∷ o) s [] 0) f
unfolding read_constant
constant_along ns o s [] f h = let q = h.sixteen in absurd (omega arith)
constant_along ns o s (d ∷ ds) f h = go h.digits
  where
    go : Digits (d ∷ ds) → along (at ns o (Symbol.Hex 16 ∷ s) [] 0) (write_hex (d ∷ ds) f) ≡ along (at ns (Step.Constant (read_constant (d ∷ ds)) ∷ o) s [] 0) f
    go (more i j) = ap (λ n. along (at ns o (Symbol.Hex n ∷ s) [] 0) (write_hex (d ∷ ds) f)) (sym h.sixteen) ∙ hex_along ns o s 0 d ds f i j

closing : Stop (Symbol.Operands 0) 41
unfolding in_word belongs is_letter is_digit
closing = record { ends_word = refl; fresh = refl }

comma : (n : ℕ) → Stop (Symbol.Operands (suc n)) 44
unfolding in_word belongs is_letter is_digit
comma n = record { ends_word = refl; fresh = refl }

module _ (ms : List Word) (sp : Spellings ms) where
  -- what the automaton does along an expression
  pub record ReadExpr (e : Expr (List ℕ)) (n m : ℕ) : Type 0 where
    pub go : (o : List Step) (t : Symbol) (rest : List Symbol) (x : Flag) (b : ℕ) (r : List Letter) → Stop t b → along (at (take n ms) o (Symbol.Expr ∷ t ∷ rest) [] 0) (write_expr ms e (letter x b ∷ r)) ≡ along (at (take m ms) (emit (read_expr e) o) (t ∷ rest) [] 0) (letter x b ∷ r)

  -- the last operand, with its parenthesis; and one before the last
  last_operand : {e : Expr (List ℕ)} {n m : ℕ} → ReadExpr e n m → (o : List Step) (s : List Symbol) (r : List Letter) → along (at (take n ms) o (Symbol.Expr ∷ Symbol.Operands 0 ∷ s) [] 0) (write_expr ms e (plain 41 ∷ r)) ≡ along (at (take m ms) (emit (read_expr e) o) s [] 0) r
  last_operand {e} {n} {m} ih o s r = ih.go o (Symbol.Operands 0) s inside 41 r closing ∙ close_along (take m ms) (emit (read_expr e) o) s r

  operand : {e : Expr (List ℕ)} {n m : ℕ} → ReadExpr e n m → (k : ℕ) (o : List Step) (s : List Symbol) (r : List Letter) → along (at (take n ms) o (Symbol.Expr ∷ Symbol.Operands (suc k) ∷ s) [] 0) (write_expr ms e (plain 44 ∷ plain 32 ∷ r)) ≡ along (at (take m ms) (emit (read_expr e) o) (Symbol.Expr ∷ Symbol.Operands k ∷ s) [] 0) r
  operand {e} {n} {m} ih k o s r =
      ih.go o (Symbol.Operands (suc k)) s inside 44 (plain 32 ∷ r) (comma k) ∙ comma_along (take m ms) (emit (read_expr e) o) s r k

  along_all : (a : Along) (k : _) (v : ℕ) (ns : List Word) (o : List Step) (s : List Symbol) (r : List Letter) → Small v → along (at ns o (Symbol.Number (Number.Along a k) ∷ s) [] 0) (write_number v (plain 40 ∷ r)) ≡ along (at ns (Rattle.grammar.specs.Moves.along_step a k v ∷ o) (Symbol.Expr ∷ Symbol.Operands 0 ∷ s) [] 0) r
  along_all a k v ns o s r h = number_all ns o s (Number.Along a k) v (plain 40 ∷ r) h ∙ along_end ns o s r a k v

  pub expr_along : {e : Expr (List ℕ)} {n m : ℕ} → Fits Sixteen e n m → m ≤ length ms → ReadExpr e n m
  unfolding write_expr read_expr emit ends number_step Rattle.grammar.specs.Moves.along_step
  expr_along (fit_name c) l = record { go = λ o t rest x b r h. name_along (named sp c l) o rest x r h }
  expr_along {n = n} (fit_input {k = k} i) l = record {
    go = λ o t rest x b r h.
        in_head (take n ms) o (t ∷ rest) (write_number k (letter x b ∷ r))
        ∙ number_all (take n ms) o (t ∷ rest) Number.Input k (letter x b ∷ r) i
        ∙ number_ends (take n ms) o Number.Input rest k x r h refl;
  }
  expr_along {n = n} (fit_constant {x = ds} i) l = record {
    go = λ o t rest x b r h.
        constant_head (take n ms) o (t ∷ rest) (write_hex ds (letter x b ∷ r))
        ∙ constant_along (take n ms) o (t ∷ rest) ds (letter x b ∷ r) i;
  }
  expr_along {n = n} (fit_count {k = k} i) l = record {
    go = λ o t rest x b r h.
        count_head (take n ms) o (t ∷ rest) (write_number k (letter x b ∷ r))
        ∙ number_all (take n ms) o (t ∷ rest) Number.Count k (letter x b ∷ r) i
        ∙ number_ends (take n ms) o Number.Count rest k x r h refl;
  }
  expr_along {n = n} (fit_each {k = k} {e = e} i) l = record {
    go = λ o t rest x b r h.
        each_head (take n ms) o (t ∷ rest) (write_expr ms e (plain 41 ∷ letter x b ∷ r)) k
        ∙ last_operand (expr_along i l) (Step.Each k ∷ o) (t ∷ rest) (letter x b ∷ r);
  }
  expr_along {n = n} (fit_both {k = k} {e = e} {f = f} i j) l = record {
    go = λ o t rest x b r h.
        both_head (take n ms) o (t ∷ rest) (write_expr ms e (plain 44 ∷ plain 32 ∷ write_expr ms f (plain 41 ∷ letter x b ∷ r))) k
        ∙ operand (expr_along i (omega (arith, fits_more j))) 0 (Step.Both k ∷ o) (t ∷ rest) (write_expr ms f (plain 41 ∷ letter x b ∷ r))
        ∙ last_operand (expr_along j l) (emit (read_expr e) (Step.Both k ∷ o)) (t ∷ rest) (letter x b ∷ r);
  }
  expr_along {n = n} (fit_choose {e = e} {f = f} {g = g} i j q) l = record {
    go = λ o t rest x b r h.
        choose_head (take n ms) o (t ∷ rest) (write_expr ms e (plain 44 ∷ plain 32 ∷ write_expr ms f (plain 44 ∷ plain 32 ∷ write_expr ms g (plain 41 ∷ letter x b ∷ r))))
        ∙ operand (expr_along i (omega (arith, fits_more j, fits_more q))) 1 (Step.Choose ∷ o) (t ∷ rest) (write_expr ms f (plain 44 ∷ plain 32 ∷ write_expr ms g (plain 41 ∷ letter x b ∷ r)))
        ∙ operand (expr_along j (omega (arith, fits_more q))) 0 (emit (read_expr e) (Step.Choose ∷ o)) (t ∷ rest) (write_expr ms g (plain 41 ∷ letter x b ∷ r))
        ∙ last_operand (expr_along q l) (emit (read_expr f) (emit (read_expr e) (Step.Choose ∷ o))) (t ∷ rest) (letter x b ∷ r);
  }
  expr_along {n = n} (fit_fold {k = k} {x = v} {e = e} i j) l = record {
    go = λ o t rest x b r h.
        fold_head (take n ms) o (t ∷ rest) _
        ∙ binary_along (take n ms) o (t ∷ rest) _ Along.Fold k
        ∙ along_all Along.Fold k v (take n ms) o (t ∷ rest) (write_expr ms e (plain 41 ∷ letter x b ∷ r)) i
        ∙ last_operand (expr_along j l) (Step.Fold k v ∷ o) (t ∷ rest) (letter x b ∷ r);
  }
  expr_along {n = n} (fit_scan {k = k} {x = v} {e = e} i j) l = record {
    go = λ o t rest x b r h.
        scan_head (take n ms) o (t ∷ rest) _
        ∙ binary_along (take n ms) o (t ∷ rest) _ Along.Scan k
        ∙ along_all Along.Scan k v (take n ms) o (t ∷ rest) (write_expr ms e (plain 41 ∷ letter x b ∷ r)) i
        ∙ last_operand (expr_along j l) (Step.Scan k v ∷ o) (t ∷ rest) (letter x b ∷ r);
  }
  expr_along {n = n} (fit_shape {t = ks} {e = e} i j) l = record {
    go = λ o t rest x b r h.
        shape_head (take n ms) o (t ∷ rest) _
        ∙ items_along (take n ms) (Step.Shape ∷ o) _ (plain 40 ∷ write_expr ms e (plain 41 ∷ letter x b ∷ r)) i
        ∙ byte_along (take n ms) (emit_items ks (Step.Shape ∷ o)) _ (write_expr ms e (plain 41 ∷ letter x b ∷ r))
        ∙ last_operand (expr_along j l) (emit_items ks (Step.Shape ∷ o)) (t ∷ rest) (letter x b ∷ r);
  }
  expr_along {n = n} (fit_turn {os = ks} {e = e} i j) l = record {
    go = λ o t rest x b r h.
        turn_head (take n ms) o (t ∷ rest) _
        ∙ items_along (take n ms) (Step.Turn ∷ o) _ (plain 40 ∷ write_expr ms e (plain 41 ∷ letter x b ∷ r)) i
        ∙ byte_along (take n ms) (emit_items ks (Step.Turn ∷ o)) _ (write_expr ms e (plain 41 ∷ letter x b ∷ r))
        ∙ last_operand (expr_along j l) (emit_items ks (Step.Turn ∷ o)) (t ∷ rest) (letter x b ∷ r);
  }
  expr_along {n = n} (fit_part {ps = ps} {e = e} i j) l = record {
    go = λ o t rest x b r h.
        part_head (take n ms) o (t ∷ rest) _
        ∙ parts_along (take n ms) (Step.Part ∷ o) _ (plain 40 ∷ write_expr ms e (plain 41 ∷ letter x b ∷ r)) i
        ∙ byte_along (take n ms) (emit_parts ps (Step.Part ∷ o)) _ (write_expr ms e (plain 41 ∷ letter x b ∷ r))
        ∙ last_operand (expr_along j l) (emit_parts ps (Step.Part ∷ o)) (t ∷ rest) (letter x b ∷ r);
  }
  expr_along {n = n} (fit_join {x = v} {e = e} {f = f} i j q) l = record {
    go = λ o t rest x b r h.
        join_head (take n ms) o (t ∷ rest) _
        ∙ number_all (take n ms) o (t ∷ rest) Number.Join v _ i
        ∙ join_end (take n ms) o (t ∷ rest) _ v
        ∙ operand (expr_along j (omega (arith, fits_more q))) 0 (Step.Join v ∷ o) (t ∷ rest) (write_expr ms f (plain 41 ∷ letter x b ∷ r))
        ∙ last_operand (expr_along q l) (emit (read_expr e) (Step.Join v ∷ o)) (t ∷ rest) (letter x b ∷ r);
  }
  expr_along {n = n} (fit_rows {e = e} {f = f} i j) l = record {
    go = λ o t rest x b r h.
        rows_head (take n ms) o (t ∷ rest) _
        ∙ operand (expr_along i (omega (arith, fits_more j))) 0 (Step.Rows ∷ o) (t ∷ rest) (write_expr ms f (plain 41 ∷ letter x b ∷ r))
        ∙ last_operand (expr_along j l) (emit (read_expr e) (Step.Rows ∷ o)) (t ∷ rest) (letter x b ∷ r);
  }
