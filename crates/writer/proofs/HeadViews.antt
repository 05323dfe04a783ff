-- The text of an expression and of a line by their first step.
use Rattle.std.proofs.Common.{◌≡◌, ℕ, zero, suc, ◌/◌, ◌%◌, ◌^◌, false, List, [], ◌∷◌, ◌++◌, length, get_or, codes, decimal, sym, refl, ap, ◌∙◌, arith}
use Rattle.std.proofs.lemmas.List.{append_assoc, append-nil}
use Rattle.semantics.specs.Shapes.{pick}
use Rattle.semantics.specs.Parts.{Part}
use Rattle.semantics.specs.Slices.{slice_of}
use Rattle.semantics.specs.Values.{Expr, name, input, constant, count, each, both, choose, fold, scan, shape_to, turn, part, join, rows}
use Rattle.program.specs.declared.step.Step.{Step}
use Rattle.program.specs.declared.step.Step.TheVariants.{Name, Input, Constant, Count, Each, Both, Choose, Fold, Scan, Shape, Turn, Part as Cut, Join, Rows, Slice}
use Rattle.program.specs.Spelling.{items, slices, spell}
use Rattle.program.specs.Standing.{View, is_name, is_input, is_constant, is_count, is_each, is_both, is_choose, is_fold, is_scan, is_shape, is_turn, is_part, is_join, is_rows}
use Rattle.grammar.specs.Letters.{Flag, Letter, plain, begins, bytes, plains, flagged}
use Rattle.grammar.specs.Words.{unary_word, binary_word}
use Rattle.grammar.specs.Written.{hex_byte, write_hex, write_number, write_item, write_more_items, write_items, write_part, write_more_parts, write_parts, write_expr}
use Rattle.writer.specs.Digits.{hex_digit, hex_last, hex16}
use Rattle.writer.specs.Spellings.{spellings}
use Rattle.writer.specs.StepTexts.{step_text, wants, listed, more_text, list_text, behind_list, with_list, behind_closed, head_text, head_behind}
use Rattle.writer.specs.WrittenAs.{digits_last, written_expr}
use Rattle.writer.specs.Writes.{spell_all, gap_onto, exprs_onto, operands}

-- flags do not show
pub bytes_plains : (bs : List ℕ) (r : List Letter) → bytes (plains bs r) ≡ bs ++ bytes r
unfolding bytes plains
bytes_plains [] r = refl
bytes_plains (b ∷ bs) r = ap (λ l. b ∷ l) (bytes_plains bs r)

pub bytes_flagged : (x : Flag) (bs : List ℕ) (r : List Letter) → bytes (flagged x bs r) ≡ bs ++ bytes r
unfolding bytes flagged
bytes_flagged x [] r = refl
bytes_flagged x (b ∷ bs) r = ap (λ l. b ∷ l) (bytes_plains bs r)

pub bytes_number : (k : ℕ) (r : List Letter) → bytes (write_number k r) ≡ decimal k ++ bytes r
unfolding write_number
bytes_number k r = bytes_plains (decimal k) r

-- digits
hex_same : (d : ℕ) → hex_byte d ≡ hex_digit d
unfolding hex_byte
hex_same d = grind arith

pub bytes_hex : (n x : ℕ) (r : List Letter) → bytes (write_hex (digits_last n x) r) ≡ hex_last n x ++ bytes r
unfolding bytes write_hex digits_last hex_last
bytes_hex zero x r = refl
bytes_hex (suc n) x r = ap (λ d. d ∷ bytes (write_hex (digits_last n x) r)) (hex_same (x / 16 ^ n % 16)) ∙ ap (λ l. hex_digit (x / 16 ^ n % 16) ∷ l) (bytes_hex n x r)

-- the first step of an expression does not stand between brackets
record FirstStep (l : List Step) : Type 0 where
  step : Step
  others : List Step
  is : l ≡ step ∷ others
  free : listed step ≡ false

first_step : (e : Expr ℕ) (q : List Step) → FirstStep (spell e q)
unfolding spell
first_step (name k) q = record { step = Name k; others = q; is = refl; free = refl }
first_step (input k) q = record { step = Input k; others = q; is = refl; free = refl }
first_step (constant x) q = record { step = Constant x; others = q; is = refl; free = refl }
first_step (count m) q = record { step = Count m; others = q; is = refl; free = refl }
first_step (each k e) q = record { step = Each k; others = spell e q; is = refl; free = refl }
first_step (both k e f) q = record { step = Both k; others = spell e (spell f q); is = refl; free = refl }
first_step (choose e f g) q = record { step = Choose; others = spell e (spell f (spell g q)); is = refl; free = refl }
first_step (fold k x e) q = record { step = Fold k x; others = spell e q; is = refl; free = refl }
first_step (scan k x e) q = record { step = Scan k x; others = spell e q; is = refl; free = refl }
first_step (shape_to ks e) q = record { step = Shape; others = items ks (spell e q); is = refl; free = refl }
first_step (turn os e) q = record { step = Turn; others = items os (spell e q); is = refl; free = refl }
first_step (part ps e) q = record { step = Cut; others = slices ps (spell e q); is = refl; free = refl }
first_step (join x e f) q = record { step = Join x; others = spell e (spell f q); is = refl; free = refl }
first_step (rows e f) q = record { step = Rows; others = spell e (spell f q); is = refl; free = refl }

no_more : (e : Expr ℕ) (q : List Step) → more_text (spell e q) ≡ []
unfolding more_text
no_more e q =
    let f = first_step e q in ap more_text f.is ∙ ap (λ b. pick b (codes ", " ++ step_text f.step ++ more_text f.others) []) f.free

no_list : (e : Expr ℕ) (q : List Step) → list_text (spell e q) ≡ []
unfolding list_text
no_list e q =
    let f = first_step e q in ap list_text f.is ∙ ap (λ b. pick b (step_text f.step ++ more_text f.others) []) f.free

none_behind : (e : Expr ℕ) (q : List Step) → behind_list (spell e q) ≡ spell e q
unfolding behind_list
none_behind e q =
    let f = first_step e q in
    ap behind_list f.is ∙ (ap (λ b. pick b (behind_list f.others) (f.step ∷ f.others)) f.free ∙ sym f.is)

-- items
module _ (e : Expr ℕ) (q : List Step) where
  more_items : (ks : List ℕ) (r : List Letter) → bytes (write_more_items ks r) ≡ more_text (items ks (spell e q)) ++ bytes r
  unfolding bytes write_more_items write_item items more_text step_text
  more_items [] r = sym (ap (λ l. l ++ bytes r) (no_more e q))
  more_items (k ∷ ks) r =
      ap (λ l. 44 ∷ 32 ∷ l) (bytes_flagged begins (decimal k) (write_more_items ks r) ∙ (ap (λ l. decimal k ++ l) (more_items ks r) ∙ sym (append_assoc (decimal k) (more_text (items ks (spell e q))) (bytes r))))

  pub all_items : (ks : List ℕ) (r : List Letter) → bytes (write_items ks r) ≡ list_text (items ks (spell e q)) ++ bytes r
  unfolding write_items write_item items list_text step_text
  all_items [] r = sym (ap (λ l. l ++ bytes r) (no_list e q))
  all_items (k ∷ ks) r =
      bytes_flagged begins (decimal k) (write_more_items ks r) ∙ (ap (λ l. decimal k ++ l) (more_items ks r) ∙ sym (append_assoc (decimal k) (more_text (items ks (spell e q))) (bytes r)))

  pub behind_items : (ks : List ℕ) → behind_list (items ks (spell e q)) ≡ spell e q
  unfolding items behind_list
  behind_items [] = none_behind e q
  behind_items (k ∷ ks) = behind_items ks

  -- slices
  one_part : (p : Part) (r : List Letter) → bytes (write_part p r) ≡ step_text (Slice (slice_of p)) ++ bytes r
  unfolding bytes write_part step_text
  one_part p r =
      let sign = pick p.backward (codes "-") [] in
      let last = decimal p.many ++ bytes r in
      bytes_flagged begins (decimal p.from) _
      ∙ (ap (λ l. decimal p.from ++ 58 ∷ l) (bytes_plains sign _ ∙ ap (λ l. sign ++ l) (bytes_number p.step _ ∙ ap (λ l. decimal p.step ++ 58 ∷ l) (bytes_number p.many r)))
      ∙ simp (append_assoc, append-nil))

  more_parts : (ps : List Part) (r : List Letter) → bytes (write_more_parts ps r) ≡ more_text (slices ps (spell e q)) ++ bytes r
  unfolding bytes write_more_parts slices more_text
  more_parts [] r = sym (ap (λ l. l ++ bytes r) (no_more e q))
  more_parts (p ∷ ps) r =
      let text = step_text (Slice (slice_of p)) in
      ap (λ l. 44 ∷ 32 ∷ l) (one_part p (write_more_parts ps r) ∙ (ap (λ l. text ++ l) (more_parts ps r) ∙ sym (append_assoc text (more_text (slices ps (spell e q))) (bytes r))))

  pub all_parts : (ps : List Part) (r : List Letter) → bytes (write_parts ps r) ≡ list_text (slices ps (spell e q)) ++ bytes r
  unfolding write_parts slices list_text
  all_parts [] r = sym (ap (λ l. l ++ bytes r) (no_list e q))
  all_parts (p ∷ ps) r =
      let text = step_text (Slice (slice_of p)) in
      one_part p (write_more_parts ps r) ∙ (ap (λ l. text ++ l) (more_parts ps r) ∙ sym (append_assoc text (more_text (slices ps (spell e q))) (bytes r)))

  pub behind_parts : (ps : List Part) → behind_list (slices ps (spell e q)) ≡ spell e q
  unfolding slices behind_list
  behind_parts [] = none_behind e q
  behind_parts (p ∷ ps) = behind_parts ps

-- an expression by its first step: the step with its brackets, then its operands
pub record HeadView (r t : List Step) (e : Expr ℕ) (s : Step) : Type 0 where
  pub text : (q : List Letter) → bytes (write_expr spellings (written_expr e) q) ≡ head_text s t ++ bytes (exprs_onto (operands e) 41 q)
  pub on : head_behind s t ≡ spell_all (operands e) r
  pub many : length (operands e) ≡ wants s

worded : (w : List ℕ) (r : List Letter) → bytes (flagged begins w (plain 40 ∷ r)) ≡ w ++ codes "(" ++ bytes r
unfolding bytes
worded w r = bytes_flagged begins w (plain 40 ∷ r) ∙ sym (append_assoc w (codes "(") (bytes r))

numbered : (w : List ℕ) (k : ℕ) (after : List ℕ) (r q : List Letter) → bytes r ≡ after ++ bytes q → bytes (flagged begins w (write_number k r)) ≡ w ++ decimal k ++ after ++ bytes q
numbered w k after r q h =
    bytes_flagged begins w (write_number k r) ∙ (ap (λ l. w ++ l) (bytes_number k r ∙ ap (λ l. decimal k ++ l) h) ∙ simp append_assoc)

along : (w u : List ℕ) (x : ℕ) (r : List Letter) → bytes (flagged begins w (plains u (plain 32 ∷ write_number x (plain 40 ∷ r)))) ≡ w ++ u ++ (codes " " ++ decimal x ++ codes "(") ++ bytes r
unfolding bytes
along w u x r =
    bytes_flagged begins w _
    ∙ (ap (λ l. w ++ l) (bytes_plains u _ ∙ ap (λ l. u ++ 32 ∷ l) (bytes_number x (plain 40 ∷ r))) ∙ simp append_assoc)

bracketed : (w : List ℕ) (list : List ℕ) (r : List Letter) (m : List Letter → List Letter) → ((q : List Letter) → bytes (m q) ≡ list ++ bytes q) → bytes (flagged begins w (m (plain 93 ∷ plain 40 ∷ r))) ≡ w ++ list ++ codes "](" ++ bytes r
unfolding bytes
bracketed w list r m h =
    bytes_flagged begins w _ ∙ (ap (λ l. w ++ l) (h (plain 93 ∷ plain 40 ∷ r)) ∙ simp append_assoc)

pub head_view : {r t : List Step} {e : Expr ℕ} {s : Step} → View r t e s → HeadView r t e s
unfolding bytes write_expr written_expr head_text head_behind with_list behind_closed step_text spell_all exprs_onto gap_onto operands hex16 flagged plains
head_view (is_name {k} h) = record { text = λ q. bytes_flagged begins (get_or spellings k []) q; on = h; many = refl }
head_view (is_input {k} h) = record { text = λ q. numbered (codes "in ") k [] q q refl; on = h; many = refl }
head_view (is_constant {x} h) = record { text = λ q. ap (λ l. 35 ∷ l) (bytes_hex 16 x q); on = h; many = refl }
head_view (is_count {m} h) = record { text = λ q. numbered (codes "count ") m [] q q refl; on = h; many = refl }
head_view (is_each {k} {e} h) = record { text = λ q. worded (unary_word k) _; on = h; many = refl }
head_view (is_both {k} {e} {f} h) = record { text = λ q. worded (binary_word k) _; on = h; many = refl }
head_view (is_choose {e} {f} {g} h) = record { text = λ q. refl; on = h; many = refl }
head_view (is_fold {k} {x} {e} h) = record { text = λ q. along (codes "fold ") (binary_word k) x _; on = h; many = refl }
head_view (is_scan {k} {x} {e} h) = record { text = λ q. along (codes "scan ") (binary_word k) x _; on = h; many = refl }
head_view {r} (is_shape {ks} {e} h) = record { text = λ q. bracketed (codes "shape [") _ _ (write_items ks) (λ a. all_items e r ks a ∙ ap (λ l. list_text l ++ bytes a) (sym h)); on = ap behind_list h ∙ behind_items e r ks; many = refl }
head_view {r} (is_turn {os} {e} h) = record { text = λ q. bracketed (codes "turn [") _ _ (write_items os) (λ a. all_items e r os a ∙ ap (λ l. list_text l ++ bytes a) (sym h)); on = ap behind_list h ∙ behind_items e r os; many = refl }
head_view {r} (is_part {ps} {e} h) = record { text = λ q. bracketed (codes "part [") _ _ (write_parts ps) (λ a. all_parts e r ps a ∙ ap (λ l. list_text l ++ bytes a) (sym h)); on = ap behind_list h ∙ behind_parts e r ps; many = refl }
head_view (is_join {x} {e} {f} h) = record { text = λ q. numbered (codes "join ") x (codes "(") (plain 40 ∷ _) _ refl; on = h; many = refl }
head_view (is_rows {e} {f} h) = record { text = λ q. refl; on = h; many = refl }
