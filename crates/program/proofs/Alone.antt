-- Steps are one expression and one program at most.
use Rattle.std.proofs.Common.{◌≡◌, ℕ, List, [], ◌∷◌, sym, refl, ap, ◌∙◌, ap₂}
use Rattle.semantics.specs.declared.operation.Unary.{Unary}
use Rattle.semantics.specs.declared.operation.Binary.{Binary}
use Rattle.semantics.specs.Parts.{Part}
use Rattle.semantics.specs.Values.{Expr, name, input, constant, count, each, both, choose, fold, scan, shape_to, turn, part, join, rows}
use Rattle.semantics.specs.Programs.{Program, end, be, put, show, again}
use Rattle.program.specs.declared.step.Step.{Step}
use Rattle.program.specs.declared.step.Step.TheVariants.{End, Let, Put, Show, Again, Name, Input, Constant, Count, Each, Both, Choose, Fold, Scan, Shape, Turn, Part as Cut, Join, Rows, Item}
use Rattle.program.specs.Spelling.{items, slices, spell, spell_program}
use Rattle.program.specs.Standing.{Closed, nothing, closed, View, is_name, is_input, is_constant, is_count, is_each, is_both, is_choose, is_fold, is_scan, is_shape, is_turn, is_part, is_join, is_rows, LinesView, is_end, is_let, is_put, is_show, is_again}
use Rattle.program.proofs.Views.{cons_first, cons_rest, same_part, view_spell, view_lines, view_no_lines, opens}

pub same_items : (ks ls : List ℕ) (e f : Expr ℕ) (r q : List Step) → items ks (spell e r) ≡ items ls (spell f q) → (ks ≡ ls) × (spell e r ≡ spell f q)
unfolding items
same_items [] [] e f r q h = (refl, h)
same_items [] (l ∷ ls) e f r q h = absurd (opens (view_spell e r _ _ h))
same_items (k ∷ ks) [] e f r q h = absurd (opens (view_spell f q _ _ (sym h)))
same_items (k ∷ ks) (l ∷ ls) e f r q h =
    let first : Item k ≡ Item l = cons_first h in
    let number : k ≡ l = cc in
    let others = same_items ks ls e f r q (cons_rest h) in
    let these = others.0 in (cc, others.1)

pub same_slices : (ps qs : List Part) (e f : Expr ℕ) (r q : List Step) → slices ps (spell e r) ≡ slices qs (spell f q) → (ps ≡ qs) × (spell e r ≡ spell f q)
unfolding slices
same_slices [] [] e f r q h = (refl, h)
same_slices [] (l ∷ ls) e f r q h = absurd (opens (view_spell e r _ _ h))
same_slices (k ∷ ks) [] e f r q h = absurd (opens (view_spell f q _ _ (sym h)))
same_slices (k ∷ ks) (l ∷ ls) e f r q h =
    let first : k ≡ l = same_part k l (cons_first h) in
    let others = same_slices ks ls e f r q (cons_rest h) in
    let these = others.0 in (cc, others.1)

-- expressions: one recursion, with a lemma for each number of operands
abbrev Once : Expr ℕ → Type 0
Once e = (f : Expr ℕ) (r q : List Step) → spell e r ≡ spell f q → (e ≡ f) × (r ≡ q)

same_choose : {a b c d e f : Expr ℕ} → a ≡ d → b ≡ e → c ≡ f → choose a b c ≡ choose d e f
same_choose {c = c} {d} {e} p q r = ap₂ (λ x y. choose x y c) p q ∙ ap (choose d e) r

module _ {q t : List Step} (r : List Step) where
  once_name : {f : Expr ℕ} {k : ℕ} → t ≡ r → View q t f (Name k) → (name k ≡ f) × (r ≡ q)
  once_name h (is_name e) = (refl, sym h ∙ e)

  once_input : {f : Expr ℕ} {k : ℕ} → t ≡ r → View q t f (Input k) → (input k ≡ f) × (r ≡ q)
  once_input h (is_input e) = (refl, sym h ∙ e)

  once_constant : {f : Expr ℕ} {x : ℕ} → t ≡ r → View q t f (Constant x) → (constant x ≡ f) × (r ≡ q)
  once_constant h (is_constant e) = (refl, sym h ∙ e)

  once_count : {f : Expr ℕ} {m : ℕ} → t ≡ r → View q t f (Count m) → (count m ≡ f) × (r ≡ q)
  once_count h (is_count e) = (refl, sym h ∙ e)

  once_each : {f : Expr ℕ} {k : Unary} (a : Expr ℕ) → Once a → t ≡ spell a r → View q t f (Each k) → (each k a ≡ f) × (r ≡ q)
  once_each {k} a once h (is_each e) = let same = once _ _ _ (sym h ∙ e) in (ap (each k) same.0, same.1)

  once_fold : {f : Expr ℕ} {k : Binary} {x : ℕ} (a : Expr ℕ) → Once a → t ≡ spell a r → View q t f (Fold k x) → (fold k x a ≡ f) × (r ≡ q)
  once_fold {k} {x} a once h (is_fold e) = let same = once _ _ _ (sym h ∙ e) in (ap (fold k x) same.0, same.1)

  once_scan : {f : Expr ℕ} {k : Binary} {x : ℕ} (a : Expr ℕ) → Once a → t ≡ spell a r → View q t f (Scan k x) → (scan k x a ≡ f) × (r ≡ q)
  once_scan {k} {x} a once h (is_scan e) = let same = once _ _ _ (sym h ∙ e) in (ap (scan k x) same.0, same.1)

  once_both : {f : Expr ℕ} {k : Binary} (a b : Expr ℕ) → Once a → Once b → t ≡ spell a (spell b r) → View q t f (Both k) → (both k a b ≡ f) × (r ≡ q)
  once_both {k} a b one two h (is_both e) =
      let first = one _ _ _ (sym h ∙ e) in
      let second = two _ _ _ first.1 in (ap₂ (both k) first.0 second.0, second.1)

  once_join : {f : Expr ℕ} {k : ℕ} (a b : Expr ℕ) → Once a → Once b → t ≡ spell a (spell b r) → View q t f (Join k) → (join k a b ≡ f) × (r ≡ q)
  once_join {k} a b one two h (is_join e) =
      let first = one _ _ _ (sym h ∙ e) in
      let second = two _ _ _ first.1 in (ap₂ (join k) first.0 second.0, second.1)

  once_rows : {f : Expr ℕ} (a b : Expr ℕ) → Once a → Once b → t ≡ spell a (spell b r) → View q t f Rows → (rows a b ≡ f) × (r ≡ q)
  once_rows a b one two h (is_rows e) =
      let first = one _ _ _ (sym h ∙ e) in
      let second = two _ _ _ first.1 in (ap₂ rows first.0 second.0, second.1)

  once_choose : {f : Expr ℕ} (a b c : Expr ℕ) → Once a → Once b → Once c → t ≡ spell a (spell b (spell c r)) → View q t f Choose → (choose a b c ≡ f) × (r ≡ q)
  once_choose a b c one two three h (is_choose e) =
      let first = one _ _ _ (sym h ∙ e) in
      let second = two _ _ _ first.1 in
      let third = three _ _ _ second.1 in
      (same_choose first.0 second.0 third.0, third.1)

  once_shape : {f : Expr ℕ} (ks : List ℕ) (a : Expr ℕ) → Once a → t ≡ items ks (spell a r) → View q t f Shape → (shape_to ks a ≡ f) × (r ≡ q)
  once_shape ks a once h (is_shape e) =
      let list = same_items ks _ a _ r q (sym h ∙ e) in
      let same = once _ _ _ list.1 in (ap₂ shape_to list.0 same.0, same.1)

  once_turn : {f : Expr ℕ} (ks : List ℕ) (a : Expr ℕ) → Once a → t ≡ items ks (spell a r) → View q t f Turn → (turn ks a ≡ f) × (r ≡ q)
  once_turn ks a once h (is_turn e) =
      let list = same_items ks _ a _ r q (sym h ∙ e) in
      let same = once _ _ _ list.1 in (ap₂ turn list.0 same.0, same.1)

  once_part : {f : Expr ℕ} (ps : List Part) (a : Expr ℕ) → Once a → t ≡ slices ps (spell a r) → View q t f Cut → (part ps a ≡ f) × (r ≡ q)
  once_part ps a once h (is_part e) =
      let list = same_slices ps _ a _ r q (sym h ∙ e) in
      let same = once _ _ _ list.1 in (ap₂ part list.0 same.0, same.1)

pub same_spell : (e f : Expr ℕ) (r q : List Step) → spell e r ≡ spell f q → (e ≡ f) × (r ≡ q)
unfolding spell
same_spell (name k) f r q h = once_name r refl (view_spell f q _ _ (sym h))
same_spell (input k) f r q h = once_input r refl (view_spell f q _ _ (sym h))
same_spell (constant x) f r q h = once_constant r refl (view_spell f q _ _ (sym h))
same_spell (count m) f r q h = once_count r refl (view_spell f q _ _ (sym h))
same_spell (each k a) f r q h = once_each r a (same_spell a) refl (view_spell f q _ _ (sym h))
same_spell (both k a b) f r q h = once_both r a b (same_spell a) (same_spell b) refl (view_spell f q _ _ (sym h))
same_spell (choose a b c) f r q h = once_choose r a b c (same_spell a) (same_spell b) (same_spell c) refl (view_spell f q _ _ (sym h))
same_spell (fold k x a) f r q h = once_fold r a (same_spell a) refl (view_spell f q _ _ (sym h))
same_spell (scan k x a) f r q h = once_scan r a (same_spell a) refl (view_spell f q _ _ (sym h))
same_spell (shape_to ks a) f r q h = once_shape r ks a (same_spell a) refl (view_spell f q _ _ (sym h))
same_spell (turn ks a) f r q h = once_turn r ks a (same_spell a) refl (view_spell f q _ _ (sym h))
same_spell (part ps a) f r q h = once_part r ps a (same_spell a) refl (view_spell f q _ _ (sym h))
same_spell (join x a b) f r q h = once_join r a b (same_spell a) (same_spell b) refl (view_spell f q _ _ (sym h))
same_spell (rows a b) f r q h = once_rows r a b (same_spell a) (same_spell b) refl (view_spell f q _ _ (sym h))

-- lines: what is behind them is closed
abbrev OnceLines : Program ℕ → Type 0
OnceLines p = (q : Program ℕ) (r t : List Step) → Closed r → Closed t → spell_program p r ≡ spell_program q t → (p ≡ q) × (r ≡ t)

once_end : {r t : List Step} → Closed r → Closed t → (q : Program ℕ) → r ≡ spell_program q t → (end ≡ q) × (r ≡ t)
once_end nothing c q h = let same = view_no_lines q _ (sym h) in (sym same.0, sym same.1)
once_end closed c q h = go (view_lines q _ End _ c (sym h))
  where
    go : {r t : List Step} {q : Program ℕ} → LinesView t r q End → (end ≡ q) × (End ∷ r ≡ t)
    go (is_end e) = (refl, sym e)

module _ {t u : List Step} (r : List Step) (close : Closed r) (close_other : Closed t) where
  once_let : {q : Program ℕ} {k : ℕ} (e : Expr ℕ) (p : Program ℕ) → OnceLines p → u ≡ spell e (spell_program p r) → LinesView t u q (Let k) → (be k e p ≡ q) × (r ≡ t)
  once_let {k = k} e p once h (is_let d) =
      let first = same_spell e _ _ _ (sym h ∙ d) in
      let others = once _ _ _ close close_other first.1 in (ap₂ (be k) first.0 others.0, others.1)

  once_show : {q : Program ℕ} (e : Expr ℕ) (p : Program ℕ) → OnceLines p → u ≡ spell e (spell_program p r) → LinesView t u q Show → (show e p ≡ q) × (r ≡ t)
  once_show e p once h (is_show d) =
      let first = same_spell e _ _ _ (sym h ∙ d) in
      let others = once _ _ _ close close_other first.1 in (ap₂ show first.0 others.0, others.1)

  once_put : {q : Program ℕ} {k : ℕ} (ps : List Part) (e : Expr ℕ) (p : Program ℕ) → OnceLines p → u ≡ slices ps (spell e (spell_program p r)) → LinesView t u q (Put k) → (put k ps e p ≡ q) × (r ≡ t)
  once_put {k = k} ps e p once h (is_put d) =
      let list = same_slices ps _ e _ _ _ (sym h ∙ d) in
      let first = same_spell e _ _ _ list.1 in
      let others = once _ _ _ close close_other first.1 in (same_put k list.0 first.0 others.0, others.1)
    where
      same_put : (k : ℕ) {a b : List Part} {c d : Expr ℕ} {f g : Program ℕ} → a ≡ b → c ≡ d → f ≡ g → put k a c f ≡ put k b d g
      same_put k {b = b} {d = d} {f = f} x y z = ap₂ (λ v w. put k v w f) x y ∙ ap (put k b d) z

  once_again : {q : Program ℕ} {n : ℕ} (b p : Program ℕ) → OnceLines b → OnceLines p → u ≡ spell_program b (End ∷ spell_program p r) → LinesView t u q (Again n) → (again n b p ≡ q) × (r ≡ t)
  once_again {n = n} b p once-b once-p h (is_again d) =
      let body = once-b _ _ _ closed closed (sym h ∙ d) in
      let others = once-p _ _ _ close close_other (cons_rest body.1) in (ap₂ (again n) body.0 others.0, others.1)

pub same_lines : (p q : Program ℕ) (r t : List Step) → Closed r → Closed t → spell_program p r ≡ spell_program q t → (p ≡ q) × (r ≡ t)
unfolding spell_program
same_lines end q r t c d h = once_end c d q h
same_lines (be k e p) q r t c d h = once_let r c d e p (same_lines p) refl (view_lines q t _ _ d (sym h))
same_lines (put k ps e p) q r t c d h = once_put r c d ps e p (same_lines p) refl (view_lines q t _ _ d (sym h))
same_lines (show e p) q r t c d h = once_show r c d e p (same_lines p) refl (view_lines q t _ _ d (sym h))
same_lines (again n b p) q r t c d h = once_again r c d b p (same_lines b) (same_lines p) refl (view_lines q t _ _ d (sym h))
