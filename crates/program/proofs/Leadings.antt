-- The items and slices that steps begin with are those that stand there.
use Rattle.std.proofs.Common.{◌≡◌, ℕ, zero, suc, ◌+◌, ◌<◌, ◌≤◌, Bool, cond, List, [], ◌∷◌, length, get_or, Some, None, Option, MatchOption, sym, refl, ap, ◌∙◌, arith}
use Rattle.std.proofs.lemmas.Iterator.{YieldsList}
use Rattle.std.proofs.lemmas.Iterator.Consumers.{YieldsList-from_shown}
use Rattle.std.specs.Option.{is_some}
use Rattle.std.specs.List.{prefix_len}
use Rattle.std.proofs.lemmas.List.{get_or-drop}
use Rattle.semantics.specs.Parts.{Part}
use Rattle.semantics.specs.Values.{Expr, name, input, constant, count, each, both, choose, fold, scan, shape_to, turn, part, join, rows}
use Rattle.semantics.specs.Slices.{slice_of}
use Rattle.semantics.specs.declared.slice.Slice.{Slice as Sliced}
use Rattle.program.specs.declared.step.Step.{Step}
use Rattle.program.specs.declared.step.Step.TheVariants.{End, Let, Put, Show, Again, Name, Input, Constant, Count, Each, Both, Choose, Fold, Scan, Shape, Turn, Part as Cut, Join, Rows, Item, Slice}
use Rattle.program.specs.Spelling.{items, slices, spell}
use Rattle.program.specs.Words.{steps_in, At}
use Rattle.program.specs.Standing.{steps_from, Stands, ItemsStand, SlicesStand, SkipsSlices}
use Rattle.program.specs.Leading.{item_in, slice_in, one_more, leading, items_at, slices_at}
use Rattle.program.specs.declared.steps.Steps.{Steps}
use Rattle.program.specs.Steps.{steps_left, Gives}
use Rattle.program.proofs.Nodes.{length_from, from_at, items_next, slices_next}

from_get_d : (ws : List ℕ) (i n : ℕ) → get_or (steps_from ws i) n End ≡ get_or (steps_in ws) (i + n) End
unfolding steps_from
from_get_d ws i n = get_or-drop i (steps_in ws) n End

module _ {A : Type 0} (f : Step → Option A) (d : A) where
  -- the step at a place among them gives what stands there
  abbrev There : List Step → Type 0
  There l = (n : ℕ) → n < length (leading f l) → (n < length l) × (f (get_or l n End) ≡ Some (get_or (leading f l) n d))

  there_first : (s : Step) (t : List Step) → There t → (o : Option A) → f s ≡ o → (n : ℕ) → n < length (one_more o (leading f t)) → (n < length (s ∷ t)) × (f (get_or (s ∷ t) n End) ≡ Some (get_or (one_more o (leading f t)) n d))
  unfolding one_more
  there_first s t ih None e n h = absurd (omega arith)
  there_first s t ih (Some a) e zero h = (omega arith, e)
  there_first s t ih (Some a) e (suc n) h = let more = ih n (omega arith) in (omega arith, more.1)

  leading_there : (l : List Step) → There l
  unfolding leading
  leading_there [] n h = absurd (omega arith)
  leading_there (s ∷ t) n h = there_first s t (leading_there t) (f s) refl n h

  -- the same at a node i
  module _ (ws : List ℕ) (i : ℕ) where
    pub read_there : (n : ℕ) → n < length (leading f (steps_from ws i)) → i + n < length (steps_in ws)
    read_there n h = omega (arith, (leading_there (steps_from ws i) n h).0, length_from ws i)

    pub read_is : (n : ℕ) (x : Step) → n < length (leading f (steps_from ws i)) → At ws (i + n) x → f x ≡ Some (get_or (leading f (steps_from ws i)) n d)
    read_is n x h at = ap f (at.is ∙ sym (from_get_d ws i n)) ∙ (leading_there (steps_from ws i) n h).1

-- what is an item, what is a slice
pub item_in_item : (x : Step) (k : ℕ) → x ≡ Item k → item_in x ≡ Some k
unfolding item_in
item_in_item x k e = ap item_in e

pub slice_in_slice : (x : Step) (p : Part) → x ≡ Slice (slice_of p) → slice_in x ≡ Some p
unfolding slice_in
slice_in_slice x p e = ap slice_in e

pub item_in_other : (x : Step) → ((k : ℕ) → x ≡ Item k → ⊥) → item_in x ≡ None
unfolding item_in
item_in_other End no_item = refl
item_in_other (Let k) no_item = refl
item_in_other (Put k) no_item = refl
item_in_other Show no_item = refl
item_in_other (Again n) no_item = refl
item_in_other (Name k) no_item = refl
item_in_other (Input k) no_item = refl
item_in_other (Constant x) no_item = refl
item_in_other (Count m) no_item = refl
item_in_other (Each k) no_item = refl
item_in_other (Both k) no_item = refl
item_in_other Choose no_item = refl
item_in_other (Fold k x) no_item = refl
item_in_other (Scan k x) no_item = refl
item_in_other Shape no_item = refl
item_in_other Turn no_item = refl
item_in_other Cut no_item = refl
item_in_other (Join x) no_item = refl
item_in_other Rows no_item = refl
item_in_other (Item k) no_item = absurd (no_item k refl)
item_in_other (Slice s) no_item = refl

pub slice_in_other : (x : Step) → ((s : Sliced) → x ≡ Slice s → ⊥) → slice_in x ≡ None
unfolding slice_in
slice_in_other End no_slice = refl
slice_in_other (Let k) no_slice = refl
slice_in_other (Put k) no_slice = refl
slice_in_other Show no_slice = refl
slice_in_other (Again n) no_slice = refl
slice_in_other (Name k) no_slice = refl
slice_in_other (Input k) no_slice = refl
slice_in_other (Constant x) no_slice = refl
slice_in_other (Count m) no_slice = refl
slice_in_other (Each k) no_slice = refl
slice_in_other (Both k) no_slice = refl
slice_in_other Choose no_slice = refl
slice_in_other (Fold k x) no_slice = refl
slice_in_other (Scan k x) no_slice = refl
slice_in_other Shape no_slice = refl
slice_in_other Turn no_slice = refl
slice_in_other Cut no_slice = refl
slice_in_other (Join x) no_slice = refl
slice_in_other Rows no_slice = refl
slice_in_other (Item k) no_slice = refl
slice_in_other (Slice s) no_slice = absurd (no_slice s refl)

no_items_first : (e : Expr ℕ) (r : List Step) → leading item_in (spell e r) ≡ []
unfolding leading item_in spell
no_items_first (name k) r = refl
no_items_first (input k) r = refl
no_items_first (constant x) r = refl
no_items_first (count m) r = refl
no_items_first (each k e) r = refl
no_items_first (both k e f) r = refl
no_items_first (choose e f g) r = refl
no_items_first (fold k x e) r = refl
no_items_first (scan k x e) r = refl
no_items_first (shape_to t e) r = refl
no_items_first (turn os e) r = refl
no_items_first (part ps e) r = refl
no_items_first (join x e f) r = refl
no_items_first (rows e f) r = refl

no_slices_first : (e : Expr ℕ) (r : List Step) → leading slice_in (spell e r) ≡ []
unfolding leading slice_in spell
no_slices_first (name k) r = refl
no_slices_first (input k) r = refl
no_slices_first (constant x) r = refl
no_slices_first (count m) r = refl
no_slices_first (each k e) r = refl
no_slices_first (both k e f) r = refl
no_slices_first (choose e f g) r = refl
no_slices_first (fold k x e) r = refl
no_slices_first (scan k x e) r = refl
no_slices_first (shape_to t e) r = refl
no_slices_first (turn os e) r = refl
no_slices_first (part ps e) r = refl
no_slices_first (join x e f) r = refl
no_slices_first (rows e f) r = refl

pub leading_items : (ks : List ℕ) (e : Expr ℕ) (r : List Step) → leading item_in (items ks (spell e r)) ≡ ks
unfolding leading item_in items
leading_items [] e r = no_items_first e r
leading_items (k ∷ ks) e r = ap (λ l. k ∷ l) (leading_items ks e r)

pub leading_slices : (ps : List Part) (e : Expr ℕ) (r : List Step) → leading slice_in (slices ps (spell e r)) ≡ ps
unfolding leading slice_in slices
leading_slices [] e r = no_slices_first e r
leading_slices (p ∷ ps) e r = ap (λ l. p ∷ l) (leading_slices ps e r)

-- where a list of items or slices stands, it is the one that is read, and its operand stands behind it
pub items_are : (ws : List ℕ) (i : ℕ) (ks : List ℕ) (e : Expr ℕ) (r : List Step) → steps_from ws i ≡ items ks (spell e r) → items_at ws i ≡ ks
unfolding items_at
items_are ws i ks e r h = ap (leading item_in) h ∙ leading_items ks e r

pub slices_are : (ws : List ℕ) (i : ℕ) (ps : List Part) (e : Expr ℕ) (r : List Step) → steps_from ws i ≡ slices ps (spell e r) → slices_at ws i ≡ ps
unfolding slices_at
slices_are ws i ps e r h = ap (leading slice_in) h ∙ leading_slices ps e r

pub items_behind : (ws : List ℕ) (i : ℕ) (ks : List ℕ) (e : Expr ℕ) (r : List Step) → steps_from ws i ≡ items ks (spell e r) → steps_from ws (i + length (items_at ws i)) ≡ spell e r
items_behind ws i ks e r h = ap (λ l. steps_from ws (i + length l)) (items_are ws i ks e r h) ∙ items_next ws i ks (spell e r) h

pub slices_behind : (ws : List ℕ) (i : ℕ) (ps : List Part) (e : Expr ℕ) (r : List Step) → steps_from ws i ≡ slices ps (spell e r) → steps_from ws (i + length (slices_at ws i)) ≡ spell e r
slices_behind ws i ps e r h = ap (λ l. steps_from ws (i + length l)) (slices_are ws i ps e r h) ∙ slices_next ws i ps (spell e r) h

pub items_stand_operand : (ws : List ℕ) (i : ℕ) → ItemsStand ws i → Stands ws (i + length (items_at ws i))
items_stand_operand ws i st = record { expr = st.expr; rest = st.rest; enc = items_behind ws i st.list st.expr st.rest st.enc }

pub slices_stand_operand : (ws : List ℕ) (i : ℕ) → SlicesStand ws i → Stands ws (i + length (slices_at ws i))
slices_stand_operand ws i st =
    record { expr = st.expr; rest = st.rest; enc = slices_behind ws i st.parts st.expr st.rest st.enc }

pub slices_skipped : (ws : List ℕ) (i : ℕ) → SkipsSlices ws i (i + length (slices_at ws i))
slices_skipped ws i = record { on = λ ps e r h. slices_behind ws i ps e r h }

-- how many of the first steps give something
prefix_first : {A : Type 0} (o : Option A) (n : ℕ) (l : List A) → n ≡ length l → cond (is_some o) (1 + n) 0 ≡ length (one_more o l)
unfolding one_more
prefix_first None n l e = refl
prefix_first (Some a) n l e = omega arith

pub prefix_leading : {A : Type 0} (f : Step → Option A) (l : List Step) → prefix_len (λ s. is_some (f s)) l ≡ length (leading f l)
unfolding leading
prefix_leading f [] = refl
prefix_leading f (s ∷ t) = prefix_first (f s) (prefix_len (λ x. is_some (f x)) t) (leading f t) (prefix_leading f t)

-- what is read of the step at a place among them
pub read_some : {A : Type 0} (f : Step → Option A) (d : A) (ws : List ℕ) (i n : ℕ) → n < length (leading f (steps_from ws i)) → (o : Option Step) → MatchOption o (length (steps_in ws) ≤ i + n) (λ x. At ws (i + n) x) → (r : Option A) → MatchOption o (r ≡ None) (λ x. r ≡ f x) → r ≡ Some (get_or (leading f (steps_from ws i)) n d)
read_some f d ws i n h None past r e = absurd (omega (arith, read_there f d ws i n h))
read_some f d ws i n h (Some x) at r e = e ∙ read_is f d ws i n x h at

-- what the steps that are left give, one after another
pub steps_yield : (s : Steps) (l : List Step) → steps_left s ≡ l → YieldsList Gives (λ x. x) s l
steps_yield s l e =
    rw (← e)
    (YieldsList-from_shown Gives (λ x. x) steps_left
    (λ s t g. omega (arith, length_from s.words.now s.node, g.0))
    (λ s x t g. from_at s.words.now s.node x g.0 ∙ ap (λ l. x ∷ l) (ap (λ w. steps_from w.now (s.node + 1)) (sym g.1) ∙ ap (λ n. steps_from t.words.now n) (sym g.2)))
    s)
