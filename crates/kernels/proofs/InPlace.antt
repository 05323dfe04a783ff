-- Operands that are read where they lie.
use Rattle.std.proofs.Common.{◌≡◌, ℕ, ◌+◌, ◌-◌, ◌*◌, ◌/◌, ◌%◌, ◌^◌, ◌<◌, ◌≤◌, List, [], ◌∷◌, ◌++◌, length, get_or, take, drop, pos, sym, refl, ap, ◌∙◌, subst, mod-eq_of_lt, mul-one, arith, get_or-take, Option, Some, None}
use lib.Ieee.{Float}
use Rattle.std.proofs.lemmas.List.{length-take-le, take_more}
use Rattle.semantics.specs.declared.operation.Binary.{Binary}
use Rattle.semantics.specs.Shapes.{size, unflat}
use Rattle.semantics.specs.Arrays.{Array}
use Rattle.semantics.specs.Values.{Expr, some}
use Rattle.semantics.specs.Broadcast.{narrow}
use Rattle.encoding.specs.declared.shape.Shape.{Shape}
use Rattle.encoding.specs.ShapeOf.{shape_of}
use Rattle.encoding.specs.Words.{word8}
use Rattle.encoding.specs.Format.{inputs_of}
use Rattle.numbers.specs.Plain.{NoNan}
use Rattle.numbers.specs.Standing.{StandsFor}
use Rattle.program.specs.declared.step.Step.{Step}
use Rattle.program.specs.declared.step.Step.TheVariants.{Name, Both}
use Rattle.program.specs.Words.{At}
use Rattle.program.specs.Spelling.{spell}
use Rattle.program.specs.Standing.{steps_from, Skips, View as Step-view, is_name, is_both}
use Rattle.program.proofs.Nodes.{expr_view}
use Rattle.views.specs.declared.view.Source.TheVariants.{Area, Input}
use Rattle.views.specs.declared.view.View.{View}
use Rattle.views.specs.Views.{Holds}
use Rattle.views.specs.Copying.{Walk}
use Rattle.views.proofs.Copies.{run_ends}
use Rattle.kernels.specs.declared.operand.Operand.{Operand}
use Rattle.kernels.specs.declared.operand.Operand.TheVariants.{Own, Words, Bytes}
use Rattle.kernels.specs.Blocks.{at}
use Rattle.kernels.specs.Reading.{along}
use Rattle.kernels.specs.Trees.{tree, cell_number, Leaves}
use Rattle.kernels.specs.Filling.{Ready, Filled, Able}
use Rattle.kernels.specs.Operands.{Gives, Combined, Lined, ViewRun, FoundRun, GivesTree}
use Rattle.kernels.proofs.Turns.{length_part}
use Rattle.kernels.proofs.Readings.{part_word, along_run, along_bytes, bytes_end, packed_row, packed_short, row_walk, row_seen}
use Rattle.kernels.proofs.Feeding.{own_number, slot_cell, narrow_front}
use Rattle.kernels.proofs.Numbering.{unflat_last, unflat_row, last_axis}
use Rattle.kernels.proofs.Growing.{AbleBehind, skips_name}

module _ {area bs : List ℕ} {v : View} {first many : ℕ} (d : Lined area bs v first many) where
  below : first < size (shape_of v.shape)
  below = omega (arith, d.within, d.any)

  few : many ≤ size (shape_of v.shape) - first
  few = omega (arith, d.within)

  walk : Walk v.source area bs (many ∷ []) (pos 1 ∷ []) (v.start + first)
  walk = row_walk v first _ many d.good d.there (packed_row v first d.packed below) few

  pub lined_short : v.start + first < 2 ^ 62
  lined_short = packed_short v first d.good d.packed below

  pub words_end : v.source ≡ Area → v.start + first + many ≤ length area
  words_end is = run_ends (subst (λ o. Walk o area bs (many ∷ []) (pos 1 ∷ []) (v.start + first)) is walk) refl d.any

  pub run_bytes_end : {b : ℕ} → v.source ≡ Input b → b + 8 * (v.start + first) + 8 * many ≤ length bs
  run_bytes_end is = bytes_end is walk refl d.any

  seen_there : {a : Array ℕ} → Holds area bs v a → (k : ℕ) → k < many → along v.source area bs (v.start + first) (pos 1) k ≡ cell_number (some a) (unflat (shape_of v.shape) (first + k))
  seen_there h k l = row_seen area bs v first _ k (packed_row v first d.packed below) (omega (arith, few)) ∙ own_number (first + k) h refl (omega (arith, d.within))

  pub words_run : v.source ≡ Area → ((k : ℕ) → k < length (take (v.start + first + many - (v.start + first)) (drop (v.start + first) area)) → NoNan (get_or (take (v.start + first + many - (v.start + first)) (drop (v.start + first) area)) k 0)) →
      ViewRun area bs v (shape_of v.shape) first many (Words (v.start + first))
  words_run is plain =
      let long = length_part 0 (v.start + first) many area (words_end is) in
      record {
        readable = λ _ k l. (omega (arith, words_end is), subst NoNan (part_word area (v.start + first) many k l) (plain k (omega arith)));
        gives = λ _ a h k l x. along_run area bs (v.start + first) (pos 1) k refl ∙ (ap (λ o. along o area bs (v.start + first) (pos 1) k) (sym is) ∙ seen_there h k l);
      }

  pub bytes_run : {b : ℕ} → v.source ≡ Input b → ((k : ℕ) → k < many → NoNan (word8 bs (b + 8 * (v.start + first) + 8 * k))) → ViewRun area bs v (shape_of v.shape) first many (Bytes (b + 8 * (v.start + first)))
  bytes_run {b} is plain =
      record {
        readable = λ _ k l. (omega (arith, run_bytes_end is), plain k l);
        gives = λ _ a h k l x. along_bytes b area bs (v.start + first) (pos 1) k refl ∙ (ap (λ o. along o area bs (v.start + first) (pos 1) k) (sym is) ∙ seen_there h k l);
      }

-- ---- one row, along the last axis of a tree
pub last_of : (s : Shape) → 0 < s.rank → s.rank ≤ length s.lens → shape_of s ≡ take (s.rank - 1) (shape_of s) ++ get_or s.lens (s.rank - 1) 0 ∷ []
last_of s any few-axes =
    let low : s.rank - 1 < s.rank = omega arith in
    last_axis (shape_of s) s.rank (length-take-le s.rank s.lens few-axes) any ∙ ap (λ d. take (s.rank - 1) (shape_of s) ++ d ∷ []) (get_or-take s.rank s.lens (s.rank - 1) 0 low)

pub one_axis : (s : Shape) → s.rank ≡ 1 → 0 < length s.lens → shape_of s ≡ get_or s.lens 0 0 ∷ []
one_axis s e any = ap (λ r. take r s.lens) e ∙ take_more s.lens 0 0 any

pub size_one : (d : ℕ) → size (d ∷ []) ≡ d
unfolding size
size_one d = mul-one d

narrow_row : (t : List ℕ) (d n k : ℕ) → n < size (t ++ d ∷ []) → n % d + k < d → narrow (d ∷ []) (unflat (d ∷ []) (n % d + k)) ≡ narrow (d ∷ []) (unflat (t ++ d ∷ []) (n + k))
unfolding unflat
narrow_row t d n k h l =
    let c = n % d + k in
    let low : c < size ([] ++ d ∷ []) = omega (arith, size_one d) in
    let own : unflat (d ∷ []) c ≡ c ∷ [] = unflat_last [] d c low ∙ ap (λ i. i ∷ []) (mod-eq_of_lt l) in
    ap (narrow (d ∷ [])) own ∙ (narrow_front d c [] ∙ (sym (narrow_front d c (unflat t (n / d))) ∙ ap (narrow (d ∷ [])) (sym (unflat_row t d n k h (omega arith)))))

row_number : (a : Array ℕ) (t : List ℕ) (d n k : ℕ) → a.shape ≡ d ∷ [] → n < size (t ++ d ∷ []) → n % d + k < d → cell_number (some a) (unflat (d ∷ []) (n % d + k)) ≡ cell_number (some a) (unflat (t ++ d ∷ []) (n + k))
unfolding cell_number
row_number a t d n k e h l =
    ap a.at (subst (λ s. narrow s (unflat (d ∷ []) (n % d + k)) ≡ narrow s (unflat (t ++ d ∷ []) (n + k))) (sym e) (narrow_row t d n k h l))

pub row_shift : {area bs : List ℕ} {v : View} {many : ℕ} {o : Operand} (t : List ℕ) (d first : ℕ) → shape_of v.shape ≡ d ∷ [] → first < size (t ++ d ∷ []) → first % d + many ≤ d → ViewRun area bs v (shape_of v.shape) (first % d) many o → ViewRun area bs v (t ++ d ∷ []) first many o
row_shift {area} {bs} {v} {many} {o} t d first one h short r =
    record {
      readable = r.readable;
      gives = λ n a holds k l x.
          subst (λ y. Gives o area bs k x y) (ap (λ s. cell_number (some a) (unflat s (first % d + k))) one ∙ row_number a t d first k (sym holds.shaped ∙ one) h (omega arith)) (r.gives n a holds k l x);
    }

-- ---- the tree at a node is one name
module _ {ws : List ℕ} {i : ℕ} {x : Step} (at-step : At ws i x) {table : List (Option View)} {area bs w : List ℕ} {first : ℕ} where
  pub name_run : {many k : ℕ} {v : View} {o : Operand} → x ≡ Name k → get_or table k None ≡ Some v → ViewRun area bs v w first many o → FoundRun ws i table area bs w first many o
  unfolding tree
  name_run {many} {k} {v} {o} is held r =
      record {
        skips = λ _. skips_name at-step is;
        readable = r.readable;
        gives = λ n q j l y. go n q (expr_view ws i x at-step (Name k) is q.expr q.rest q.enc) j l y;
      }
    where
      go : (o ≡ Own → ⊥) → (q : Ready ws i table area bs w) {e : Expr ℕ} → Step-view q.rest (steps_from ws (i + 1)) e (Name k) → (j : ℕ) → j < many → (y : Float) → Gives o area bs j y (tree (inputs_of bs) q.names e (unflat w (first + j)))
      go n q (is_name p) j l y =
          let a = slot_cell held (q.tabled.each k) in
          subst (λ c. Gives o area bs j y (cell_number c (unflat w (first + j)))) (sym a.cell_is) (r.gives n a.array a.holds j l y)

  -- both operands of an operation, and what it makes of them
  pub filled_combined : {op : Binary} {m : ℕ} {left right : Operand} {old new : List Float} → x ≡ Both op → GivesTree ws (i + 1) table area bs w first left old → Skips ws (i + 1) m → GivesTree ws m table area bs w first right old →
      Combined op left right area bs old new → length new ≡ length old → Filled ws i table area bs w first new
  unfolding tree
  filled_combined {op} {m} {left} {right} {old} {new} is f s g c e = record { stand = λ q. record { each = λ k l. go q (expr_view ws i x at-step (Both op) is q.expr q.rest q.enc) q.leaves k (subst (λ n. k < n) e l) } }
    where
      go : (q : Ready ws i table area bs w) {d : Expr ℕ} → Step-view q.rest (steps_from ws (i + 1)) d (Both op) → Leaves (inputs_of bs) q.names w d → (k : ℕ) → k < length old → StandsFor (at new k) (tree (inputs_of bs) q.names d (unflat w (first + k)))
      go q (is_both {e = y} {f = z} p) l k low =
          c.each k low _ _ (f.each (record { names = q.names; tabled = q.tabled; expr = y; rest = spell z q.rest; enc = p; leaves = l.0 }) k low)
          (g.each (record { names = q.names; tabled = q.tabled; expr = z; rest = q.rest; enc = s.on y _ p; leaves = l.1 }) k low)

-- a block that has a tree's numbers, and a run
pub own_gives : {ws : List ℕ} {i : ℕ} {table : List (Option View)} {area bs w : List ℕ} {first : ℕ} {old : List Float} → Filled ws i table area bs w first old → GivesTree ws i table area bs w first Own old
own_gives f = record { each = λ q k l. (f.stand q).each k l }

pub run_gives : {ws : List ℕ} {i : ℕ} {table : List (Option View)} {area bs w : List ℕ} {first many : ℕ} {o : Operand} {old : List Float} → FoundRun ws i table area bs w first many o → (o ≡ Own → ⊥) → length old ≡ many → GivesTree ws i table area bs w first o old
run_gives {old = old} r n e = record { each = λ q k l. r.gives n q k (subst (λ m. k < m) e l) (at old k) }

-- with room to spare
pub able_whole : {ws : List ℕ} {j : ℕ} {table : List (Option View)} {area bs w : List ℕ} {many spare : ℕ} → AbleBehind ws j table area bs w many spare → Able ws j table area bs w many spare
able_whole b = record { ready = b.able.ready; room = omega (arith, b.able.room) }
