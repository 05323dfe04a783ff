-- A slot whose buffer was moved down.
use Rattle.std.proofs.Common.{◌≡◌, ℕ, ◌+◌, ◌<◌, ◌≤◌, ◌≢◌, List, length, get_or, set, sym, refl, ap, ◌∙◌, subst, arith, length-set, get_or-set_other, get_or-set_same, below_more, Option, Some, None}
use Rattle.semantics.specs.Shapes.{size}
use Rattle.semantics.specs.Arrays.{Array}
use Rattle.semantics.specs.Values.{Cell}
use Rattle.encoding.specs.ShapeOf.{shape_of}
use Rattle.views.specs.declared.view.Source.TheVariants.{Area}
use Rattle.views.specs.declared.view.View.{View}
use Rattle.views.specs.Views.{Holds}
use Rattle.views.specs.Shifting.{Shifted, Moved}
use Rattle.kernels.specs.Filling.{SlotHolds, held}
use Rattle.memory.specs.Spans.{slot_size}
use Rattle.memory.specs.Packing.{Slid, After, AllAfter}
use Rattle.memory.proofs.Slotted.{area_low, area_high}

slot_shifted : {v r : View} {old new bs : List ℕ} {cell : Cell ℕ} → ((a : Array ℕ) → Holds old bs v a → Holds new bs r a) → SlotHolds old bs (Some v) cell → SlotHolds new bs (Some r) cell
slot_shifted go (held h) = held (go _ h)

-- a view of low..high that was shifted
pub slid : (v r : View) (low high to : ℕ) → v.source ≡ Area → v.low ≡ low → v.high ≡ high → Shifted v to r →
    ((old new bs : List ℕ) (a : Array ℕ) → v.source ≡ Area → Holds old bs v a → Moved old new v.low v.high to → Holds new bs r a) → Slid low high to (Some v) (Some r)
unfolding slot_size
slid v r low high to area e f s holds =
    record {
      from_low = area_low v area ∙ e;
      from_high = area_high v area ∙ f;
      good = s.good;
      size = ap (λ x. size (shape_of x)) s.shape;
      now_low = area_low r (s.source ∙ area) ∙ s.low;
      now_high = omega (arith, area_high r (s.source ∙ area), s.high);
      holds = λ old new bs cell m. slot_shifted (λ a h. holds old new bs a area h (subst (λ l. Moved old new l v.high to) (sym e) (subst (λ t. Moved old new low t to) (sym f) m)));
    }

-- the slots below j after a move; the others are as they were
pub record Sliding (low high to : ℕ) (old new : List (Option View)) (j : ℕ) : Type 0 where
  pub many : length new ≡ length old
  pub before : (k : ℕ) → k < j → After low high to (get_or old k None) (get_or new k None)
  pub behind : (k : ℕ) → j ≤ k → get_or new k None ≡ get_or old k None

pub sliding_none : (low high to : ℕ) (old : List (Option View)) → Sliding low high to old old 0
sliding_none low high to old = record { many = refl; before = λ k h. absurd (omega arith); behind = λ k h. refl }

module _ (low high to : ℕ) (old new : List (Option View)) (j : ℕ) (i : Sliding low high to old new j) where
  pub sliding_more : (s r : Option View) → j < length new → s ≡ get_or new j None → After low high to s r → Sliding low high to old (set new j r) (j + 1)
  sliding_more s r h e a =
      record {
        many = length-set new j r ∙ i.many;
        before = below_more _ j
            (λ k l.
            let ne : k ≢ j = omega arith in
            subst (After low high to (get_or old k None)) (sym (get_or-set_other new j k r None ne)) (i.before k l))
            (subst (After low high to (get_or old j None)) (sym (get_or-set_same new j r None h)) (subst (λ x. After low high to x r) (e ∙ i.behind j (omega arith)) a));
        behind = λ k l.
            let ne : k ≢ j = omega arith in
            get_or-set_other new j k r None ne ∙ i.behind k (omega arith);
      }

  pub sliding_all : length old ≤ j → AllAfter low high to old new
  sliding_all h = record { many = i.many; each = λ k l. i.before k (omega arith) }
