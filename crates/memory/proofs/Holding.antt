-- What names hold, where a name gets a view, and where words above the top change.
use Rattle.std.proofs.Common.{◌≡◌, ℕ, suc, ◌<◌, ◌≤◌, max, List, [], ◌∷◌, length, get_or, take, set, sym, refl, ap, ◌∙◌, subst, inl, inr, ⊎_elim, arith, get_or-set_other, get_or-take, get_or-set_same, Option, Some, None}
use Rattle.std.proofs.lemmas.List.{set_past}
use Rattle.std.proofs.lemmas.Bool.{cases_eq, cases_lt}
use Rattle.semantics.specs.Shapes.{size}
use Rattle.semantics.specs.Arrays.{Array}
use Rattle.semantics.specs.Values.{Cell, none, some}
use Rattle.semantics.specs.Programs.{cell_size, in_names}
use Rattle.views.specs.declared.view.Source.TheVariants.{Area}
use Rattle.views.specs.declared.view.View.{View}
use Rattle.views.specs.Views.{Good, Holds}
use Rattle.kernels.specs.Filling.{SlotHolds, empty, held, Tabled}
use Rattle.memory.specs.declared.memory.Memory.{Memory}
use Rattle.memory.specs.Spans.{low_of, high_of, slot_size, loose_size, GoodSlot, Apart, Fills}
use Rattle.memory.specs.Sums.{sum_of}
use Rattle.memory.specs.Tables.{Neat, Counted, Owned, AllFill, Bound}
use Rattle.memory.proofs.Adding.{sum_none}
use Rattle.memory.proofs.Slotted.{area_low, fills_loose, kept_slot}

-- ---- a slot that is set
-- what holds of the new slot and of all old ones holds of all
set_each : (P : Option View → Type 0) (t : List (Option View)) (k : ℕ) (s : Option View) → P s → ((j : ℕ) → P (get_or t j None)) → (j : ℕ) → P (get_or (set t k s) j None)
set_each P t k s new old j =
    ⊎_elim
    (λ e.
    ⊎_elim (λ h. subst P (sym (ap (λ i. get_or (set t k s) i None) e ∙ get_or-set_same t k s None h)) new)
    (λ h. subst (λ u. P (get_or u j None)) (sym (set_past t k s h)) (old j))
    (cases_lt k (length t)))
    (λ ne. subst P (sym (get_or-set_other t k j s None ne)) (old j))
    (cases_eq j k)

apart_turned : (s t : Option View) → Apart s t → Apart t s
apart_turned s t o = ⊎_elim (λ p. inl (sym p.0, sym p.1)) (λ q. inr (⊎_elim inr inl q)) o

set_apart : (t : List (Option View)) (k : ℕ) (s : Option View) → ((j : ℕ) → Apart s (get_or t j None)) → ((i j : ℕ) → Apart (get_or t i None) (get_or t j None)) →
    (i j : ℕ) → Apart (get_or (set t k s) i None) (get_or (set t k s) j None)
set_apart t k s new old i j =
    set_each (λ x. Apart x (get_or (set t k s) j None)) t k s (set_each (Apart s) t k s (inl (refl, refl)) new j)
    (λ n. set_each (Apart (get_or t n None)) t k s (apart_turned s (get_or t n None) (new n)) (old n) j) i

set_neat : {t : List (Option View)} {top : ℕ} (k : ℕ) (s : Option View) → Neat t top → GoodSlot s → low_of s ≤ high_of s → ((j : ℕ) → Apart s (get_or t j None)) → Neat (set t k s) (max top (high_of s))
set_neat {t} {top} k s n good up apart =
    record {
      good = set_each GoodSlot t k s good n.good;
      up = set_each (λ x. low_of x ≤ high_of x) t k s up n.up;
      below = set_each (λ x. high_of x ≤ max top (high_of s)) t k s (omega arith) (λ j. omega (arith, n.below j));
      apart = set_apart t k s apart n.apart;
    }

module _ {old new : Memory} {k : ℕ} {v : View} where
  pub bound_neat : Neat old.names old.top → Good v → low_of (Some v) ≤ high_of (Some v) → ((j : ℕ) → Apart (Some v) (get_or old.names j None)) → k < 64 → Counted old → Bound old new k v →
      Neat new.names new.top
  bound_neat n good up apart h c b =
      subst (λ t. Neat t new.top) (sym b.names) (subst (Neat (set old.names k (Some v))) (sym b.top) (set_neat k (Some v) n good up apart))

  pub bound_fills : AllFill old.names → Fills (Some v) → Bound old new k v → AllFill new.names
  bound_fills f fills b = record { each = λ j. subst (λ t. Fills (get_or t j None)) (sym b.names) (set_each Fills old.names k (Some v) fills f.each j) }

  pub bound_tabled : {area bs : List ℕ} {ns : List (Cell ℕ)} {a : Array ℕ} → Tabled area bs old.names ns → length ns ≡ 64 → Counted old → k < 64 → Holds area bs v a → Bound old new k v →
      Tabled area bs new.names (set ns k (some a))
  bound_tabled {area} {bs} {ns} {a} t many c h holds b =
      record {
        each = λ j.
            subst (λ u. SlotHolds area bs (get_or u j None) (get_or (set ns k (some a)) j none)) (sym b.names)
            (⊎_elim
            (λ e.
            let in_table : k < length old.names = omega (arith, c.many) in
            let in_names : k < length ns = omega arith in
            subst (λ i. SlotHolds area bs (get_or (set old.names k (Some v)) i None) (get_or (set ns k (some a)) i none)) (sym e)
            (subst (λ s. SlotHolds area bs s (get_or (set ns k (some a)) k none)) (sym (get_or-set_same old.names k (Some v) None in_table))
            (subst (SlotHolds area bs (Some v)) (sym (get_or-set_same ns k (some a) none in_names)) (held holds))))
            (λ ne.
            subst (λ s. SlotHolds area bs s (get_or (set ns k (some a)) j none)) (sym (get_or-set_other old.names k j (Some v) None ne))
            (subst (SlotHolds area bs (get_or old.names j None)) (sym (get_or-set_other ns k j (some a) none ne)) (t.each j)))
            (cases_eq j k));
      }

-- ---- counts
holds_size : {area bs : List ℕ} {s : Option View} {cell : Cell ℕ} → SlotHolds area bs s cell → slot_size s ≡ cell_size cell
unfolding slot_size cell_size
holds_size empty = refl
holds_size (held h) = ap size h.shaped

sum_names : (t : List (Option View)) (ns : List (Cell ℕ)) → length t ≡ length ns → ((k : ℕ) → slot_size (get_or t k None) ≡ cell_size (get_or ns k none)) → sum_of slot_size t ≡ in_names ns
unfolding sum_of in_names
sum_names [] [] e h = refl
sum_names [] (y ∷ ys) e h = absurd (omega arith)
sum_names (x ∷ xs) [] e h = absurd (omega arith)
sum_names (x ∷ xs) (y ∷ ys) e h =
    let first : slot_size x ≡ cell_size y = h 0 in
    omega (arith, sum_names xs ys (omega arith) (λ k. h (suc k)))

pub held_in_names : {area bs : List ℕ} {m : Memory} {ns : List (Cell ℕ)} → Tabled area bs m.names ns → length ns ≡ 64 → Counted m → m.held ≡ in_names ns
held_in_names {m = m} {ns} t many c = c.held ∙ sum_names m.names ns (c.many ∙ sym many) (λ k. holds_size (t.each k))

pub all_fill_owned : {t : List (Option View)} → AllFill t → Owned t
all_fill_owned f = record { owner = λ k h. record { who = k; there = h; low = refl; high = refl; fills = f.each k } }

pub all_fill_loose : {t : List (Option View)} → AllFill t → sum_of loose_size t ≡ 0
all_fill_loose {t} f = sum_none loose_size t (λ k. fills_loose (get_or t k None) (f.each k))

-- ---- words above the top
pub area_grows : {old new bs : List ℕ} {t : List (Option View)} {top : ℕ} {ns : List (Cell ℕ)} → Tabled old bs t ns → Neat t top → take top new ≡ take top old → top ≤ length new → Tabled new bs t ns
area_grows {old} {new} {bs} {t} {top} {ns} h n e room =
    record {
      each = λ k.
          let below = n.below k in
          kept_slot
          (record {
            room = omega arith;
            same = λ i l u.
                let in-front : i < top = omega arith in
                sym (get_or-take top new i 0 in-front) ∙ (ap (λ xs. get_or xs i 0) e ∙ get_or-take top old i 0 in-front);
          })
          (h.each k);
    }

pub apart_above : {t : List (Option View)} {top : ℕ} (v : View) → Neat t top → v.source ≡ Area → v.low ≡ top → (k : ℕ) → Apart (Some v) (get_or t k None)
apart_above v n e l k = inr (inr (omega (arith, n.below k, area_low v e)))

pub apart_shared : {t : List (Option View)} {top : ℕ} {v : View} (j : ℕ) → Neat t top → get_or t j None ≡ Some v → (k : ℕ) → Apart (Some v) (get_or t k None)
apart_shared {t} j n e k = subst (λ s. Apart s (get_or t k None)) e (n.apart j k)
