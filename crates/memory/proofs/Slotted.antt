-- What a slot is, by cases.
use Rattle.std.proofs.Common.{◌≡◌, ℕ, ◌-◌, ◌<◌, ◌≤◌, List, length, get_or, refl, ap, ⊎_elim, arith, Option, Some, None}
use Rattle.std.proofs.lemmas.Bool.{cases_lt, lt-ltb, le-ltb}
use Rattle.semantics.specs.Shapes.{pick}
use Rattle.semantics.specs.Values.{Cell}
use Rattle.views.specs.declared.view.Source.TheVariants.{Area, Input}
use Rattle.views.specs.declared.view.View.{View}
use Rattle.views.proofs.Keeping.{only_inside}
use Rattle.kernels.specs.Filling.{SlotHolds, empty, held}
use Rattle.memory.specs.Spans.{in_area, low_of, high_of, slot_size, loose_size, Fills}

pub area_low : (v : View) → v.source ≡ Area → low_of (Some v) ≡ v.low
unfolding low_of in_area
area_low v e = ap (λ o. in_area o v.low) e

pub area_high : (v : View) → v.source ≡ Area → high_of (Some v) ≡ v.high
unfolding high_of in_area
area_high v e = ap (λ o. in_area o v.high) e

pub empty_high : high_of None ≡ 0
unfolding high_of
empty_high = refl

pub input_high : (v : View) (b : ℕ) → v.source ≡ Input b → high_of (Some v) ≡ 0
unfolding high_of in_area
input_high v b e = ap (λ o. in_area o v.high) e

-- ---- loose places
pub loose_below : (s : Option View) → loose_size s ≤ slot_size s
unfolding loose_size
loose_below s =
    ⊎_elim (λ l. let e = ap (λ b. pick b (slot_size s) 0) (lt-ltb (slot_size s) (high_of s - low_of s) l) in omega (arith, e))
    (λ l. let e = ap (λ b. pick b (slot_size s) 0) (le-ltb (slot_size s) (high_of s - low_of s) l) in omega (arith, e))
    (cases_lt (slot_size s) (high_of s - low_of s))

pub fills_loose : (s : Option View) → Fills s → loose_size s ≡ 0
unfolding loose_size Fills
fills_loose s f = ap (λ b. pick b (slot_size s) 0) (le-ltb (slot_size s) (high_of s - low_of s) f)

-- ---- words outside of a slot's buffer
pub record SameIn (old new : List ℕ) (low high : ℕ) : Type 0 where
  pub room : high ≤ length new
  pub same : (k : ℕ) → low ≤ k → k < high → get_or new k 0 ≡ get_or old k 0

pub kept_slot : {old new bs : List ℕ} {s : Option View} {cell : Cell ℕ} → SameIn old new (low_of s) (high_of s) → SlotHolds old bs s cell → SlotHolds new bs s cell
kept_slot same empty = empty
kept_slot {old} {new} {bs} same (held {v} {a} h) =
    held
    (only_inside old new bs v a h
    (record {
      room = λ e. omega (arith, same.room, area_high v e);
      same = λ e k l b. same.same k (omega (arith, area_low v e)) (omega (arith, area_high v e));
    }))
