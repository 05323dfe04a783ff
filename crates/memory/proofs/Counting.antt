-- What is counted, where a name gets another view.
use Rattle.std.proofs.Common.{◌≡◌, ℕ, ◌+◌, ◌-◌, ◌<◌, ◌≤◌, max, length, get_or, set, refl, ap, ◌∙◌, arith, length-set, Option, Some, None}
use Rattle.views.specs.declared.view.View.{View}
use Rattle.kernels.proofs.Feeding.{get_d_any}
use Rattle.memory.specs.declared.memory.Memory.{Memory}
use Rattle.memory.specs.Spans.{high_of, slot_size, loose_size}
use Rattle.memory.specs.Tables.{Counted, Bound}
use Rattle.memory.proofs.Adding.{sum_set, sum_part, sum_grows}
use Rattle.memory.proofs.Slotted.{loose_below}

pub loose_held : {m : Memory} → Counted m → m.loose ≤ m.held
loose_held {m} c = omega (arith, c.held, c.loose, sum_grows loose_size slot_size m.names m.names refl (λ k l. loose_below (get_or m.names k None)))

module _ (m : Memory) (k : ℕ) (d : Option View) (c : Counted m) (h : k < 64) where
  pub in_table : k < length m.names
  in_table = omega (arith, c.many)

  pub old_held : slot_size (get_or m.names k d) ≤ m.held
  old_held = omega (arith, ap slot_size (get_d_any m.names k None d in_table), sum_part slot_size m.names k in_table, c.held)

  pub old_loose : loose_size (get_or m.names k d) ≤ m.loose
  old_loose = omega (arith, ap loose_size (get_d_any m.names k None d in_table), sum_part loose_size m.names k in_table, c.loose)

  pub bound : (v : View) (old_held old_loose top : ℕ) → old_held ≡ slot_size (get_or m.names k d) → old_loose ≡ loose_size (get_or m.names k d) → top ≡ max m.top (high_of (Some v)) →
      Bound m (record { names = set m.names k (Some v); top = top; held = m.held - old_held + slot_size (Some v); loose = m.loose - old_loose + loose_size (Some v) }) k v
  bound v size loose top e f g =
      let same = get_d_any m.names k None d in_table in
      let held_is = ap slot_size same in
      let loose-is = ap loose_size same in
      let held-part = sum_part slot_size m.names k in_table in
      let loose-part = sum_part loose_size m.names k in_table in
      let held-sum = sum_set slot_size m.names k (Some v) in_table in
      let loose-sum = sum_set loose_size m.names k (Some v) in_table in
      let held_All = c.held in
      let loose-all = c.loose in
      record {
        names = refl;
        top = g;
        held = omega arith;
        loose = omega arith;
        counted = record { many = length-set m.names k (Some v) ∙ c.many; held = omega arith; loose = omega arith };
      }
