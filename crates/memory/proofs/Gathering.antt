-- Buffers are moved together, one after the other.
use Rattle.std.proofs.Common.{◌≡◌, ℕ, ◌+◌, ◌≤◌, List, sym, refl, ◌∙◌, ⊎_elim, arith, Option}
use Rattle.std.proofs.lemmas.Bool.{cases_lt}
use Rattle.semantics.specs.Values.{Cell}
use Rattle.views.specs.declared.view.View.{View}
use Rattle.kernels.specs.Filling.{Tabled}
use Rattle.memory.specs.declared.memory.Memory.{Memory}
use Rattle.memory.specs.Spans.{high_of, slot_size, loose_size}
use Rattle.memory.specs.Sums.{sum_of}
use Rattle.memory.specs.Tables.{Neat, Counted, Owned, AllFill, Carries}
use Rattle.memory.specs.Packing.{Settled, Parted, firm, Turn}
use Rattle.memory.proofs.Adding.{sum_both}
use Rattle.memory.proofs.Slotted.{loose_below}
use Rattle.memory.proofs.Moving.{firm_above, firm_under}

pub neat_above : {t : List (Option View)} {low high : ℕ} → Neat t low → low ≤ high → Neat t high
neat_above n h = record { good = n.good; up = n.up; below = λ k. omega (arith, n.below k); apart = n.apart }

-- all buffers that end at `to` or below are together
pub record Gathered (old-area new-area : List ℕ) (old new : Memory) (to : ℕ) : Type 0 where
  pub tabled : (bs : List ℕ) (ns : List (Cell ℕ)) → Tabled old-area bs old.names ns → Tabled new-area bs new.names ns
  pub neat : Neat new.names old.top
  pub parted : Parted new.names to
  pub under : to ≤ old.top
  pub counted : Counted new
  pub held : new.held ≡ old.held
  pub loose : new.loose ≡ old.loose
  pub owned : Owned old.names → Owned new.names
  pub firm_there : Owned old.names → to ≤ sum_of (firm to) new.names
  pub fills : AllFill old.names → AllFill new.names

pub gathered_none : (area : List ℕ) (m : Memory) → Neat m.names m.top → Counted m → Gathered area area m m 0
gathered_none area m n c =
    record {
      tabled = λ bs ns t. t;
      neat = n;
      parted = record { above = λ k h. omega arith };
      under = omega arith;
      counted = c;
      held = refl;
      loose = refl;
      owned = λ o. o;
      firm_there = λ o. omega arith;
      fills = λ f. f;
    }

module _ {a b : List ℕ} {m n : Memory} {to : ℕ} (g : Gathered a b m n to) where
  pub gathered_more : (c : List ℕ) (names : List (Option View)) (far : ℕ) → Turn b c n.names names to far → Gathered a c m (record { names = names; top = n.top; held = n.held; loose = n.loose }) far
  gathered_more c names far t =
      let count = g.counted in
      record {
        tabled = λ bs ns h. t.tabled bs ns (g.tabled bs ns h);
        neat = t.neat m.top g.neat;
        parted = t.parted;
        under = t.under m.top g.neat;
        counted = record { many = t.many ∙ count.many; held = count.held ∙ sym t.held; loose = count.loose ∙ sym t.loose };
        held = g.held;
        loose = g.loose;
        owned = λ o. t.owned (g.owned o);
        firm_there = λ o. omega (arith, g.firm_there o, t.firm_grows (g.owned o));
        fills = λ f. t.fills (g.fills f);
      }

  pub gathered_carries : Settled n.names to → Carries a b m (record { names = n.names; top = to; held = n.held; loose = n.loose })
  gathered_carries s =
      let count = g.counted in
      record {
        tabled = g.tabled;
        neat = record { good = g.neat.good; up = g.neat.up; below = s.below; apart = g.neat.apart };
        counted = record { many = count.many; held = count.held; loose = count.loose };
        held = g.held;
        loose = g.loose;
        top = g.under;
        fills = g.fills;
      }

  firm_loose : (s : Option View) → firm to s + loose_size s ≤ slot_size s
  firm_loose s = ⊎_elim (λ l. omega (arith, firm_above to s l, loose_below s)) (λ l. omega (arith, firm_under to s l, loose_below s)) (cases_lt to (high_of s))

  pub gathered_packed : Owned m.names → to + n.loose ≤ n.held
  gathered_packed o = omega (arith, g.firm_there o, g.counted.held, g.counted.loose, sum_both (firm to) loose_size slot_size n.names firm_loose)

-- nothing was moved
pub carries_same : (area : List ℕ) (m : Memory) → Neat m.names m.top → Counted m → Carries area area m m
carries_same area m n c = record { tabled = λ bs ns t. t; neat = n; counted = c; held = refl; loose = refl; top = omega arith; fills = λ f. f }
