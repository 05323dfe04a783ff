-- A table of names that hold nothing.
use Rattle.std.proofs.Common.{◌≡◌, ℕ, zero, suc, ◌≤◌, List, get_or, replicate, sym, refl, ap, ◌∙◌, subst, inl, arith, Option, None}
use Rattle.semantics.specs.Values.{none}
use Rattle.semantics.specs.Programs.{nothing}
use Rattle.views.specs.declared.view.View.{View}
use Rattle.kernels.specs.Filling.{SlotHolds, empty, Tabled}
use Rattle.memory.specs.Spans.{low_of, high_of, slot_size, loose_size, GoodSlot, Fills}
use Rattle.memory.specs.Sums.{sum_of}
use Rattle.memory.specs.Tables.{Neat, AllFill}

pub all_empty : (n k : ℕ) → get_or {A = Option View} (replicate n None) k None ≡ None
all_empty zero k = refl
all_empty (suc n) zero = refl
all_empty (suc n) (suc k) = all_empty n k

all_nothing : (n k : ℕ) → get_or (nothing {Num = ℕ} n) k none ≡ none
unfolding nothing
all_nothing zero k = refl
all_nothing (suc n) zero = refl
all_nothing (suc n) (suc k) = all_nothing n k

pub empty_neat : (n : ℕ) → Neat (replicate n None) 0
unfolding low_of high_of
empty_neat n =
    record {
      good = λ k. subst GoodSlot (sym (all_empty n k)) tt;
      up = λ k. subst (λ s. low_of s ≤ high_of s) (sym (all_empty n k)) (omega arith);
      below = λ k. subst (λ s. high_of s ≤ 0) (sym (all_empty n k)) (omega arith);
      apart = λ j k.
          let e : get_or (replicate n None) j None ≡ get_or (replicate n None) k None = all_empty n j ∙ sym (all_empty n k) in
          inl (ap low_of e, ap high_of e);
    }

pub empty_fill : (n : ℕ) → AllFill (replicate n None)
unfolding Fills low_of high_of slot_size
empty_fill n = record { each = λ k. subst Fills (sym (all_empty n k)) (omega arith) }

empty_sum : (f : Option View → ℕ) (n : ℕ) → f None ≡ 0 → sum_of f (replicate n None) ≡ 0
unfolding sum_of
empty_sum f zero e = refl
empty_sum f (suc n) e = omega (arith, empty_sum f n e)

pub empty_held : (n : ℕ) → sum_of slot_size (replicate n None) ≡ 0
unfolding slot_size
empty_held n = empty_sum slot_size n refl

pub empty_loose : (n : ℕ) → sum_of loose_size (replicate n None) ≡ 0
unfolding loose_size slot_size low_of high_of
empty_loose n = empty_sum loose_size n refl

pub empty_tabled : (area bs : List ℕ) (n : ℕ) → Tabled area bs (replicate n None) (nothing n)
empty_tabled area bs n =
    record {
      each = λ k. subst (λ s. SlotHolds area bs s (get_or (nothing n) k none)) (sym (all_empty n k)) (subst (SlotHolds area bs None) (sym (all_nothing n k)) empty);
    }
