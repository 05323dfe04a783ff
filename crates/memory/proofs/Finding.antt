-- The buffer that ends first, of those that end above a word.
use Rattle.std.proofs.Common.{◌≡◌, ℕ, ◌+◌, ◌<◌, ◌≤◌, List, length, get_or, ap, ◌∙◌, ⊎_elim, arith, below_more, Option, None, Some, MatchOption, refl, sym, subst}
use Rattle.std.proofs.lemmas.List.{get_or_past}
use Rattle.std.proofs.lemmas.Bool.{cases_lt}
use Rattle.views.specs.declared.view.View.{View}
use Rattle.memory.specs.Spans.{high_of}
use Rattle.memory.specs.Packing.{Lowest, Settled}
use Rattle.memory.proofs.Slotted.{empty_high}

-- of the first n slots none ends above `to`
pub record Under (table : List (Option View)) (to n : ℕ) : Type 0 where
  pub below : (j : ℕ) → j < n → high_of (get_or table j None) ≤ to

-- of the first n slots that end above `to`, p is a slot that ends first, with its end
pub record First (table : List (Option View)) (to n : ℕ) (p : ℕ × ℕ) : Type 0 where
  pub there : p.0 < n
  pub ends : p.1 ≡ high_of (get_or table p.0 None)
  pub above : to < p.1
  pub least : (j : ℕ) → j < n → to < high_of (get_or table j None) → p.1 ≤ high_of (get_or table j None)

module _ (table : List (Option View)) (to n x : ℕ) (is : x ≡ high_of (get_or table n None)) where
  pub best_takes : (best : Option (ℕ × ℕ)) → MatchOption best (Under table to n) (First table to n) → ((p : ℕ × ℕ) → best ≡ Some p → x < p.1) → to < x → First table to (n + 1) (n, x)
  best_takes None u less l =
      record {
        there = omega arith;
        ends = is;
        above = l;
        least = below_more (λ j. to < high_of (get_or table j None) → x ≤ high_of (get_or table j None)) n (λ j m a. absurd (omega (arith, u.below j m))) (λ a. omega arith);
      }
  best_takes (Some p) f less l =
      record {
        there = omega arith;
        ends = is;
        above = l;
        least = below_more (λ j. to < high_of (get_or table j None) → x ≤ high_of (get_or table j None)) n (λ j m a. omega (arith, f.least j m a, less p refl)) (λ a. omega arith);
      }

  pub best_keeps : (best : Option (ℕ × ℕ)) → MatchOption best (Under table to n) (First table to n) → (to < x → (best ≡ None → ⊥)) → (to < x → (p : ℕ × ℕ) → best ≡ Some p → p.1 ≤ x) → MatchOption best (Under table to (n + 1)) (First table to (n + 1))
  best_keeps None u none more =
      record { below = below_more (λ j. high_of (get_or table j None) ≤ to) n u.below (⊎_elim (λ l. absurd (none l refl)) (λ l. omega arith) (cases_lt to x)) }
  best_keeps (Some p) f none more =
      record {
        there = omega (arith, f.there);
        ends = f.ends;
        above = f.above;
        least = below_more (λ j. to < high_of (get_or table j None) → p.1 ≤ high_of (get_or table j None)) n f.least (λ a. omega (arith, more (omega arith) p refl));
      }

module _ (table : List (Option View)) (to n : ℕ) (all : length table ≤ n) where
  past_low : (j : ℕ) → length table ≤ j → high_of (get_or table j None) ≡ 0
  past_low j h = ap high_of (get_or_past table j None h) ∙ empty_high

  best_found : {p : ℕ × ℕ} → n ≤ length table → First table to n p → Lowest table to p.0
  best_found h f =
      record {
        there = omega (arith, f.there);
        above = omega (arith, f.ends, f.above);
        least = λ j u. ⊎_elim (λ l. omega (arith, f.ends, f.least j (omega arith) u)) (λ l. absurd (omega (arith, past_low j l))) (cases_lt j (length table));
      }

  best_none : Under table to n → Settled table to
  best_none u = record { below = λ j. ⊎_elim (λ l. u.below j (omega arith)) (λ l. omega (arith, past_low j l)) (cases_lt j (length table)) }

  pub best_told : n ≤ length table → (best : Option (ℕ × ℕ)) (r : Option ℕ) → MatchOption best (Under table to n) (First table to n) → (best ≡ None → r ≡ None) → ((p : ℕ × ℕ) → best ≡ Some p → r ≡ Some p.0) →
      MatchOption r (Settled table to) (λ k. Lowest table to k)
  best_told h None r u none some = subst (λ r. MatchOption r (Settled table to) (λ k. Lowest table to k)) (sym (none refl)) (best_none u)
  best_told h (Some p) r f none some = subst (λ r. MatchOption r (Settled table to) (λ k. Lowest table to k)) (sym (some p refl)) (best_found h f)
