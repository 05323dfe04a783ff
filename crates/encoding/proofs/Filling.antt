-- An array of eight that a loop fills from a list, entry by entry.
use Rattle.std.proofs.Common.{◌≡◌, ℕ, ◌+◌, ◌<◌, ◌≤◌, ◌≢◌, List, length, get_or, take, set, sym, ◌∙◌, arith, length-set, below_more}
use Rattle.std.proofs.lemmas.List.{ext_get_or, length-take-le, get_or-take, get_or-set_same, get_or-set_other}

-- the first k entries are those of the list
pub record Filled (k : ℕ) (xs ys : List ℕ) : Type 0 where
  pub long : length xs ≡ 8
  pub same : (j : ℕ) → j < k → get_or xs j 0 ≡ get_or ys j 0

pub filled_none : (xs ys : List ℕ) → length xs ≡ 8 → Filled 0 xs ys
filled_none xs ys h = record { long = h; same = λ j l. absurd (omega arith) }

pub filled_more : {k : ℕ} {xs ys : List ℕ} (v : ℕ) → Filled k xs ys → k < 8 → v ≡ get_or ys k 0 → Filled (k + 1) (set xs k v) ys
filled_more {k} {xs} {ys} v f l e =
    let there : k < length xs = omega (arith, f.long) in
    record {
      long = length-set xs k v ∙ f.long;
      same = below_more _ _ (λ j h. let ne : j ≢ k = omega arith in get_or-set_other xs k j v 0 ne ∙ f.same j h) (get_or-set_same xs k v 0 there ∙ e);
    }

pub filled_all : {k : ℕ} {xs ys : List ℕ} → Filled k xs ys → k ≤ 8 → length ys ≡ k → take k xs ≡ ys
filled_all {k} {xs} {ys} f l e =
    let long : length (take k xs) ≡ k = length-take-le k xs (omega (arith, f.long)) in
    ext_get_or 0 (take k xs) ys (long ∙ sym e) (λ j h. get_or-take k xs j 0 (omega arith) ∙ f.same j (omega arith))
