-- Spellings of names: no two alike, so that a name's place is its number; and a new name at their end keeps them so.
use Rattle.std.proofs.Common.{◌≡◌, ℕ, zero, suc, ◌<◌, ◌≤◌, Bool, true, false, not, ◌&&◌, List, [], ◌∷◌, ◌++◌, length, get_or, take, sym, refl, ap, subst, ⊎_elim, arith}
use mathlib.Core.Bool.{false≢true}
use Rattle.std.proofs.lemmas.Bool.{and_parts, and_from, or_left, or_right, or_parts, or_from, not-true, not_from_false, cases_Bool, both_ways}
use Rattle.semantics.specs.Shapes.{pick}
use Rattle.grammar.specs.Words.{Word, same_word, is_some, itself, is_name, are_names}
use Rattle.grammar.specs.Moves.{place}
use Rattle.grammar.proofs.WordLaws.{same_word_is, same_word_refl, Among, here, there, is_some_among}

pub among_get_d : (ms : List Word) (k : ℕ) → k < length ms → Among (get_or ms k []) ms
among_get_d [] k h = absurd (omega arith)
among_get_d (w ∷ ms) zero h = here
among_get_d (w ∷ ms) (suc k) h = there (among_get_d ms k (omega arith))

-- the first spelling is another than each later one
first_other : (w : Word) (ms : List Word) (k : ℕ) → k < length ms → is_some itself ms w ≡ false → same_word (get_or ms k []) w ≡ false
first_other w ms k l h =
    ⊎_elim
    (λ e. absurd (both_ways (is_some itself ms w) h (subst (λ u. is_some itself ms u ≡ true) (same_word_is (get_or ms k []) w e) (is_some_among itself (among_get_d ms k l)))))
    (λ e. e)
    (cases_Bool (same_word (get_or ms k []) w))

pub record Names (w : Word) (ms : List Word) : Type 0 where
  pub first : is_name w ≡ true
  pub other : is_some itself ms w ≡ false
  pub rest : are_names ms ≡ true

pub names_more : (w : Word) (ms : List Word) → are_names (w ∷ ms) ≡ true → Names w ms
unfolding are_names
names_more w ms h =
    let p = and_parts (is_name w && not (is_some itself ms w)) (are_names ms) h in
    let q = and_parts (is_name w) (not (is_some itself ms w)) p.0 in
    record { first = q.0; other = not-true (is_some itself ms w) q.1; rest = p.1 }

pub names_at : (ms : List Word) (k : ℕ) → are_names ms ≡ true → k < length ms → is_name (get_or ms k []) ≡ true
names_at [] k h l = absurd (omega arith)
names_at (w ∷ ms) zero h l = (names_more w ms h).first
names_at (w ∷ ms) (suc k) h l = names_at ms k (names_more w ms h).rest (omega arith)

pub place_known : (ms : List Word) (n k : ℕ) → are_names ms ≡ true → n ≤ length ms → k < n → (place (take n ms) (get_or ms k []) ≡ k) × (is_some itself (take n ms) (get_or ms k []) ≡ true)
unfolding place is_some
place_known ms zero k h l i = absurd (omega arith)
place_known [] (suc n) k h l i = absurd (omega arith)
place_known (w ∷ ms) (suc n) zero h l i = (rw (same_word_refl w), or_left _ _ (same_word_refl w))
place_known (w ∷ ms) (suc n) (suc k) h l i =
    let q = names_more w ms h in
    let r = place_known ms n k q.rest (omega arith) (omega arith) in
    (rw (first_other w ms k (omega arith) q.other) (ap suc r.0), or_right _ _ r.1)

pub place_new : (ms : List Word) (n : ℕ) → are_names ms ≡ true → n < length ms → (place (take n ms) (get_or ms n []) ≡ n) × (is_some itself (take n ms) (get_or ms n []) ≡ false)
unfolding place is_some
place_new [] n h l = absurd (omega arith)
place_new (w ∷ ms) zero h l = (refl, refl)
place_new (w ∷ ms) (suc n) h l =
    let q = names_more w ms h in
    let o = first_other w ms n (omega arith) q.other in
    let r = place_new ms n q.rest (omega arith) in (rw o (ap suc r.0), or_from _ _ o r.1)

pub take_snoc : (ms : List Word) (n : ℕ) → n < length ms → take n ms ++ get_or ms n [] ∷ [] ≡ take (suc n) ms
take_snoc [] n l = absurd (omega arith)
take_snoc (w ∷ ms) zero l = refl
take_snoc (w ∷ ms) (suc n) l = ap {B = List Word} (λ r. w ∷ r) (take_snoc ms n (omega arith))

-- where a name stands that has come, and a new one at the end
pub place_there : (ns : List Word) (w : Word) → is_some itself ns w ≡ true → (place ns w < length ns) × (get_or ns (place ns w) [] ≡ w)
unfolding place is_some
place_there [] w h = absurd (false≢true h)
place_there (u ∷ ns) w h = go (same_word w u) refl (place_there ns w)
  where
    go : (t : Bool) → same_word w u ≡ t → (is_some itself ns w ≡ true → (place ns w < length ns) × (get_or ns (place ns w) [] ≡ w)) → (pick t 0 (suc (place ns w)) < suc (length ns)) × (get_or (u ∷ ns) (pick t 0 (suc (place ns w))) [] ≡ w)
    go true e f = (omega arith, sym (same_word_is w u e))
    go false e f = let k = f (rw e at h) in (omega arith, k.1)

pub place_absent : (ns : List Word) (w : Word) → is_some itself ns w ≡ false → place ns w ≡ length ns
unfolding place is_some
place_absent [] w h = refl
place_absent (u ∷ ns) w h = let p = or_parts (same_word w u) (is_some itself ns w) h in rw p.0 (ap suc (place_absent ns w p.1))

is_some_snoc : (ns : List Word) (w u : Word) → is_some itself ns u ≡ false → same_word u w ≡ false → is_some itself (ns ++ w ∷ []) u ≡ false
unfolding is_some
is_some_snoc [] w u h o = or_from _ _ o refl
is_some_snoc (v ∷ ns) w u h o = let p = or_parts (same_word u v) (is_some itself ns u) h in or_from _ _ p.0 (is_some_snoc ns w u p.1 o)

pub are_names_snoc : (ns : List Word) (w : Word) → are_names ns ≡ true → is_name w ≡ true → is_some itself ns w ≡ false → are_names (ns ++ w ∷ []) ≡ true
unfolding are_names is_some
are_names_snoc [] w h i o = rw i
are_names_snoc (u ∷ ns) w h i o =
    let q = names_more u ns h in
    let p = or_parts (same_word w u) (is_some itself ns w) o in
    let uw : same_word u w ≡ false =
    ⊎_elim
    (λ (e : same_word u w ≡ true). absurd (both_ways (same_word w u) p.0 (subst (λ x. same_word w x ≡ true) (sym (same_word_is u w e)) (same_word_refl w))))
    (λ e. e)
    (cases_Bool (same_word u w))
    in
    and_from _ _ (and_from _ _ q.first (not_from_false _ (is_some_snoc ns w u q.other uw))) (are_names_snoc ns w q.rest i p.1)
