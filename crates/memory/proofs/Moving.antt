-- One buffer is moved down: what becomes of the others.
use Rattle.std.proofs.Common.{◌≡◌, ℕ, ◌+◌, ◌-◌, ◌<◌, ◌≤◌, ltb, ◌⊎◌, List, length, get_or, sym, ap, ◌∙◌, subst, ap₂, inl, inr, ⊎_elim, arith, Option, None}
use Rattle.std.proofs.lemmas.List.{get_or_past}
use Rattle.std.proofs.lemmas.Bool.{cases_lt, lt-ltb, le-ltb}
use Rattle.semantics.specs.Shapes.{pick}
use Rattle.semantics.specs.Values.{Cell, none}
use Rattle.views.specs.declared.view.View.{View}
use Rattle.views.specs.Shifting.{Moved}
use Rattle.kernels.specs.Filling.{SlotHolds}
use Rattle.memory.specs.Spans.{low_of, high_of, slot_size, loose_size, GoodSlot, Fills}
use Rattle.memory.specs.Sums.{sum_of}
use Rattle.memory.specs.Tables.{Neat, Owned}
use Rattle.memory.specs.Packing.{After, moved, stays, AllAfter, Lowest, Parted, unsettled, firm, Turn}
use Rattle.memory.proofs.Adding.{sum_same, sum_gains}
use Rattle.memory.proofs.Slotted.{empty_high, fills_loose, SameIn, kept_slot}

-- ---- where a buffer lay and where it lies now
pub data Went (low high to sl sh rl rh : ℕ) : Type 0 where
  went : sl ≡ low → sh ≡ high → rl ≡ to → rh ≡ to + (high - low) → Went low high to sl sh rl rh
  under : rl ≡ sl → rh ≡ sh → sh ≤ to → Went low high to sl sh rl rh
  over : rl ≡ sl → rh ≡ sh → (sl ≡ low → sh ≡ high → ⊥) → to + (high - low) ≤ sl → Went low high to sl sh rl rh

module _ {low high to : ℕ} (some : to < high) (down : to ≤ low) (span : low ≤ high) where
  went_up : {sl sh rl rh : ℕ} → Went low high to sl sh rl rh → sl ≤ sh → rl ≤ rh
  went_up (went a b c d) h = omega arith
  went_up (under a b c) h = omega arith
  went_up (over a b n c) h = omega arith

  went_below : {sl sh rl rh : ℕ} → Went low high to sl sh rl rh → rh ≤ sh
  went_below (went a b c d) = omega arith
  went_below (under a b c) = omega arith
  went_below (over a b n c) = omega arith

  went_room : {sl sh rl rh : ℕ} → Went low high to sl sh rl rh → rh - rl ≡ sh - sl
  went_room (went a b c d) = omega arith
  went_room (under a b c) = omega arith
  went_room (over a b n c) = omega arith

  went_parted : {sl sh rl rh : ℕ} → Went low high to sl sh rl rh → to + (high - low) < rh → to + (high - low) ≤ rl
  went_parted (went a b c d) h = absurd (omega arith)
  went_parted (under a b c) h = absurd (omega arith)
  went_parted (over a b n c) h = omega arith

  went_settled : {sl sh rl rh : ℕ} → Went low high to sl sh rl rh → sh ≤ to → rh ≤ to + (high - low)
  went_settled (went a b c d) h = omega arith
  went_settled (under a b c) h = omega arith
  went_settled (over a b n c) h = omega arith

  went_unsettled : {sl sh rl rh : ℕ} → Went low high to sl sh rl rh → to + (high - low) < rh → to < sh
  went_unsettled (went a b c d) h = absurd (omega arith)
  went_unsettled (under a b c) h = absurd (omega arith)
  went_unsettled (over a b n c) h = omega arith

  went_here : {sl sh rl rh : ℕ} → Went low high to sl sh rl rh → sl ≡ low → sh ≡ high → (rl ≡ to) × (rh ≡ to + (high - low))
  went_here (went a b c d) e f = (c, d)
  went_here (under a b c) e f = absurd (omega arith)
  went_here (over a b n c) e f = absurd (n e f)

  went_same : {sl sh rl rh tl th ul uh : ℕ} → Went low high to sl sh rl rh → Went low high to tl th ul uh → sl ≡ tl → sh ≡ th → (rl ≡ ul) × (rh ≡ uh)
  went_same (went a b c d) w e f = let h = went_here w (omega arith) (omega arith) in (omega (arith, h.0), omega (arith, h.1))
  went_same (under a b c) (went p q r s) e f = absurd (omega arith)
  went_same (over a b m c) (went p q r s) e f = absurd (m (omega arith) (omega arith))
  went_same (under a b c) (under p q r) e f = (omega arith, omega arith)
  went_same (under a b c) (over p q n r) e f = (omega arith, omega arith)
  went_same (over a b m c) (under p q r) e f = (omega arith, omega arith)
  went_same (over a b m c) (over p q n r) e f = (omega arith, omega arith)

  stay_apart : {sl sh rl rh tl th ul uh : ℕ} → rl ≡ sl → rh ≡ sh → ul ≡ tl → uh ≡ th → ((sl ≡ tl) × (sh ≡ th)) ⊎ ((sh ≤ tl) ⊎ (th ≤ sl)) → ((rl ≡ ul) × (rh ≡ uh)) ⊎ ((rh ≤ ul) ⊎ (uh ≤ rl))
  stay_apart a b c d o = ⊎_elim (λ p. inl (omega (arith, p.0), omega (arith, p.1))) (λ q. inr (⊎_elim (λ l. inl (omega arith)) (λ l. inr (omega arith)) q)) o

  went_apart : {sl sh rl rh tl th ul uh : ℕ} → Went low high to sl sh rl rh → Went low high to tl th ul uh → ((sl ≡ tl) × (sh ≡ th)) ⊎ ((sh ≤ tl) ⊎ (th ≤ sl)) → ((rl ≡ ul) × (rh ≡ uh)) ⊎ ((rh ≤ ul) ⊎ (uh ≤ rl))
  went_apart (went a b c d) (went p q r s) o = inl (omega arith, omega arith)
  went_apart (went a b c d) (under p q r) o = inr (inr (omega arith))
  went_apart (went a b c d) (over p q n r) o = inr (inl (omega arith))
  went_apart (under a b c) (went p q r s) o = inr (inl (omega arith))
  went_apart (over a b m c) (went p q r s) o = inr (inr (omega arith))
  went_apart (under a b c) (under p q r) o = stay_apart a b p q o
  went_apart (under a b c) (over p q n r) o = stay_apart a b p q o
  went_apart (over a b m c) (under p q r) o = stay_apart a b p q o
  went_apart (over a b m c) (over p q n r) o = stay_apart a b p q o

-- ---- counts
unsettled_falls : (to far : ℕ) (s r : Option View) → (far < high_of r → to < high_of s) → unsettled far r ≤ unsettled to s
unfolding unsettled
unsettled_falls to far s r h =
    ⊎_elim
    (λ l.
    let e = ap (λ b. pick {A = ℕ} b 1 0) (lt-ltb far (high_of r) l) in
    let f = ap (λ b. pick {A = ℕ} b 1 0) (lt-ltb to (high_of s) (h l)) in
    omega (arith, e, f))
    (λ l. let e = ap (λ b. pick {A = ℕ} b 1 0) (le-ltb far (high_of r) l) in omega (arith, e))
    (cases_lt far (high_of r))

unsettled_less : (to far : ℕ) (s r : Option View) → to < high_of s → high_of r ≤ far → unsettled far r + 1 ≤ unsettled to s
unfolding unsettled
unsettled_less to far s r h l =
    let e = ap (λ b. pick {A = ℕ} b 1 0) (le-ltb far (high_of r) l) in
    let f = ap (λ b. pick {A = ℕ} b 1 0) (lt-ltb to (high_of s) h) in
    omega (arith, e, f)

pub firm_above : (to : ℕ) (s : Option View) → to < high_of s → firm to s ≡ 0
unfolding firm
firm_above to s h = ap (λ b. pick b 0 (slot_size s - loose_size s)) (lt-ltb to (high_of s) h)

pub firm_under : (to : ℕ) (s : Option View) → high_of s ≤ to → firm to s ≡ slot_size s - loose_size s
unfolding firm
firm_under to s h = ap (λ b. pick b 0 (slot_size s - loose_size s)) (le-ltb to (high_of s) h)

firm_holds : (to far : ℕ) (s r : Option View) → slot_size r ≡ slot_size s → loose_size r ≡ loose_size s → (high_of s ≤ to → high_of r ≤ far) → firm to s ≤ firm far r
firm_holds to far s r e f h = ⊎_elim (λ l. omega (arith, firm_above to s l)) (λ l. omega (arith, firm_under to s l, firm_under far r (h l))) (cases_lt to (high_of s))

firm_gains : (to far : ℕ) (s r : Option View) → slot_size r ≡ slot_size s → loose_size r ≡ loose_size s → to < high_of s → high_of r ≤ far → Fills s → firm to s + (high_of s - low_of s) ≤ firm far r
unfolding Fills
firm_gains to far s r e f h l fills = omega (arith, firm_above to s h, firm_under far r l, fills_loose s fills)

loose_same : (s r : Option View) → slot_size r ≡ slot_size s → high_of r - low_of r ≡ high_of s - low_of s → loose_size r ≡ loose_size s
unfolding loose_size
loose_same s r e f = ap₂ (λ n m. pick (ltb n m) n 0) e f

fills_same : (s r : Option View) → slot_size r ≡ slot_size s → high_of r - low_of r ≡ high_of s - low_of s → Fills s → Fills r
unfolding Fills
fills_same s r e f h = omega arith

after_size : {low high to : ℕ} {s r : Option View} → After low high to s r → slot_size r ≡ slot_size s
after_size (moved m) = m.size
after_size (stays n e) = ap slot_size e

after_good : {low high to : ℕ} {s r : Option View} → After low high to s r → GoodSlot s → GoodSlot r
after_good (moved m) g = m.good
after_good (stays n e) g = subst GoodSlot (sym e) g

after_went : {low high to : ℕ} {s r : Option View} → After low high to s r → ((low_of s ≡ low → high_of s ≡ high → ⊥) → (high_of s ≤ to) ⊎ (to + (high - low) ≤ low_of s)) →
    Went low high to (low_of s) (high_of s) (low_of r) (high_of r)
after_went (moved m) h = went m.from_low m.from_high m.now_low m.now_high
after_went (stays n e) h = ⊎_elim (λ l. under (ap low_of e) (ap high_of e) l) (λ l. over (ap low_of e) (ap high_of e) n l) (h n)

-- ---- the move
pub record Move (old-area new-area : List ℕ) (old new : List (Option View)) (to k low high : ℕ) : Type 0 where
  pub neat : Neat old (length old-area)
  pub parted : Parted old to
  pub lowest : Lowest old to k
  pub low_is : low ≡ low_of (get_or old k None)
  pub high_is : high ≡ high_of (get_or old k None)
  pub after : AllAfter low high to old new
  pub long : length new-area ≡ length old-area
  pub words : (i : ℕ) → i < high - low → get_or new-area (to + i) 0 ≡ get_or old-area (low + i) 0
  pub before : (i : ℕ) → i < to → get_or new-area i 0 ≡ get_or old-area i 0
  pub behind : (i : ℕ) → to + (high - low) ≤ i → get_or new-area i 0 ≡ get_or old-area i 0

module _ {old-area new-area : List ℕ} {old new : List (Option View)} {to k low high : ℕ} (m : Move old-area new-area old new to k low high) where
  some : to < high
  some = omega (arith, m.high_is, m.lowest.above)

  pub down : to ≤ low
  down = omega (arith, m.low_is, m.parted.above k m.lowest.above)

  pub span : low ≤ high
  span = omega (arith, m.low_is, m.high_is, m.neat.up k)

  at : (j : ℕ) → After low high to (get_or old j None) (get_or new j None)
  at j =
      ⊎_elim (λ l. m.after.each j l)
      (λ l.
      let e = get_or_past old j None l in
      let f = get_or_past new j None (omega (arith, m.after.many)) in
      stays (λ a b. omega (arith, some, ap high_of e, empty_high)) (f ∙ sym e))
      (cases_lt j (length old))

  -- a buffer besides the one that is moved is settled, or lies above its new place
  beside : (j : ℕ) → (low_of (get_or old j None) ≡ low → high_of (get_or old j None) ≡ high → ⊥) → (high_of (get_or old j None) ≤ to) ⊎ (to + (high - low) ≤ low_of (get_or old j None))
  beside j n =
      let up = span in
      let low_is = m.low_is in
      let high_is = m.high_is in
      let begins = down in
      ⊎_elim
      (λ l.
      let least = m.lowest.least j l in
      let begin-here = m.parted.above j l in
      inr
      (⊎_elim (λ p. absurd (n (sym (m.low_is ∙ p.0)) (sym (m.high_is ∙ p.1))))
      (λ q. ⊎_elim (λ a. omega arith) (λ a. omega arith) q)
      (m.neat.apart k j)))
      inl
      (cases_lt to (high_of (get_or old j None)))

  lies : (j : ℕ) → Went low high to (low_of (get_or old j None)) (high_of (get_or old j None)) (low_of (get_or new j None)) (high_of (get_or new j None))
  lies j = after_went (at j) (beside j)

  moved_words : Moved old-area new-area low high to
  moved_words = record { room = omega (arith, m.long, m.high_is, m.neat.below k, down, span); same = m.words }

  same_in : (j : ℕ) → (high_of (get_or old j None) ≤ to) ⊎ (to + (high - low) ≤ low_of (get_or old j None)) → SameIn old-area new-area (low_of (get_or old j None)) (high_of (get_or old j None))
  same_in j o =
      record {
        room = omega (arith, m.long, m.neat.below j);
        same = λ i l h. ⊎_elim (λ a. m.before i (omega arith)) (λ a. m.behind i (omega arith)) o;
      }

  holds_at : (bs : List ℕ) (cell : Cell ℕ) (j : ℕ) → SlotHolds old-area bs (get_or old j None) cell → SlotHolds new-area bs (get_or new j None) cell
  holds_at bs cell j h =
      elim (at j) [
        | moved s ↦ s.holds old-area new-area bs cell moved_words h
        | stays n e ↦ subst (λ s. SlotHolds new-area bs s cell) (sym e) (kept_slot (same_in j (beside j n)) h)
      ]

  size_at : (j : ℕ) → slot_size (get_or new j None) ≡ slot_size (get_or old j None)
  size_at j = after_size (at j)

  room_at : (j : ℕ) → high_of (get_or new j None) - low_of (get_or new j None) ≡ high_of (get_or old j None) - low_of (get_or old j None)
  room_at j = went_room some down span (lies j)

  loose_at : (j : ℕ) → loose_size (get_or new j None) ≡ loose_size (get_or old j None)
  loose_at j = loose_same (get_or old j None) (get_or new j None) (size_at j) (room_at j)

  owned_on : Owned old → Owned new
  owned_on o =
      record {
        owner = λ j h.
            let w = o.owner j (omega (arith, m.after.many)) in
            let same = went_same some down span (lies w.who) (lies j) w.low w.high in
            record {
              who = w.who;
              there = omega (arith, w.there, m.after.many);
              low = same.0;
              high = same.1;
              fills = fills_same (get_or old w.who None) (get_or new w.who None) (size_at w.who) (room_at w.who) w.fills;
            };
      }

  firm_at : (j : ℕ) → firm to (get_or old j None) ≤ firm (to + (high - low)) (get_or new j None)
  firm_at j = firm_holds to (to + (high - low)) (get_or old j None) (get_or new j None) (size_at j) (loose_at j) (went_settled some down span (lies j))

  firm_on : Owned old → sum_of (firm to) old + (high - low) ≤ sum_of (firm (to + (high - low))) new
  firm_on o =
      let w = o.owner k m.lowest.there in
      let high-there : high_of (get_or old w.who None) ≡ high = w.high ∙ sym m.high_is in
      let low-there : low_of (get_or old w.who None) ≡ low = w.low ∙ sym m.low_is in
      let here = went_here some down span (lies w.who) low-there high-there in
      let gain = firm_gains to (to + (high - low)) (get_or old w.who None) (get_or new w.who None) (size_at w.who) (loose_at w.who) (omega (arith, some)) (omega (arith, here.1)) w.fills in
      sum_gains (firm to) (firm (to + (high - low))) old new w.who (high - low) m.after.many (λ j h. firm_at j) w.there (omega arith)

  fewer_at : (j : ℕ) → unsettled (to + (high - low)) (get_or new j None) ≤ unsettled to (get_or old j None)
  fewer_at j = unsettled_falls to (to + (high - low)) (get_or old j None) (get_or new j None) (went_unsettled some down span (lies j))

  fewer_on : sum_of (unsettled (to + (high - low))) new + 1 ≤ sum_of (unsettled to) old
  fewer_on =
      let many = m.after.many in
      let there = m.lowest.there in
      let here = went_here some down span (lies k) (sym m.low_is) (sym m.high_is) in
      sum_gains (unsettled (to + (high - low))) (unsettled to) new old k 1 (sym many) (λ j h. fewer_at j) (omega arith) (unsettled_less to (to + (high - low)) (get_or old k None) (get_or new k None) m.lowest.above (omega (arith, here.1)))

  neat_on : (top : ℕ) → Neat old top → Neat new top
  neat_on top n =
      record {
        good = λ j. after_good (at j) (n.good j);
        up = λ j. went_up some down span (lies j) (n.up j);
        below = λ j. omega (arith, went_below some down span (lies j), n.below j);
        apart = λ i j. went_apart some down span (lies i) (lies j) (n.apart i j);
      }

  pub turn : Turn old-area new-area old new to (to + (high - low))
  turn =
      record {
        up = omega arith;
        tabled = λ bs ns t. record { each = λ j. holds_at bs (get_or ns j none) j (t.each j) };
        many = m.after.many;
        neat = neat_on;
        under = λ top n. omega (arith, m.high_is, n.below k, down, span);
        parted = record { above = λ j. went_parted some down span (lies j) };
        fewer = omega (arith, fewer_on);
        held = sum_same slot_size old new m.after.many (λ j h. size_at j);
        loose = sum_same loose_size old new m.after.many (λ j h. loose_at j);
        owned = owned_on;
        firm_grows = λ o. omega (arith, firm_on o);
        fills = λ f. record { each = λ j. fills_same (get_or old j None) (get_or new j None) (size_at j) (room_at j) (f.each j) };
      }
