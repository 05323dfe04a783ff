-- A place seen from a narrower shape, and from a still narrower one.
use Rattle.std.proofs.Common.{◌≡◌, ℕ, suc, ◌+◌, ◌-◌, ◌<◌, ◌≤◌, eqb, ◌⊎◌, List, [], ◌∷◌, ◌++◌, length, drop, sym, refl, ap, ◌∙◌, subst, ap₂, inl, inr, append_assoc, arith, length-append, length-drop}
use Rattle.std.proofs.lemmas.List.{drop-drop}
use Rattle.semantics.specs.Shapes.{pick}
use Rattle.semantics.specs.Broadcast.{pinned, narrow}
use Rattle.semantics.proofs.Places.{Inside, no_axes, axis, length_inside}
use Rattle.semantics.proofs.Inside.{Spreads, Under, none_under, under}

pub length_under : {s t : List ℕ} → Under s t → length s ≡ length t
length_under none_under = refl
length_under (under e h) = ap suc (length_under h)

under_refl : (s : List ℕ) → Under s s
under_refl [] = none_under
under_refl (a ∷ s) = under (inr refl) (under_refl s)

one_of : (a b c : ℕ) → (a ≡ 1) ⊎ (a ≡ b) → (b ≡ 1) ⊎ (b ≡ c) → (a ≡ 1) ⊎ (a ≡ c)
one_of a b c (inl e) f = inl e
one_of a b c (inr e) (inl f) = inl (e ∙ f)
one_of a b c (inr e) (inr f) = inr (e ∙ f)

under_trans : {s t u : List ℕ} → Under s t → Under t u → Under s u
under_trans none_under none_under = none_under
under_trans (under e h) (under f k) = under (one_of _ _ _ e f) (under_trans h k)

-- under two lists one behind the other
record Split (b l m : List ℕ) : Type 0 where
  front : List ℕ
  back : List ℕ
  whole : m ≡ front ++ back
  fits_front : Under b front
  fits_back : Under l back

split : (b l m : List ℕ) → Under (b ++ l) m → Split b l m
split [] l m h = record { front = []; back = m; whole = refl; fits_front = none_under; fits_back = h }
split (a ∷ b) l [] h = elim h [ ]
split (a ∷ b) l (c ∷ m) (under e h) =
    let r = split b l m h in
    record { front = c ∷ r.front; back = r.back; whole = ap (λ v. c ∷ v) r.whole; fits_front = under e r.fits_front; fits_back = r.fits_back }

pub spreads_refl : (s : List ℕ) → Spreads s s
spreads_refl s = record { before = []; last = s; whole = refl; fits = under_refl s }

pub spreads_trans : {s t w : List ℕ} → Spreads s t → Spreads t w → Spreads s w
spreads_trans {s} {t} {w} p q =
    let r = split p.before p.last q.last (subst (λ v. Under v q.last) p.whole q.fits) in
    record {
      before = q.before ++ r.front;
      last = r.back;
      whole = q.whole ∙ (ap (λ v. q.before ++ v) r.whole ∙ sym (append_assoc q.before r.front r.back));
      fits = under_trans p.fits r.fits_back;
    }

-- pinned once and again
pick_again : (a b i : ℕ) → (a ≡ 1) ⊎ (a ≡ b) → pick (eqb a 1) 0 (pick (eqb b 1) 0 i) ≡ pick (eqb a 1) 0 i
pick_again a b i h = grind arith

pinned_pinned : {s t : List ℕ} (is : List ℕ) → Under s t → pinned s (pinned t is) ≡ pinned s is
unfolding pinned
pinned_pinned is none_under = refl
pinned_pinned [] (under e h) = refl
pinned_pinned (i ∷ is) (under {a} {b} e h) = ap₂ (λ x xs. x ∷ xs) (pick_again a b i e) (pinned_pinned is h)

drop_pinned : (b l is : List ℕ) → length (b ++ l) ≤ length is → drop (length b) (pinned (b ++ l) is) ≡ pinned l (drop (length b) is)
unfolding pinned
drop_pinned [] l is h = refl
drop_pinned (a ∷ b) l [] h = absurd (omega arith)
drop_pinned (a ∷ b) l (i ∷ is) h = drop_pinned b l is (omega arith)

length_pinned : (s is : List ℕ) → length s ≤ length is → length (pinned s is) ≡ length s
unfolding pinned
length_pinned [] is h = refl
length_pinned (d ∷ s) [] h = absurd (omega arith)
length_pinned (d ∷ s) (i ∷ is) h = ap suc (length_pinned s is (omega arith))

pub spreads_few : {s w : List ℕ} → Spreads s w → length s ≤ length w
spreads_few h = omega (arith, ap length h.whole, length-append h.before h.last, length_under h.fits)

pub narrow_narrow : {s t : List ℕ} (is : List ℕ) → Spreads s t → length t ≤ length is → narrow s (narrow t is) ≡ narrow s is
unfolding narrow
narrow_narrow {s} {t} is p few =
    let b = p.before in
    let l = p.last in
    let m = length is - length t in
    let js = drop m is in
    let lt : length t ≡ length b + length l = ap length p.whole ∙ length-append b l in
    let ls = length_under p.fits in
    let lj : length js ≡ length t = length-drop m is ∙ omega arith in
    let lp : length (pinned t js) ≡ length t = length_pinned t js (omega arith) in
    let gap : length (pinned t js) - length s ≡ length b = omega arith in
    let e : drop (length b) (pinned t js) ≡ pinned l (drop (length b) js) = ap (λ v. drop (length b) (pinned v js)) p.whole ∙ drop_pinned b l js (omega (arith, length-append b l)) in
    ap (λ n. pinned s (drop n (pinned t js))) gap
    ∙ (ap (pinned s) e ∙ (pinned_pinned (drop (length b) js) p.fits ∙ ap (pinned s) (drop-drop (length b) m is ∙ ap (λ n. drop n is) (omega arith))))

-- a place of the shape itself
pinned_own : {s is : List ℕ} → Inside s is → pinned s is ≡ is
unfolding pinned
pinned_own no_axes = refl
pinned_own (axis {d} {i} l h) = ap₂ (λ x xs. x ∷ xs) (below_one d i l) (pinned_own h)
  where
    below_one : (d i : ℕ) → i < d → pick (eqb d 1) 0 i ≡ i
    below_one d i l = grind arith

pub narrow_own : {s is : List ℕ} → Inside s is → narrow s is ≡ is
unfolding narrow
narrow_own {s} {is} h =
    let e : length is - length s ≡ 0 = omega (arith, length_inside h) in
    ap (λ n. pinned s (drop n is)) e ∙ pinned_own h
