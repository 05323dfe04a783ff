-- A part along one axis.
use Rattle.std.proofs.Common.{◌≡◌, ℕ, zero, suc, ◌+◌, ◌-◌, ◌*◌, ◌/◌, ◌%◌, ◌<◌, ◌≤◌, Bool, true, false, not, ◌&&◌, ◌||◌, eqb, ltb, leb, refl, ⊎_elim, mul-le-mul_left, mul-pos, arith}
use native.Mathlib.Nat.{mul-mod_right, mul-div_right, mul-sub, div-add-mod}
use Rattle.std.proofs.lemmas.Bool.{and_parts, and_from, or_cases, or_right, leb-true, le-leb, ltb-true, lt-ltb, eqb-true, eq-eqb}
use Rattle.semantics.specs.Shapes.{pick}
use Rattle.semantics.specs.Parts.{Part, place_of, part_fits, apart, in_part}
use Rattle.semantics.specs.PartLaws.{part_of_part}

-- x away from f, backward or forward, and how far i is away from f
abbrev pub moved : Bool → ℕ → ℕ → ℕ
moved b f x = pick b (f - x) (f + x)

abbrev pub gap : Bool → ℕ → ℕ → ℕ
gap b f i = pick b (f - i) (i - f)

abbrev pub past : Bool → ℕ → ℕ → Bool
past b f i = pick b (leb i f) (leb f i)

-- f and all places up to x away from it are places of an axis of length d
abbrev pub Reaches : Bool → ℕ → ℕ → ℕ → Type 0
Reaches true f x d = (x ≤ f) × (f < d)
Reaches false f x d = f + x < d

moved_below : (b : Bool) (f x d : ℕ) → Reaches b f x d → moved b f x < d
moved_below true f x d r = omega arith
moved_below false f x d r = omega arith

gap_moved : (b : Bool) (f x d : ℕ) → Reaches b f x d → gap b f (moved b f x) ≡ x
gap_moved true f x d r = omega arith
gap_moved false f x d r = omega arith

past_moved : (b : Bool) (f x d : ℕ) → Reaches b f x d → past b f (moved b f x) ≡ true
past_moved true f x d r = le-leb (f - x) f (omega arith)
past_moved false f x d r = le-leb f (f + x) (omega arith)

moved_gap : (b : Bool) (f i : ℕ) → past b f i ≡ true → moved b f (gap b f i) ≡ i
moved_gap true f i h = omega (arith, leb-true i f h)
moved_gap false f i h = omega (arith, leb-true f i h)

reaches_less : (b : Bool) (f x y d : ℕ) → y ≤ x → Reaches b f x d → Reaches b f y d
reaches_less true f x y d l r = omega arith
reaches_less false f x y d l r = omega arith

-- what `part_fits` tests of a part that has places
reaches_last : (b : Bool) (f x d : ℕ) → (ltb f d && pick b (leb x f) (ltb (f + x) d)) ≡ true → Reaches b f x d
reaches_last true f x d h =
    let k = and_parts (ltb f d) (leb x f) h in (leb-true x f k.1, ltb-true f d k.0)
reaches_last false f x d h = ltb-true (f + x) d (and_parts (ltb f d) (ltb (f + x) d) h).1

last_reached : (b : Bool) (f x d : ℕ) → Reaches b f x d → (ltb f d && pick b (leb x f) (ltb (f + x) d)) ≡ true
last_reached true f x d r = and_from (ltb f d) (leb x f) (lt-ltb f d r.1) (le-leb x f r.0)
last_reached false f x d r = and_from (ltb f d) (ltb (f + x) d) (lt-ltb f d (omega arith)) (lt-ltb (f + x) d r)

pub fits_step : (p : Part) (d : ℕ) → part_fits p d ≡ true → 0 < p.step
unfolding part_fits
fits_step p d h = leb-true 1 p.step (and_parts (leb 1 p.step) _ h).0

pub fits_reaches : (p : Part) (d i : ℕ) → part_fits p d ≡ true → i < p.many → Reaches p.backward p.from (p.step * i) d
unfolding part_fits
fits_reaches p d i h l =
    ⊎_elim
    (λ e. absurd (omega (arith, eqb-true p.many 0 e)))
    (λ e. reaches_less p.backward p.from (p.step * (p.many - 1)) (p.step * i) d
    (mul-le-mul_left p.step (omega arith))
    (reaches_last p.backward p.from (p.step * (p.many - 1)) d e))
    (or_cases (eqb p.many 0) _ (and_parts (leb 1 p.step) _ h).1)

pub fits_from : (p : Part) (d : ℕ) → 0 < p.step → ((i : ℕ) → i < p.many → Reaches p.backward p.from (p.step * i) d) → part_fits p d ≡ true
unfolding part_fits
fits_from p d s r =
    and_from (leb 1 p.step) _ (le-leb 1 p.step s) (some p.many r)
  where
    some : (m : ℕ) → ((i : ℕ) → i < m → Reaches p.backward p.from (p.step * i) d) →
        (eqb m 0 || (ltb p.from d && pick p.backward (leb (p.step * (m - 1)) p.from) (ltb (p.from + p.step * (m - 1)) d))) ≡ true
    some zero q = refl
    some (suc m) q = or_right (eqb (suc m) 0) _ (last_reached p.backward p.from (p.step * (suc m - 1)) d (q (suc m - 1) (omega arith)))

-- the place that a part shows at i
module _ (p : Part) (d i : ℕ) (fits : part_fits p d ≡ true) (l : i < p.many) where
  reached : Reaches p.backward p.from (p.step * i) d
  reached = fits_reaches p d i fits l

  pub place_below : place_of p i < d
  unfolding place_of
  place_below = moved_below p.backward p.from (p.step * i) d reached

  pub apart_place : apart p (place_of p i) ≡ p.step * i
  unfolding place_of apart
  apart_place = gap_moved p.backward p.from (p.step * i) d reached

  pub which_place : apart p (place_of p i) / p.step ≡ i
  which_place = rw apart_place (mul-div_right i (fits_step p d fits))

  pub past_place : past p.backward p.from (place_of p i) ≡ true
  unfolding place_of
  past_place = past_moved p.backward p.from (p.step * i) d reached

  pub in_place : in_part p (place_of p i) ≡ true
  unfolding in_part
  in_place =
      and_from _ _ past_place
      (and_from _ _ (eq-eqb (apart p (place_of p i) % p.step) 0 (rw apart_place (mul-mod_right p.step i)))
      (lt-ltb (apart p (place_of p i) / p.step) p.many (rw which_place l)))

-- what a place that is in a part is
module _ (p : Part) (i : ℕ) (isin : in_part p i ≡ true) where
  in_tells : (past p.backward p.from i ≡ true) × (apart p i % p.step ≡ 0) × (apart p i / p.step < p.many)
  unfolding in_part
  in_tells =
      let h = and_parts (past p.backward p.from i) _ isin in
      let k = and_parts (eqb (apart p i % p.step) 0) _ h.1 in
      (h.0, eqb-true (apart p i % p.step) 0 k.0, ltb-true (apart p i / p.step) p.many k.1)

  pub which_below : apart p i / p.step < p.many
  which_below = in_tells.2

  pub place_which : place_of p (apart p i / p.step) ≡ i
  unfolding place_of apart
  place_which =
      let back : p.step * (apart p i / p.step) ≡ apart p i = omega (arith, div-add-mod (apart p i) p.step, in_tells.1) in
      rw back (moved_gap p.backward p.from i in_tells.0)

steps : (x y i : ℕ) → x * y * i ≡ y * (x * i)
steps x y i = omega arith

-- p of q, both along one axis: x is how far p goes at one of its places
moved_moved : (a b : Bool) (f g x y m d : ℕ) → Reaches a f x m → Reaches b g (y * f) d → moved (pick a (not b) b) (moved b g (y * f)) (y * x) ≡ moved b g (y * moved a f x)
moved_moved true true f g x y m d r t = rw mul-sub (omega (arith, mul-le-mul_left y r.0))
moved_moved true false f g x y m d r t = rw mul-sub (omega (arith, mul-le-mul_left y r.0))
moved_moved false true f g x y m d r t = omega arith
moved_moved false false f g x y m d r t = omega arith

reaches_reaches : (a b : Bool) (f g x y m d : ℕ) → Reaches a f x m → Reaches b g (y * f) d → Reaches b g (y * moved a f x) d → Reaches (pick a (not b) b) (moved b g (y * f)) (y * x) d
reaches_reaches true true f g x y m d r t u = omega (arith, mul-le-mul_left y r.0)
reaches_reaches true false f g x y m d r t u = omega (arith, mul-le-mul_left y r.0)
reaches_reaches false true f g x y m d r t u = omega arith
reaches_reaches false false f g x y m d r t u = omega arith

reaches_from : (b : Bool) (f x d : ℕ) → Reaches b f x d → f < d
reaches_from true f x d r = r.1
reaches_from false f x d r = omega arith

module _ (p q : Part) (d : ℕ) (fitsq : part_fits q d ≡ true) (fitsp : part_fits p q.many ≡ true) where
  reach : (i : ℕ) → i < p.many → Reaches p.backward p.from (p.step * i) q.many
  reach i l = fits_reaches p q.many i fitsp l

  -- p's places are q's, its first among them
  first_reached : (i : ℕ) → i < p.many → Reaches q.backward q.from (q.step * p.from) d
  first_reached i l = fits_reaches q d p.from fitsq (reaches_from p.backward p.from (p.step * i) q.many (reach i l))

  pub part_of_part_fits : part_fits (part_of_part p q) d ≡ true
  unfolding part_of_part place_of
  part_of_part_fits =
      fits_from (part_of_part p q) d (mul-pos (fits_step p q.many fitsp) (fits_step q d fitsq))
      (λ i l. rw (steps p.step q.step i)
      (reaches_reaches p.backward q.backward p.from q.from (p.step * i) q.step q.many d
      (reach i l) (first_reached i l)
      (fits_reaches q d (place_of p i) fitsq (place_below p q.many i fitsp l))))

  pub part_of_part_place : (i : ℕ) → i < p.many → place_of (part_of_part p q) i ≡ place_of q (place_of p i)
  unfolding part_of_part place_of
  part_of_part_place i l =
      rw (steps p.step q.step i)
      (moved_moved p.backward q.backward p.from q.from (p.step * i) q.step q.many d
      (reach i l) (first_reached i l))
