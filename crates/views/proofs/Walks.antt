-- Addresses, one axis after another.
use Rattle.std.proofs.Common.{◌≡◌, ℕ, zero, suc, ◌+◌, ◌^◌, ◌<◌, List, [], ◌∷◌, length, get_or, drop, ℤ, pos, ◌+ℤ◌, ◌*ℤ◌, neg_ℤ, sym, refl, ap, ◌∙◌, subst, ap₂, arith, w64, SFits}
use lib.IntN.{*ℤ-zero, +ℤ_idr, +ℤ_assoc}
use Rattle.std.proofs.lemmas.List.{drop_more}
use Rattle.std.proofs.lemmas.Int.{ints}
use Rattle.semantics.specs.OrderLaws.{dot}
use Rattle.semantics.proofs.Places.{Inside, no_axes, axis, inside_in, in_inside}
use Rattle.views.specs.Walking.{Lies, Walks}

pub dot_more : (z : ℤ) (zs : List ℤ) (i : ℕ) (is : List ℕ) → dot (z ∷ zs) (i ∷ is) ≡ z *ℤ pos i +ℤ dot zs is
unfolding dot
dot_more z zs i is = refl

pub dot_none : (zs : List ℤ) → dot zs [] ≡ pos 0
unfolding dot
dot_none [] = refl
dot_none (z ∷ zs) = refl

-- the first place of a shape that has places
abbrev pub zeros : List ℕ → List ℕ
zeros [] = []
zeros (d ∷ ds) = 0 ∷ zeros ds

pub inside_zeros : {s is : List ℕ} → Inside s is → Inside s (zeros s)
inside_zeros no_axes = no_axes
inside_zeros (axis l h) = axis (omega arith) (inside_zeros h)

pub dot_zeros : (zs : List ℤ) (s : List ℕ) → dot zs (zeros s) ≡ pos 0
unfolding dot
dot_zeros [] s = refl
dot_zeros (z ∷ zs) [] = refl
dot_zeros (z ∷ zs) (d ∷ s) = let e = *ℤ-zero z in let f = dot_zeros zs s in omega (arith, ints)

module _ {low high : ℕ} where
  pub lies_same : {y z : ℤ} → y ≡ z → Lies low high y → Lies low high z
  lies_same e l = record { word = l.word; is = sym e ∙ l.is; above = l.above; below = l.below }

  pub walks_inside : {s is : List ℕ} {zs : List ℤ} {from : ℤ} → Walks low high s zs from → Inside s is → Lies low high (from +ℤ dot zs is)
  walks_inside {is = is} w h = w.lies is (in_inside h)

  pub walks_from : {s is : List ℕ} {zs : List ℤ} {from : ℤ} → Walks low high s zs from → Inside s is → Lies low high from
  walks_from {s} {zs = zs} {from} w h = lies_same (ap (λ x. from +ℤ x) (dot_zeros zs s) ∙ +ℤ_idr from) (walks_inside w (inside_zeros h))

  pub walks_more : {d i : ℕ} {s : List ℕ} {z : ℤ} {zs : List ℤ} {from : ℤ} → Walks low high (d ∷ s) (z ∷ zs) from → i < d → Walks low high s zs (from +ℤ z *ℤ pos i)
  walks_more {d} {i} {s} {z} {zs} {from} w l =
      record {
        lies = λ is h.
            lies_same (ap (λ x. from +ℤ x) (dot_more z zs i is) ∙ sym (+ℤ_assoc from (z *ℤ pos i) (dot zs is))) (walks_inside w (axis l (inside_in s is h)));
      }

  -- between two addresses
  pub apart_fits : {y x : ℤ} → high < 2 ^ 62 → Lies low high y → Lies low high (y +ℤ x) → SFits w64 x
  apart_fits h l m = record { sfits = grind (arith, ints) }

  pub back_fits : {y : ℤ} (x : ℤ) → high < 2 ^ 62 → Lies low high y → Lies low high (y +ℤ x) → SFits w64 (neg_ℤ x)
  back_fits x h l m = record { sfits = grind (arith, ints) }

  pub lies_fits : {y : ℤ} → high < 2 ^ 62 → Lies low high y → SFits w64 y
  lies_fits h l = record { sfits = grind (arith, ints) }

pub inside_drop_at : {s is : List ℕ} (k : ℕ) → Inside s is → Inside (drop k s) (drop k is)
inside_drop_at zero h = h
inside_drop_at (suc k) no_axes = no_axes
inside_drop_at (suc k) (axis l h) = inside_drop_at k h

pub dot_drop : (zs : List ℤ) (is : List ℕ) (k : ℕ) → k < length zs → k < length is →
    dot (drop k zs) (drop k is) ≡ get_or zs k (pos 0) *ℤ pos (get_or is k 0) +ℤ dot (drop (k + 1) zs) (drop (k + 1) is)
dot_drop zs is k l m =
    ap₂ dot (drop_more zs k (pos 0) l) (drop_more is k 0 m) ∙ dot_more (get_or zs k (pos 0)) (drop (k + 1) zs) (get_or is k 0) (drop (k + 1) is)

-- what holds of the sum so far after axis k
pub record Stepped (low high : ℕ) (s : List ℕ) (zs : List ℤ) (k i : ℕ) (at : ℤ) : Type 0 where
  pub far : SFits w64 (get_or zs k (pos 0) *ℤ pos i)
  pub sum : SFits w64 (at +ℤ get_or zs k (pos 0) *ℤ pos i)
  pub walks : Walks low high (drop (k + 1) s) (drop (k + 1) zs) (at +ℤ get_or zs k (pos 0) *ℤ pos i)

pub stepped : {low high : ℕ} {s : List ℕ} {zs : List ℤ} {at : ℤ} {is : List ℕ} (k i : ℕ) → high < 2 ^ 62 → k < length s → k < length zs → i < get_or s k 0 → Inside (drop (k + 1) s) is →
    Walks low high (drop k s) (drop k zs) at → Stepped low high s zs k i at
stepped {low} {high} {s} {zs} {at} {is} k i short l m below h w =
    let cons : Walks low high (get_or s k 0 ∷ drop (k + 1) s) (get_or zs k (pos 0) ∷ drop (k + 1) zs) at
    = subst (λ xs. Walks low high xs (get_or zs k (pos 0) ∷ drop (k + 1) zs) at) (drop_more s k 0 l) (subst (λ ys. Walks low high (drop k s) ys at) (drop_more zs k (pos 0) m) w)
    in
    let next = walks_more cons below in
    let here = walks_from cons (axis below h) in
    let there = walks_from next h in
    record { far = apart_fits short here there; sum = lies_fits short there; walks = next }
