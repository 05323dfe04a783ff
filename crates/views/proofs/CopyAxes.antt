-- Places axis by axis: the first axis, and the places behind it.
use Rattle.std.proofs.Common.{◌≡◌, ℕ, zero, suc, ◌+◌, ◌-◌, ◌*◌, ◌/◌, ◌<◌, ◌≤◌, List, [], ◌∷◌, ◌++◌, length, get_or, take, drop, set, ℤ, pos, ◌+ℤ◌, ◌*ℤ◌, nat_abs, sym, refl, ap, ◌∙◌, subst, add-zero, mul-le-mul_right, add-mul, one-mul, mul-one, arith, length-drop, length-take, w64, SFits, to_z, of_z, below_more}
use native.Mathlib.Nat.{mul-div_right}
use borrow.Rule.Slice.PartMut.{put_mid}
use lib.IntN.{+ℤ_assoc}
use Rattle.std.proofs.lemmas.Int.{to_z-of_z}
use Rattle.std.proofs.lemmas.List.{get_or_append_left, get_or-append_right, get_or-take, length-take-le, nil_from_length}
use Rattle.std.proofs.lemmas.Slice.{first_rest}
use Rattle.semantics.specs.Shapes.{size, In, flat, unflat}
use Rattle.semantics.specs.OrderLaws.{dot}
use Rattle.semantics.proofs.Places.{Inside, no_axes, axis, inside_in, in_inside, inside_unflat, flat_below}
use Rattle.views.specs.declared.view.Source.{Source}
use Rattle.views.specs.Walking.{Lies, Walks}
use Rattle.views.specs.Views.{Reaches, number_from}
use Rattle.views.specs.Copying.{Walk, Copied}
use Rattle.views.proofs.Walks.{dot_none, walks_from, lies_same}
use Rattle.views.proofs.Rows.{no_place}
use Rattle.views.proofs.Seeing.{reaches_less}

-- a list without its first, as the code cuts it
abbrev pub rest : {A : Type 0} → List A → List A
rest xs = take (length xs - 1) (drop 1 xs)

pub copied_none : {o : Source} {area bs s : List ℕ} {zs : List ℤ} {from : ℕ} {out : List ℕ} → size s ≡ 0 → Copied o area bs s zs from out
copied_none {s = s} e = record { each = λ is h. absurd (no_place (inside_in s is h) e) }

-- no axes: one place
pub walk_point : {o : Source} {area bs s : List ℕ} {zs : List ℤ} {from : ℕ} → Walk o area bs s zs from → length s ≡ 0 → Reaches o area bs (suc from)
walk_point {o} {area} {bs} {s} {zs} {from} w e =
    let here : Lies 0 w.high (pos from) = walks_from (subst (λ t. Walks 0 w.high t zs (pos from)) (nil_from_length s e) w.walks) no_axes in
    let same : from ≡ here.word = ap nat_abs here.is in
    reaches_less o area bs (omega arith) w.there

point_here : (o : Source) (area bs : List ℕ) (zs : List ℤ) (from x : ℕ) (out is : List ℕ) → 0 < length out → x ≡ number_from o area bs from → Inside [] is →
    get_or (set out 0 x) (flat [] is) 0 ≡ number_from o area bs (nat_abs (pos from +ℤ dot zs is))
unfolding flat
point_here o area bs zs from x [] is some e h = absurd (omega arith)
point_here o area bs zs from x (y ∷ out) (i ∷ is) some e h = elim h [ ]
point_here o area bs zs from x (y ∷ out) [] some e no_axes =
    e ∙ ap (λ n. number_from o area bs n) (sym (ap (λ z. nat_abs (pos from +ℤ z)) (dot_none zs) ∙ add-zero from))

pub copied_point : {o : Source} {area bs s : List ℕ} {zs : List ℤ} {from : ℕ} (x : ℕ) (out : List ℕ) → length s ≡ 0 → 0 < length out → x ≡ number_from o area bs from → Copied o area bs s zs from (set out 0 x)
copied_point {o} {area} {bs} {s} {zs} {from} x out e some f =
    subst (λ t. Copied o area bs t zs from (set out 0 x)) (sym (nil_from_length s e))
    (record { each = λ is h. point_here o area bs zs from x out is some f (inside_in [] is h) })

-- one axis: a row, which only the first stride goes through
dot_first : (z : ℤ) (zs : List ℤ) (d : ℕ) (is : List ℕ) → Inside (d ∷ []) is → dot (z ∷ []) is ≡ dot (z ∷ zs) is
unfolding dot
dot_first z zs d [] h = elim h [ ]
dot_first z zs d (i ∷ (j ∷ is)) (axis l h) = elim h [ ]
dot_first z zs d (i ∷ []) (axis l no_axes) = ap (λ x. z *ℤ pos i +ℤ x) (sym (dot_none zs))

module _ {o : Source} {area bs : List ℕ} {from : ℕ} where
  pub row_walk : (s : List ℕ) (zs : List ℤ) (n : ℕ) → Walk o area bs s zs from → length s ≡ 1 → 1 ≤ length zs → n ≡ size s → SFits w64 (get_or zs 0 (pos 0)) → Walk o area bs (n ∷ []) (to_z w64 (of_z w64 (get_or zs 0 (pos 0))) ∷ []) from
  unfolding size
  row_walk [] zs n w e l many f = absurd (omega arith)
  row_walk (d ∷ (b ∷ s)) zs n w e l many f = absurd (omega arith)
  row_walk (d ∷ []) [] n w e l many f = absurd (omega arith)
  row_walk (d ∷ []) (z ∷ zs) n w e l many f =
      let walk : Walk o area bs (d ∷ []) (z ∷ []) from
      = record { high = w.high; short = w.short; there = w.there; walks = record { lies = λ is h. lies_same (ap (λ x. pos from +ℤ x) (sym (dot_first z zs d is (inside_in (d ∷ []) is h)))) (w.walks.lies is h) } }
      in
      subst (λ m. Walk o area bs (m ∷ []) (to_z w64 (of_z w64 z) ∷ []) from) (sym (many ∙ mul-one d)) (subst (λ y. Walk o area bs (d ∷ []) (y ∷ []) from) (sym (to_z-of_z w64 z f)) walk)

  pub row_copied : (s : List ℕ) (zs : List ℤ) (n : ℕ) (out : List ℕ) → length s ≡ 1 → 1 ≤ length zs → n ≡ size s → SFits w64 (get_or zs 0 (pos 0)) → Copied o area bs (n ∷ []) (to_z w64 (of_z w64 (get_or zs 0 (pos 0))) ∷ []) from out → Copied o area bs s zs from out
  unfolding size
  row_copied [] zs n out e l many f k = absurd (omega arith)
  row_copied (d ∷ (b ∷ s)) zs n out e l many f k = absurd (omega arith)
  row_copied (d ∷ []) [] n out e l many f k = absurd (omega arith)
  row_copied (d ∷ []) (z ∷ zs) n out e l many f k =
      let row : Copied o area bs (d ∷ []) (z ∷ []) from out
      = subst (λ y. Copied o area bs (d ∷ []) (y ∷ []) from out) (to_z-of_z w64 z f) (subst (λ m. Copied o area bs (m ∷ []) (to_z w64 (of_z w64 z) ∷ []) from out) (many ∙ mul-one d) k)
      in
      record { each = λ is h. row.each is h ∙ ap (λ x. number_from o area bs (nat_abs (pos from +ℤ x))) (dot_first z zs d is (inside_in (d ∷ []) is h)) }

  -- the first axis, and the others
  pub walk_split : {s : List ℕ} {zs : List ℤ} → Walk o area bs s zs from → 0 < length s → 0 < length zs → Walk o area bs (get_or s 0 0 ∷ rest s) (get_or zs 0 (pos 0) ∷ rest zs) from
  walk_split {s} {zs} w l m =
      subst (λ t. Walk o area bs t (get_or zs 0 (pos 0) ∷ rest zs) from) (first_rest s 0 l) (subst (λ ys. Walk o area bs s ys from) (first_rest zs (pos 0) m) w)

  pub copied_join : {s : List ℕ} {zs : List ℤ} {out : List ℕ} → 0 < length s → 0 < length zs → Copied o area bs (get_or s 0 0 ∷ rest s) (get_or zs 0 (pos 0) ∷ rest zs) from out → Copied o area bs s zs from out
  copied_join {s} {zs} {out} l m w =
      subst (λ t. Copied o area bs t zs from out) (sym (first_rest s 0 l)) (subst (λ ys. Copied o area bs (get_or s 0 0 ∷ rest s) ys from out) (sym (first_rest zs (pos 0) m)) w)

-- how many places the first axis and the others have
pub record Split (s : List ℕ) (n : ℕ) : Type 0 where
  pub some : 0 < get_or s 0 0
  pub below : n / get_or s 0 0 ≡ size (rest s)
  pub behind : 0 < size (rest s)
  pub whole : n ≡ get_or s 0 0 * size (rest s)

factors : (d m : ℕ) → 0 < d * m → (0 < d) × (0 < m)
factors zero m h = absurd (omega arith)
factors (suc d) zero h = absurd (omega arith)
factors (suc d) (suc m) h = (omega arith, omega arith)

pub split : (s : List ℕ) (n : ℕ) → 0 < length s → n ≡ size s → 0 < n → Split s n
unfolding size
split s n l e some =
    let whole : n ≡ get_or s 0 0 * size (rest s) = e ∙ ap size (first_rest s 0 l) in
    let both = factors (get_or s 0 0) (size (rest s)) (omega arith) in
    record { some = both.0; below = ap (λ m. m / get_or s 0 0) whole ∙ mul-div_right (size (rest s)) both.0; behind = both.1; whole = whole }

pub split_place : {s : List ℕ} {n : ℕ} → Split s n → Inside (rest s) (unflat (rest s) 0)
split_place {s} p = inside_unflat (rest s) 0 p.behind

-- part i of d parts of m numbers each
pub part_fits : (i d m n : ℕ) → i < d → n ≡ d * m → i * m + m ≤ n
part_fits i d m n l e =
    let more : suc i * m ≤ d * m = mul-le-mul_right m (omega arith) in
    omega (arith, add-mul i 1 m, one-mul m, ap (λ k. k * m) (native_suc i))
  where
    native_suc : (k : ℕ) → k + 1 ≡ suc k
    native_suc k = omega arith

-- a write to a part: what lies before it is as it was, and the part holds what was written
pub get_d_before : (a k n : ℕ) (xs ys : List ℕ) → a ≤ length xs → n < a → get_or (put_mid a k xs ys) n 0 ≡ get_or xs n 0
get_d_before a k n xs ys l h =
    let front = length-take-le a xs l in
    get_or_append_left (take a xs) (ys ++ drop k (drop a xs)) 0 n (omega arith) ∙ get_or-take a xs n 0 h

pub get_d_inside_part : (a k n : ℕ) (xs ys : List ℕ) → a ≤ length xs → n < length ys → get_or (put_mid a k xs ys) (a + n) 0 ≡ get_or ys n 0
get_d_inside_part a k n xs ys l h =
    let front = length-take-le a xs l in
    get_or-append_right (take a xs) (ys ++ drop k (drop a xs)) a (a + n) 0 front (omega arith)
    ∙ (ap (λ m. get_or (ys ++ drop k (drop a xs)) m 0) (omega arith) ∙ get_or_append_left ys (drop k (drop a xs)) 0 n h)

-- one more part of the first axis
pub axes_more : (f : ℕ → List ℕ → ℕ) (t : List ℕ) (m i k : ℕ) (out part : List ℕ) → m ≡ size t → i * m + m ≤ length out → length part ≡ m →
    ((j : ℕ) → j < i → (is : List ℕ) → In t is → get_or out (j * m + flat t is) 0 ≡ f j is) → ((is : List ℕ) → In t is → get_or part (flat t is) 0 ≡ f i is) →
    (j : ℕ) → j < i + 1 → (is : List ℕ) → In t is → get_or (put_mid (i * m) k out part) (j * m + flat t is) 0 ≡ f j is
axes_more f t m i k out part e fits long before here =
    below_more (λ j. (is : List ℕ) → In t is → get_or (put_mid (i * m) k out part) (j * m + flat t is) 0 ≡ f j is) i
    (λ j l is h.
    let low = flat_below (inside_in t is h) in
    let below = part_fits j i m (i * m) l refl in
    get_d_before (i * m) k (j * m + flat t is) out part (omega arith) (omega arith) ∙ before j l is h)
    (λ is h.
    let low = flat_below (inside_in t is h) in
    get_d_inside_part (i * m) k (flat t is) out part (omega arith) (omega arith) ∙ here is h)

axes_here : (o : Source) (area bs t : List ℕ) (ys : List ℤ) (from d m : ℕ) (z : ℤ) (out is : List ℕ) → m ≡ size t →
    ((j : ℕ) → j < d → (js : List ℕ) → In t js → get_or out (j * m + flat t js) 0 ≡ number_from o area bs (nat_abs (pos from +ℤ z *ℤ pos j +ℤ dot ys js))) →
    Inside (d ∷ t) is → get_or out (flat (d ∷ t) is) 0 ≡ number_from o area bs (nat_abs (pos from +ℤ dot (z ∷ ys) is))
unfolding flat dot
axes_here o area bs t ys from d m z out [] e all h = elim h [ ]
axes_here o area bs t ys from d m z out (j ∷ js) e all (axis l h) =
    ap (λ n. get_or out (j * n + flat t js) 0) (sym e) ∙ (all j l js (in_inside h) ∙ ap (λ x. number_from o area bs (nat_abs x)) (+ℤ_assoc (pos from) (z *ℤ pos j) (dot ys js)))

-- all parts of the first axis
pub axes_done : {o : Source} {area bs t : List ℕ} {ys : List ℤ} {from d : ℕ} {z : ℤ} {out : List ℕ} (m : ℕ) → m ≡ size t →
    ((j : ℕ) → j < d → (is : List ℕ) → In t is → get_or out (j * m + flat t is) 0 ≡ number_from o area bs (nat_abs (pos from +ℤ z *ℤ pos j +ℤ dot ys is))) → Copied o area bs (d ∷ t) (z ∷ ys) from out
axes_done {o} {area} {bs} {t} {ys} {from} {d} {z} {out} m e all = record { each = λ is h. axes_here o area bs t ys from d m z out is e all (inside_in (d ∷ t) is h) }

-- what the copy of the places behind index i says
pub axes_part : {o : Source} {area bs t : List ℕ} {ys : List ℤ} {r : ℕ} {z : ℤ} {part : List ℕ} (from i : ℕ) → SFits w64 z → pos from +ℤ to_z w64 (of_z w64 z) *ℤ pos i ≡ pos r → Copied o area bs t ys r part →
    (is : List ℕ) → In t is → get_or part (flat t is) 0 ≡ number_from o area bs (nat_abs (pos from +ℤ z *ℤ pos i +ℤ dot ys is))
axes_part {o} {area} {bs} {t} {ys} {r} {z} from i f e w is h =
    w.each is h ∙ ap (λ x. number_from o area bs (nat_abs (x +ℤ dot ys is))) (sym e ∙ ap (λ y. pos from +ℤ y *ℤ pos i) (to_z-of_z w64 z f))

-- a part as the code cuts it
pub length_mid : (a m : ℕ) (xs : List ℕ) → a + m ≤ length xs → length (take (a + m - a) (drop a xs)) ≡ m
length_mid a m xs h = length-take (a + m - a) (drop a xs) ∙ omega (arith, length-drop a xs)

pub length_rest : {A : Type 0} (xs : List A) → length (rest xs) ≡ length xs - 1
length_rest xs = length-take (length xs - 1) (drop 1 xs) ∙ omega (arith, length-drop 1 xs)
