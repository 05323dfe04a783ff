-- Rows that are read, number by number.
use Rattle.std.proofs.Common.{◌≡◌, ℕ, suc, ◌+◌, ◌-◌, ◌*◌, ◌/◌, ◌%◌, ◌^◌, ◌<◌, ◌≤◌, List, [], ◌∷◌, ◌++◌, length, get_or, take, drop, ℤ, pos, ◌+ℤ◌, ◌*ℤ◌, nat_abs, sym, refl, ap, ◌∙◌, subst, ap₂, one-mul, arith, get_or-drop, get_or-take, w64, SFits, to_z, of_z}
use lib.IntN.{zero-*ℤ, *ℤ-zero, +ℤ_idr, +ℤ_assoc}
use lib.Ieee.{Float}
use Rattle.std.proofs.lemmas.Int.{to_z-of_z}
use Rattle.std.proofs.lemmas.Nat.{mod_below}
use Rattle.semantics.specs.Shapes.{size, flat, unflat}
use Rattle.semantics.specs.OrderLaws.{dot}
use Rattle.semantics.proofs.Places.{Inside, no_axes, axis, inside_in, in_inside, inside_unflat, flat_unflat}
use Rattle.encoding.specs.ShapeOf.{shape_of}
use Rattle.encoding.specs.Format.{number_at}
use Rattle.numbers.specs.Standing.{StandsFor}
use Rattle.views.specs.declared.view.Source.{Source}
use Rattle.views.specs.declared.view.Source.TheVariants.{Area, Input}
use Rattle.views.specs.declared.view.View.{View}
use Rattle.views.specs.Walking.{Lies}
use Rattle.views.specs.Views.{Good, Packed, Reaches, number_from, address, seen}
use Rattle.views.specs.Copying.{Walk}
use Rattle.views.proofs.Copies.{walk_lies, walk_below}
use Rattle.views.proofs.Seeing.{reaches_less, good_lies}
use Rattle.kernels.specs.declared.row.Row.{Row}
use Rattle.kernels.specs.Blocks.{at, StandFor}
use Rattle.kernels.specs.Reading.{along, RowAt}
use Rattle.kernels.proofs.Numbering.{last_some, row_inside, unflat_last, unflat_row, dot_last, length_unflat}

pub stand_same : {xs : List Float} {f g : ℕ → ℕ} → ((k : ℕ) → k < length xs → f k ≡ g k) → StandFor xs f → StandFor xs g
stand_same {xs} e s = record { each = λ k l. subst (StandsFor (at xs k)) (e k l) (s.each k l) }

pub stands_to : {x : Float} {a b : ℕ} → a ≡ b → StandsFor x a → StandsFor x b
stands_to {x} e s = subst (StandsFor x) e s

-- a word of a part
pub part_word : (area : List ℕ) (from n i : ℕ) → i < n → get_or (take (from + n - from) (drop from area)) i 0 ≡ get_or area (from + i) 0
part_word area from n i l =
    let low : i < from + n - from = omega arith in
    get_or-take (from + n - from) (drop from area) i 0 low ∙ get_or-drop from area i 0

-- a stride of 1, and of 0
pub along_run : (area bs : List ℕ) (from : ℕ) (z : ℤ) (j : ℕ) → z ≡ pos 1 → get_or area (from + j) 0 ≡ along Area area bs from z j
unfolding along number_from
along_run area bs from z j e =
    ap (λ k. get_or area k 0) (ap (λ k. from + k) (sym (one-mul j)) ∙ ap (λ x. nat_abs (pos from +ℤ x *ℤ pos j)) (sym e))

pub along_bytes : (b : ℕ) (area bs : List ℕ) (from : ℕ) (z : ℤ) (j : ℕ) → z ≡ pos 1 → number_at bs (b + 8 * from + 8 * j) ≡ along (Input b) area bs from z j
unfolding along number_from
along_bytes b area bs from z j e =
    let there : b + 8 * from + 8 * j ≡ b + 8 * (from + 1 * j) = omega arith in
    ap (number_at bs) there ∙ ap (λ x. number_at bs (b + 8 * nat_abs (pos from +ℤ x *ℤ pos j))) (sym e)

pub along_still : (o : Source) (area bs : List ℕ) (from : ℕ) (z : ℤ) (j : ℕ) → z ≡ pos 0 → number_from o area bs from ≡ along o area bs from z j
unfolding along
along_still o area bs from z j e =
    ap (λ x. number_from o area bs (nat_abs x)) (sym (+ℤ_idr (pos from)) ∙ ap (λ x. pos from +ℤ x) (sym (ap (λ y. y *ℤ pos j) e ∙ zero-*ℤ (pos j))))

pub along_area : (area bs : List ℕ) (from : ℕ) (z : ℤ) (j : ℕ) → along Area area [] from z j ≡ along Area area bs from z j
unfolding along number_from
along_area area bs from z j = refl

pub along_input : (b : ℕ) (area bs : List ℕ) (from : ℕ) (z : ℤ) (j : ℕ) → along (Input b) [] bs from z j ≡ along (Input b) area bs from z j
unfolding along number_from
along_input b area bs from z j = refl

pub along_found : (o : Source) (area bs : List ℕ) (from : ℕ) (z : ℤ) (j r : ℕ) → pos from +ℤ z *ℤ pos j ≡ pos r → number_from o area bs r ≡ along o area bs from z j
unfolding along
along_found o area bs from z j r e = ap (λ x. number_from o area bs (nat_abs x)) (sym e)

-- the first number is there
pub walk_reaches : {o : Source} {area bs : List ℕ} {n from : ℕ} {z : ℤ} → Walk o area bs (n ∷ []) (z ∷ []) from → 0 < n → Reaches o area bs (suc from)
walk_reaches {o} {area} {bs} {n} {from} {z} w l =
    let here : pos from +ℤ z *ℤ pos 0 ≡ pos from = ap (λ x. pos from +ℤ x) (*ℤ-zero z) ∙ +ℤ_idr (pos from) in
    reaches_less o area bs (walk_below w 0 l no_axes here) w.there

-- the last byte of a run
pub bytes_end : {o : Source} {b : ℕ} {area bs : List ℕ} {from n : ℕ} {z : ℤ} → o ≡ Input b → Walk o area bs (n ∷ []) (z ∷ []) from → z ≡ pos 1 → 0 < n → b + 8 * from + 8 * n ≤ length bs
bytes_end {area = area} {bs} {from} {n} {z} is w e some =
    let v = subst (λ o. Walk o area bs (n ∷ []) (z ∷ []) from) is w in
    let there = v.there in
    let last = walk_lies v (n - 1) (omega arith) no_axes in
    let same : from + 1 * (n - 1) ≡ last.word = ap nat_abs (ap (λ x. pos from +ℤ x *ℤ pos (n - 1)) (sym e) ∙ last.is) in
    omega arith

pub zero_from_bits : {z : ℤ} → SFits w64 z → of_z w64 z ≡ 0 → z ≡ pos 0
zero_from_bits {z} f e = sym (to_z-of_z w64 z f) ∙ ap (to_z w64) e

-- the places left in a row
pub row_of : (v : View) (t : List ℕ) (d n from : ℕ) (z : ℤ) → shape_of v.shape ≡ t ++ d ∷ [] → n < size (shape_of v.shape) → get_or v.strides (length t) (pos 0) ≡ z →
    address v (unflat (shape_of v.shape) n) ≡ pos from → RowAt v n (record { from = from; stride = z; left = d - n % d })
unfolding address
row_of v t d n from z whole h stride here =
    let zs = v.strides in
    let below : n < size (t ++ d ∷ []) = subst (λ s. n < size s) whole h in
    let front = unflat t (n / d) in
    record {
      some = omega (arith, mod_below n d (last_some t d n below));
      there = λ j l. subst (λ s. n + j < size s) (sym whole) (row_inside t d n j below l);
      lies = λ j l.
          ap (λ s. pos v.start +ℤ dot zs (unflat s (n + j))) whole
          ∙ (ap (λ is. pos v.start +ℤ dot zs is) (unflat_row t d n j below l)
          ∙ (ap (λ x. pos v.start +ℤ x) (dot_last zs front (n % d) j)
          ∙ (sym (+ℤ_assoc (pos v.start) (dot zs (front ++ n % d ∷ [])) (get_or zs (length front) (pos 0) *ℤ pos j))
          ∙ ap₂ (λ x y. x +ℤ y *ℤ pos j)
          (ap (λ is. pos v.start +ℤ dot zs is) (sym (unflat_last t d n below)) ∙ (ap (λ s. pos v.start +ℤ dot zs (unflat s n)) (sym whole) ∙ here))
          (ap (λ k. get_or zs k (pos 0)) (length_unflat t (n / d)) ∙ stride))));
    }

-- a row of a good view is a walk
row_walks : (v : View) (n : ℕ) (r : Row) → Good v → RowAt v n r → (m : ℕ) → m ≤ r.left → (is : List ℕ) → Inside (m ∷ []) is → Lies 0 v.high (pos r.from +ℤ dot (r.stride ∷ []) is)
unfolding dot
row_walks v n r g w m l [] h = elim h [ ]
row_walks v n r g w m l (j ∷ (i ∷ is)) (axis k h) = elim h [ ]
row_walks v n r g w m l (j ∷ []) (axis k no_axes) =
    let few : j < r.left = omega arith in
    let p = good_lies v (unflat (shape_of v.shape) (n + j)) g (in_inside (inside_unflat (shape_of v.shape) (n + j) (w.there j few))) in
    record {
      word = p.word;
      is = ap (λ x. pos r.from +ℤ x) (+ℤ_idr (r.stride *ℤ pos j)) ∙ (sym (w.lies j few) ∙ p.is);
      above = omega arith;
      below = p.below;
    }

pub row_walk : {area bs : List ℕ} (v : View) (n : ℕ) (r : Row) (m : ℕ) → Good v → Reaches v.source area bs v.high → RowAt v n r → m ≤ r.left → Walk v.source area bs (m ∷ []) (r.stride ∷ []) r.from
row_walk v n r m g there w l =
    record { high = v.high; short = g.short; there = there; walks = record { lies = λ is h. row_walks v n r g w m l is (inside_in (m ∷ []) is h) } }

pub row_seen : (area bs : List ℕ) (v : View) (n : ℕ) (r : Row) (j : ℕ) → RowAt v n r → j < r.left → along v.source area bs r.from r.stride j ≡ seen area bs v (unflat (shape_of v.shape) (n + j))
unfolding along seen
row_seen area bs v n r j w l = ap (λ x. number_from v.source area bs (nat_abs x)) (sym (w.lies j l))

-- with no gaps between its rows, the places of a view from a number on are one row
pub packed_row : (v : View) (n : ℕ) → Packed v → n < size (shape_of v.shape) → RowAt v n (record { from = v.start + n; stride = pos 1; left = size (shape_of v.shape) - n })
packed_row v n p h =
    let w = shape_of v.shape in
    record {
      some = omega arith;
      there = λ j l. omega arith;
      lies = λ j l.
          let low : n + j < size w = omega arith in
          let far : v.start + flat w (unflat w (n + j)) ≡ v.start + n + 1 * j = omega (arith, flat_unflat w (n + j) low) in
          p.far (unflat w (n + j)) (in_inside (inside_unflat w (n + j) low)) ∙ ap pos far;
    }

pub packed_short : (v : View) (n : ℕ) → Good v → Packed v → n < size (shape_of v.shape) → v.start + n < 2 ^ 62
packed_short v n g p h =
    let w = shape_of v.shape in
    let there = in_inside (inside_unflat w n h) in
    let l = good_lies v (unflat w n) g there in
    let same : v.start + flat w (unflat w n) ≡ l.word = ap nat_abs (sym (p.far (unflat w n) there) ∙ l.is) in
    omega (arith, flat_unflat w n h, g.short)
