-- Leaves: which view a name or an input is, and what the view shows where it is broadcast.
use Rattle.std.proofs.Common.{◌≡◌, ℕ, zero, suc, ◌+◌, ◌-◌, ◌*◌, ◌/◌, ◌%◌, ◌<◌, ◌≤◌, eqb, List, [], ◌∷◌, ◌++◌, map, length, get_or, take, drop, pos, ◌+ℤ◌, nat_abs, sym, refl, ap, ◌∙◌, subst, ⊎_elim, add-mul, one-mul, div-add-mod', arith, length-append, Option, Some, None}
use lib.IntN.{+ℤ_idr}
use lib.Ieee.{Float}
use Rattle.std.proofs.lemmas.Nat.{mod-mul-add}
use Rattle.std.proofs.lemmas.List.{get_or_past}
use Rattle.std.proofs.lemmas.Bool.{cases_lt, ne_eqb}
use Rattle.semantics.specs.Shapes.{pick, size, In, unflat}
use Rattle.semantics.specs.Broadcast.{narrow, pinned}
use Rattle.semantics.specs.Arrays.{Array}
use Rattle.semantics.specs.Values.{Cell, none, some, given}
use Rattle.semantics.proofs.Places.{Inside, no_axes, inside_in, in_inside, inside_unflat}
use Rattle.semantics.proofs.Inside.{Spreads, inside_narrow}
use Rattle.encoding.specs.ShapeOf.{shape_of}
use Rattle.encoding.specs.Format.{inputs_of, offsets, array_at}
use Rattle.views.specs.declared.view.View.{View}
use Rattle.views.specs.Views.{Good, Reaches, Holds, address, number_from, seen}
use Rattle.views.proofs.Walks.{dot_none}
use Rattle.views.proofs.Seeing.{reaches_less, good_lies}
use Rattle.views.specs.Broadcasting.{Spread, broadcast_array}
use Rattle.kernels.specs.Blocks.{StandFor}
use Rattle.kernels.specs.Trees.{cell_number, Leaf, CellLeaf, leaf}
use Rattle.kernels.specs.Filling.{SlotHolds, empty, held, NameReady, CellFilled}
use Rattle.kernels.proofs.Narrowing.{spreads_few, narrow_own}
use Rattle.kernels.proofs.Readings.{stand_same}
use Rattle.kernels.proofs.Numbering.{unflat_last}

pub spread_of : {s w : List ℕ} → Spreads s w → Spread s w
spread_of {s} {w} p = record { few = spreads_few p; inside = λ is h. in_inside (inside_narrow p (inside_in w is h)) }

pub broadcast_filled : {area bs : List ℕ} {r : View} {a : Array ℕ} {w : List ℕ} {first : ℕ} {out : List Float} → Holds area bs r (broadcast_array w a) → first + length out ≤ size w →
    StandFor out (λ k. seen area bs r (unflat (shape_of r.shape) (first + k))) → CellFilled w first out (some a)
unfolding broadcast_array cell_number
broadcast_filled {area} {bs} {r} {a} {w} {first} {out} h few s =
    record {
      stand = stand_same
          (λ k l.
          let there : In w (unflat w (first + k)) = in_inside (inside_unflat w (first + k) (omega arith)) in
          ap (λ t. seen area bs r (unflat t (first + k))) h.shaped ∙ h.shows (unflat w (first + k)) (subst (λ t. In t (unflat w (first + k))) (sym h.shaped) there))
          s;
    }

-- what a view shows in its own shape
pub own_number : {area bs : List ℕ} {v : View} {a : Array ℕ} {w : List ℕ} (n : ℕ) → Holds area bs v a → shape_of v.shape ≡ w → n < size w → seen area bs v (unflat (shape_of v.shape) n) ≡ cell_number (some a) (unflat w n)
unfolding cell_number
own_number {v = v} {a} n h same l =
    let t = shape_of v.shape in
    let there = inside_unflat t n (subst (λ u. n < size u) (sym same) l) in
    h.shows (unflat t n) (in_inside there)
    ∙ (ap a.at (sym (narrow_own (subst (λ u. Inside u (unflat t n)) h.shaped there))) ∙ ap (λ u. a.at (narrow a.shape (unflat u n))) same)

pub own_filled : {area bs : List ℕ} {v : View} {a : Array ℕ} {w : List ℕ} {first : ℕ} {out : List Float} → Holds area bs v a → shape_of v.shape ≡ w → first + length out ≤ size w →
    StandFor out (λ k. seen area bs v (unflat (shape_of v.shape) (first + k))) → CellFilled w first out (some a)
own_filled {first = first} h same few s = record { stand = stand_same (λ k l. own_number (first + k) h same (omega arith)) s }

-- a view without axes has one number, where it starts
at_start : (v : View) → address v [] ≡ pos v.start
unfolding address
at_start v = ap (λ z. pos v.start +ℤ z) (dot_none v.strides) ∙ +ℤ_idr (pos v.start)

no_axis : (v : View) → v.shape.rank ≡ 0 → shape_of v.shape ≡ []
no_axis v e = ap (λ r. take r v.shape.lens) e

pub single_there : (area bs : List ℕ) (v : View) → v.shape.rank ≡ 0 → Good v → Reaches v.source area bs v.high → Reaches v.source area bs (suc v.start)
single_there area bs v e g r =
    let l = good_lies v [] g (subst (λ s. In s []) (sym (no_axis v e)) (in_inside no_axes)) in
    let same : v.start ≡ l.word = ap nat_abs (sym (at_start v) ∙ l.is) in
    reaches_less v.source area bs (omega (arith, l.below)) r

pub single_filled : {area bs : List ℕ} {v : View} {a : Array ℕ} {w : List ℕ} {first : ℕ} {out : List Float} → Holds area bs v a → v.shape.rank ≡ 0 → StandFor out (λ _. number_from v.source area bs v.start) → CellFilled w first out (some a)
unfolding cell_number narrow seen pinned
single_filled {area} {bs} {v} {a} {w} {first} {out} h e s =
    let there : In (shape_of v.shape) [] = subst (λ t. In t []) (sym (no_axis v e)) (in_inside no_axes) in
    let none_left : a.shape ≡ [] = sym h.shaped ∙ no_axis v e in
    record {
      stand = stand_same
          (λ k l.
          ap (λ z. number_from v.source area bs (nat_abs z)) (sym (at_start v))
          ∙ (h.shows [] there ∙ ap (λ t. a.at (pinned t (drop (length (unflat w (first + k)) - length t) (unflat w (first + k))))) (sym none_left)))
          s;
    }

-- ---- names
pub record SlotView (area bs w : List ℕ) (slot : Option View) (cell : Cell ℕ) : Type 0 where
  pub view : View
  pub array : Array ℕ
  pub slot_is : slot ≡ Some view
  pub cell_is : cell ≡ some array
  pub holds : Holds area bs view array
  pub leaf_is : Leaf w array

pub slot_view : {area bs w : List ℕ} {slot : Option View} {cell : Cell ℕ} → SlotHolds area bs slot cell → CellLeaf w cell → SlotView area bs w slot cell
slot_view empty l = elim l [ ]
slot_view (held {v} {a} h) (leaf l) = record { view = v; array = a; slot_is = refl; cell_is = refl; holds = h; leaf_is = l }

-- what a slot that holds a view stands for
pub record CellArray (area bs : List ℕ) (view : View) (cell : Cell ℕ) : Type 0 where
  pub array : Array ℕ
  pub cell_is : cell ≡ some array
  pub holds : Holds area bs view array

pub slot_cell : {area bs : List ℕ} {view : View} {slot : Option View} {cell : Cell ℕ} → slot ≡ Some view → SlotHolds area bs slot cell → CellArray area bs view cell
slot_cell e empty = absurd (let z : ◌≡◌ {A = ℕ} 0 1 = cc in omega arith)
slot_cell {area} {bs} {view} e (held {v} {a} h) =
    let same : v ≡ view = cc in
    record { array = a; cell_is = refl; holds = subst (λ x. Holds area bs x a) same h }

-- an element that is there, whatever stands for one that is not
pub get_d_any : (xs : List (Option View)) (k : ℕ) (d e : Option View) → k < length xs → get_or xs k d ≡ get_or xs k e
get_d_any [] k d e h = absurd (omega arith)
get_d_any (x ∷ xs) zero d e h = refl
get_d_any (x ∷ xs) (suc k) d e h = get_d_any xs k d e (omega arith)

no_held : {view : View} → Some view ≡ None → ⊥
no_held e = let z : ◌≡◌ {A = ℕ} 0 1 = cc in omega arith

-- a name that has numbers is one of the table's
pub name_view : {table : List (Option View)} {area bs w : List ℕ} {k : ℕ} → (q : NameReady table area bs w k) → SlotView area bs w (get_or table k None) (get_or q.names k none)
name_view {k = k} q = slot_view (q.tabled.each k) q.leaf

pub name_below : {table : List (Option View)} {area bs w : List ℕ} {k : ℕ} → NameReady table area bs w k → k < length table
name_below {table} {k = k} q =
    ⊎_elim (λ l. l) (λ l. absurd (no_held (sym (name_view q).slot_is ∙ get_or_past table k None l))) (cases_lt k (length table))

-- ---- inputs
given_map : (f : ℕ → Array ℕ) (xs : List ℕ) (k : ℕ) → k < length xs → given (map f xs) k ≡ some (f (get_or xs k 0))
unfolding given
given_map f [] k h = absurd (omega arith)
given_map f (x ∷ xs) zero h = refl
given_map f (x ∷ xs) (suc k) h = given_map f xs k (omega arith)

given_past : (f : ℕ → Array ℕ) (xs : List ℕ) (k : ℕ) → length xs ≤ k → given (map f xs) k ≡ none
unfolding given
given_past f [] k h = refl
given_past f (x ∷ xs) zero h = absurd (omega arith)
given_past f (x ∷ xs) (suc k) h = given_past f xs k (omega arith)

pub input_there : (bs : List ℕ) (k : ℕ) → k < length (offsets bs) → given (inputs_of bs) k ≡ some (array_at bs (get_or (offsets bs) k 0))
unfolding inputs_of
input_there bs k h = given_map (array_at bs) (offsets bs) k h

pub input_not : {w : List ℕ} (bs : List ℕ) (k : ℕ) → length (offsets bs) ≤ k → CellLeaf w (given (inputs_of bs) k) → ⊥
unfolding inputs_of
input_not {w} bs k h l = go (subst (CellLeaf w) (given_past (array_at bs) (offsets bs) k h) l)
  where
    go : CellLeaf w none → ⊥
    go m = elim m [ ]

pub cell_leaf : {w : List ℕ} {cell : Cell ℕ} (b : Array ℕ) → cell ≡ some b → CellLeaf w cell → Leaf w b
cell_leaf {w} b e (leaf {a} l) = let same : a ≡ b = cc in subst (Leaf w) same l

-- ---- counting
pub mod_round : (n d : ℕ) → n % d + 1 ≡ d → 0 ≡ (n + 1) % d
mod_round n d e =
    let some : 0 < d = omega arith in
    let same : n + 1 ≡ (n / d + 1) * d + 0 = omega (arith, div-add-mod' n d, add-mul (n / d) 1 d, one-mul d) in
    sym (ap (λ m. m % d) same ∙ mod-mul-add (n / d + 1) d 0 some)

pub mod_next : (n d : ℕ) → n % d + 1 < d → n % d + 1 ≡ (n + 1) % d
mod_next n d l =
    let same : n + 1 ≡ n / d * d + (n % d + 1) = omega (arith, div-add-mod' n d) in
    sym (ap (λ m. m % d) same ∙ mod-mul-add (n / d) d (n % d + 1) l)

drop_front : (xs ys : List ℕ) → drop (length xs) (xs ++ ys) ≡ ys
drop_front [] ys = refl
drop_front (x ∷ xs) ys = drop_front xs ys

-- one axis sees the last index
pub narrow_front : (m i : ℕ) (is : List ℕ) → narrow (m ∷ []) (is ++ i ∷ []) ≡ pinned (m ∷ []) (i ∷ [])
unfolding narrow
narrow_front m i is =
    let e : length (is ++ i ∷ []) - 1 ≡ length is = omega (arith, length-append is (i ∷ [])) in
    ap (λ n. pinned (m ∷ []) (drop n (is ++ i ∷ []))) e ∙ ap (pinned (m ∷ [])) (drop_front is (i ∷ []))

narrow_last : (m i : ℕ) (is : List ℕ) → get_or (narrow (m ∷ []) (is ++ i ∷ [])) 0 0 ≡ pick (eqb m 1) 0 i
unfolding pinned
narrow_last m i is = ap (λ v. get_or v 0 0) (narrow_front m i is)

pub count_last : (m : ℕ) (t : List ℕ) (d n : ℕ) → n < size (t ++ d ∷ []) → get_or (narrow (m ∷ []) (unflat (t ++ d ∷ []) n)) 0 0 ≡ pick (eqb m 1) 0 (n % d)
count_last m t d n h = ap (λ is. get_or (narrow (m ∷ []) is) 0 0) (unflat_last t d n h) ∙ narrow_last m (n % d) (unflat t (n / d))

-- one number alone, or the last index
pub count_one : (m n : ℕ) → m ≡ 1 → pick (eqb m 1) 0 n ≡ 0
count_one m n e = ap (λ k. pick (eqb k 1) 0 n) e

pub count_more : (m n : ℕ) → (m ≡ 1 → ⊥) → pick (eqb m 1) 0 n ≡ n
count_more m n h = ap (λ b. pick b 0 n) (ne_eqb m 1 h)
