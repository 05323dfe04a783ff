-- Parts of arrays, axis by axis.
use Rattle.std.proofs.Common.{◌≡◌, ℕ, ◌<◌, true, List, [], ◌∷◌, sym, refl, ap, ap₂}
use mathlib.Core.Bool.{false≢true}
use Rattle.std.proofs.lemmas.Bool.{and_parts, and_from}
use Rattle.semantics.specs.Parts.{Part, part_fits, parts_fit, part_shape, places_of, in_part, in_parts, which_one}
use Rattle.semantics.specs.Arrays.{Alike, part_array}
use Rattle.semantics.specs.PartLaws.{PartPlaces, PartPlacesBack, part_of_part, parts_of_parts, PartOfPart, PartOfPartAlike}
use Rattle.semantics.proofs.Places.{Inside, no_axes, axis, inside_in, in_inside}
use Rattle.semantics.proofs.Axes.{place_below, which_place, in_place, which_below, place_which, part_of_part_fits, part_of_part_place}

-- the same as `parts_fit`, for proofs by induction
pub data Fitted : List Part → List ℕ → Type 0 where
  fitted_none : Fitted [] []
  fitted_more : {p : Part} {d : ℕ} {ps : List Part} {ds : List ℕ} → part_fits p d ≡ true → Fitted ps ds → Fitted (p ∷ ps) (d ∷ ds)

pub fitted : (ps : List Part) (s : List ℕ) → parts_fit ps s ≡ true → Fitted ps s
unfolding parts_fit
fitted [] [] h = fitted_none
fitted [] (d ∷ ds) h = absurd (false≢true h)
fitted (p ∷ ps) [] h = absurd (false≢true h)
fitted (p ∷ ps) (d ∷ ds) h = let k = and_parts (part_fits p d) (parts_fit ps ds) h in fitted_more k.0 (fitted ps ds k.1)

-- a place of a part that fits, axis by axis
pub data Shown : List Part → List ℕ → List ℕ → Type 0 where
  shown_none : Shown [] [] []
  shown_more : {p : Part} {d i : ℕ} {ps : List Part} {ds is : List ℕ} → part_fits p d ≡ true → i < p.many → Shown ps ds is → Shown (p ∷ ps) (d ∷ ds) (i ∷ is)

pub shown : {ps : List Part} {s is : List ℕ} → Fitted ps s → Inside (part_shape ps) is → Shown ps s is
unfolding part_shape
shown fitted_none no_axes = shown_none
shown (fitted_more f r) (axis l h) = shown_more f l (shown r h)

pub inside_places : {ps : List Part} {s is : List ℕ} → Shown ps s is → Inside s (places_of ps is)
unfolding places_of
inside_places shown_none = no_axes
inside_places (shown_more {p} {d} {i} f l h) = axis (place_below p d i f l) (inside_places h)

pub in_parts_places : {ps : List Part} {s is : List ℕ} → Shown ps s is → in_parts ps (places_of ps is) ≡ true
unfolding places_of in_parts
in_parts_places shown_none = refl
in_parts_places (shown_more {p} {d} {i} f l h) = and_from _ _ (in_place p d i f l) (in_parts_places h)

pub which_one_places : {ps : List Part} {s is : List ℕ} → Shown ps s is → which_one ps (places_of ps is) ≡ is
unfolding places_of which_one
which_one_places shown_none = refl
which_one_places (shown_more {p} {d} {i} f l h) = ap₂ ◌∷◌ (which_place p d i f l) (which_one_places h)

pub part_places : PartPlaces
part_places ps s is f h =
    let k = shown (fitted ps s f) (inside_in (part_shape ps) is h) in
    (in_inside (inside_places k), in_parts_places k, which_one_places k)

pub inside_which_one : {ps : List Part} {s is : List ℕ} → Fitted ps s → Inside s is → in_parts ps is ≡ true → Inside (part_shape ps) (which_one ps is)
unfolding in_parts part_shape which_one
inside_which_one fitted_none no_axes h = no_axes
inside_which_one (fitted_more {p} f r) (axis {i = i} l g) h =
    let k = and_parts (in_part p i) _ h in
    axis (which_below p i k.0) (inside_which_one r g k.1)

pub places_which_one : {ps : List Part} {s is : List ℕ} → Fitted ps s → Inside s is → in_parts ps is ≡ true → places_of ps (which_one ps is) ≡ is
unfolding in_parts places_of which_one
places_which_one fitted_none no_axes h = refl
places_which_one (fitted_more {p} f r) (axis {i = i} l g) h =
    let k = and_parts (in_part p i) _ h in
    ap₂ ◌∷◌ (place_which p i k.0) (places_which_one r g k.1)

pub part_places_back : PartPlacesBack
part_places_back ps s is f h b =
    let g = fitted ps s f in
    let k = inside_in s is h in
    (in_inside (inside_which_one g k b), places_which_one g k b)

parts_of_parts_fit : {ps qs : List Part} {s : List ℕ} → Fitted qs s → Fitted ps (part_shape qs) → parts_fit (parts_of_parts ps qs) s ≡ true
unfolding part_shape parts_of_parts parts_fit
parts_of_parts_fit fitted_none fitted_none = refl
parts_of_parts_fit (fitted_more {p = q} {d} f r) (fitted_more {p} g t) = and_from _ _ (part_of_part_fits p q d f g) (parts_of_parts_fit r t)

parts_of_parts_shape : {ps qs : List Part} {s : List ℕ} → Fitted qs s → Fitted ps (part_shape qs) → part_shape (parts_of_parts ps qs) ≡ part_shape ps
unfolding part_shape parts_of_parts part_of_part
parts_of_parts_shape fitted_none fitted_none = refl
parts_of_parts_shape (fitted_more {p = q} {d} f r) (fitted_more {p} g t) = ap (λ ds. p.many ∷ ds) (parts_of_parts_shape r t)

parts_of_parts_places : {ps qs : List Part} {s is : List ℕ} → Fitted qs s → Shown ps (part_shape qs) is → places_of (parts_of_parts ps qs) is ≡ places_of qs (places_of ps is)
unfolding part_shape parts_of_parts places_of
parts_of_parts_places fitted_none shown_none = refl
parts_of_parts_places (fitted_more {p = q} {d} f r) (shown_more {p} {i = i} g l h) = ap₂ ◌∷◌ (part_of_part_place p q d f g i l) (parts_of_parts_places r h)

pub part_of_part_is_part : PartOfPart
part_of_part_is_part ps qs s f g =
    let r = fitted qs s f in
    let t = fitted ps (part_shape qs) g in
    (parts_of_parts_fit r t, parts_of_parts_shape r t, λ is h. parts_of_parts_places r (shown t (inside_in (part_shape ps) is h)))

pub part_of_part_alike : (Num : Type 0) → PartOfPartAlike Num
unfolding Alike part_array
part_of_part_alike Num ps qs a f g =
    let k = part_of_part_is_part ps qs a.shape f g in
    (sym k.1, λ is h. ap a.at (sym (k.2 is h)))
