-- What holds of parts: their places are places of the array, each once, and a part of a part is a part.
use Rattle.std.specs.Prelude.{◌≡◌, ℕ, ◌*◌, true, not, List, [], ◌∷◌}
use Rattle.semantics.specs.Shapes.{pick, In}
use Rattle.semantics.specs.Parts.{Part, place_of, parts_fit, part_shape, places_of, in_parts, which_one}
use Rattle.semantics.specs.Arrays.{Array, Alike, part_array}

-- each place of a part that fits shows a place of the array, which is in the part as that one
abbrev pub PartPlaces : Type 0
PartPlaces =
    (ps : List Part) (s is : List ℕ) → parts_fit ps s ≡ true → In (part_shape ps) is →
    In s (places_of ps is) × (in_parts ps (places_of ps is) ≡ true) × (which_one ps (places_of ps is) ≡ is)

-- each place of the array that is in a part is shown by a place of the part
abbrev pub PartPlacesBack : Type 0
PartPlacesBack =
    (ps : List Part) (s is : List ℕ) → parts_fit ps s ≡ true → In s is → in_parts ps is ≡ true →
    In (part_shape ps) (which_one ps is) × (places_of ps (which_one ps is) ≡ is)

-- p of q, as one part
unfoldable pub part_of_part : Part → Part → Part
unfolding place_of
part_of_part p q =
    record {
      from = place_of q p.from;
      backward = pick p.backward (not q.backward) q.backward;
      step = p.step * q.step;
      many = p.many;
    }

-- the same along each axis
unfoldable pub parts_of_parts : List Part → List Part → List Part
unfolding part_of_part
parts_of_parts [] qs = []
parts_of_parts (p ∷ ps) [] = []
parts_of_parts (p ∷ ps) (q ∷ qs) = part_of_part p q ∷ parts_of_parts ps qs

-- a part of a part is a part of the array, with the shape and the places of the part of the part
abbrev pub PartOfPart : Type 0
PartOfPart =
    (ps qs : List Part) (s : List ℕ) → parts_fit qs s ≡ true → parts_fit ps (part_shape qs) ≡ true →
    (parts_fit (parts_of_parts ps qs) s ≡ true) × (part_shape (parts_of_parts ps qs) ≡ part_shape ps) ×
    ((is : List ℕ) → In (part_shape ps) is → places_of (parts_of_parts ps qs) is ≡ places_of qs (places_of ps is))

-- a part of a part of an array is alike that one part of the array
abbrev pub PartOfPartAlike : Type 0 → Type 0
PartOfPartAlike Num =
    (ps qs : List Part) (a : Array Num) → parts_fit qs a.shape ≡ true → parts_fit ps (part_shape qs) ≡ true →
    Alike (part_array ps (part_array qs a)) (part_array (parts_of_parts ps qs) a)
