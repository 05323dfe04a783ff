-- Inputs by their number.
use Rattle.std.proofs.Common.{◌≡◌, ℕ, zero, suc, ◌+◌, ◌*◌, ◌<◌, ◌≤◌, List, [], ◌∷◌, map, length, get_or, refl, ap, arith}
use Rattle.semantics.specs.Shapes.{size}
use Rattle.semantics.specs.Arrays.{Array}
use Rattle.semantics.specs.Values.{none, some, given}
use Rattle.encoding.specs.declared.header.Header.{Header}
use Rattle.encoding.specs.ShapeOf.{shape_of}
use Rattle.encoding.specs.Format.{array_at, offsets, inputs_of}
use Rattle.encoding.specs.Inputs.{Found}
use Rattle.encoding.proofs.Formats.{next_at_is}
use Rattle.encoding.proofs.Rows.{good_at_parts}

given_there : {A : Type 0} (f : A → Array ℕ) (xs : List A) (k : ℕ) (d : A) → k < length xs → given (map f xs) k ≡ some (f (get_or xs k d))
unfolding given
given_there f [] k d h = absurd (omega arith)
given_there f (x ∷ xs) zero d h = refl
given_there f (x ∷ xs) (suc k) d h = given_there f xs k d (omega arith)

given_past : {A : Type 0} (f : A → Array ℕ) (xs : List A) (k : ℕ) → length xs ≤ k → given (map f xs) k ≡ none
unfolding given
given_past f [] k h = refl
given_past f (x ∷ xs) zero h = absurd (omega arith)
given_past f (x ∷ xs) (suc k) h = given_past f xs k (omega arith)

pub no_input : (bs : List ℕ) (k : ℕ) → length (offsets bs) ≤ k → given (inputs_of bs) k ≡ none
unfolding inputs_of
no_input bs k h = given_past (array_at bs) (offsets bs) k h

pub an_input : (bs : List ℕ) (k : ℕ) (h : Header) → Found bs k h → given (inputs_of bs) k ≡ some (array_at bs (get_or (offsets bs) k 0))
unfolding inputs_of
an_input bs k h f = given_there (array_at bs) (offsets bs) k 0 f.there

-- it has the places of its head
pub input_size : (bs : List ℕ) (k : ℕ) (h : Header) → Found bs k h → size (shape_of h.shape) ≡ size (array_at bs (get_or (offsets bs) k 0)).shape
unfolding array_at
input_size bs k h f = ap size f.heads.shaped

-- and it lies within the bytes
pub input_within : (bs : List ℕ) (k : ℕ) (h : Header) → Found bs k h → h.start + 8 * size (shape_of h.shape) ≤ length bs
input_within bs k h f =
    let i = get_or (offsets bs) k 0 in
    omega (arith, (good_at_parts bs i f.heads.good).1, next_at_is bs i, f.heads.starts, ap size f.heads.shaped)
