-- The numbers of an array that lies in bytes, in the order of its places.
use Rattle.std.proofs.Common.{◌≡◌, ℕ, ◌+◌, ◌*◌, ◌<◌, List, length, get_or, refl, ap, ◌∙◌, zero-add}
use Rattle.semantics.specs.Shapes.{size, unflat}
use Rattle.semantics.specs.Programs.{listed}
use Rattle.semantics.proofs.Listings.{length_numbers_at, get_d_numbers_at}
use Rattle.semantics.proofs.Places.{flat_unflat}
use Rattle.encoding.specs.Format.{shape_at, start_at, number_at, array_at}

module _ (bs : List ℕ) (i : ℕ) where
  pub shape_listed : (listed (array_at bs i)).shape ≡ shape_at bs i
  unfolding listed array_at
  shape_listed = refl

  pub length_listed : length (listed (array_at bs i)).numbers ≡ size (shape_at bs i)
  unfolding listed array_at
  length_listed = length_numbers_at (array_at bs i) 0 (size (shape_at bs i))

  pub get_d_listed : (k : ℕ) → k < size (shape_at bs i) → get_or (listed (array_at bs i)).numbers k 0 ≡ number_at bs (start_at bs i + 8 * k)
  unfolding listed array_at
  get_d_listed k low =
      get_d_numbers_at (array_at bs i) 0 (size (shape_at bs i)) k 0 low
      ∙ (ap (λ n. (array_at bs i).at (unflat (shape_at bs i) n)) (zero-add k) ∙ ap (λ n. number_at bs (start_at bs i + 8 * n)) (flat_unflat (shape_at bs i) k low))
