-- Shapes and places. A shape is a list of lengths, a place a list of indices; places are numbered rows first.
use Rattle.std.specs.Prelude.{◌≡◌, ℕ, zero, suc, ◌+◌, ◌*◌, ◌/◌, ◌%◌, ◌<◌, Bool, true, false, ◌&&◌, List, [], ◌∷◌, length, ◌==◌, slice_index}

abbrev pub pick : {A : Type 0} → Bool → A → A → A
pick true a b = a
pick false a b = b

-- how many places a shape has
unfoldable pub size : List ℕ → ℕ
size [] = 1
size (d ∷ ds) = d * size ds

-- a place of a shape: as many indices as lengths, each below its length
unfoldable pub In : List ℕ → List ℕ → Type 0
In s is = (length is ≡ length s) × ((k : ℕ) → k < length s → slice_index is k < slice_index s k)

-- the number of a place, and the place of a number
unfoldable pub flat : List ℕ → List ℕ → ℕ
unfolding size
flat [] is = 0
flat (d ∷ ds) [] = 0
flat (d ∷ ds) (i ∷ is) = i * size ds + flat ds is

unfoldable pub unflat : List ℕ → ℕ → List ℕ
unfolding size
unflat [] n = []
unflat (d ∷ ds) n = n / size ds ∷ unflat ds (n % size ds)

-- i, i + 1, .., n of them
unfoldable pub up_to : ℕ → ℕ → List ℕ
up_to i zero = []
up_to i (suc n) = i ∷ up_to (suc i) n

unfoldable pub same : List ℕ → List ℕ → Bool
same [] [] = true
same [] (b ∷ bs) = false
same (a ∷ xs) [] = false
same (a ∷ xs) (b ∷ bs) = a == b && same xs bs

-- one axis out, one index in
unfoldable pub without : ℕ → List ℕ → List ℕ
without n [] = []
without zero (x ∷ xs) = xs
without (suc n) (x ∷ xs) = x ∷ without n xs

unfoldable pub put_in : ℕ → ℕ → List ℕ → List ℕ
put_in zero j is = j ∷ is
put_in (suc n) j [] = j ∷ []
put_in (suc n) j (i ∷ is) = i ∷ put_in n j is
