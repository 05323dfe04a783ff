-- A text laid over a room: at each index of the room the text's byte where it reaches, else what was there. What falls outside the
-- room is left out.
use Rattle.std.specs.Prelude.{◌≡◌, ℕ, ◌+◌, List, [], ◌∷◌, length, slice_set}

unfoldable pub overlay : List ℕ → ℕ → List ℕ → List ℕ
overlay r at [] = r
overlay r at (b ∷ bs) = overlay (slice_set r at b) (at + 1) bs

-- the text is laid over the old room at an index; the new one is the index behind it
pub record Laid (old : List ℕ) (at : ℕ) (text new : List ℕ) (behind : ℕ) : Type 0 where
  pub is : new ≡ overlay old at text
  pub ends : behind ≡ at + length text

-- a beginning of the text is laid, and the rest is still to come
pub record Left (old : List ℕ) (at : ℕ) (text new : List ℕ) (behind : ℕ) (rest : List ℕ) : Type 0 where
  pub is : overlay new behind rest ≡ overlay old at text
  pub ends : behind + length rest ≡ at + length text
