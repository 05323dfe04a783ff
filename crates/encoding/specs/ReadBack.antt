-- What was written is read back as itself.
use Rattle.std.specs.Prelude.{◌≡◌, ℕ, ◌^◌, ◌<◌, ◌≤◌, List, [], ◌∷◌, map, length, slice_index}
use Rattle.std.specs.List.{flat_map}
use Rattle.semantics.specs.Shapes.{size}
use Rattle.semantics.specs.Programs.{Shown, listed}
use Rattle.numbers.specs.Patterns.{Pattern}
use Rattle.encoding.specs.Format.{stop, inputs_of}
use Rattle.encoding.specs.Writing.{array_bytes}

-- a shown array that bytes can hold: at most 8 axes, lengths below 2^32, as many numbers as places, each a pattern
pub record Writable (h : Shown ℕ) : Type 0 where
  pub few : length h.shape ≤ 8
  pub short : (k : ℕ) → k < length h.shape → slice_index h.shape k < 2 ^ 32
  pub many : length h.numbers ≡ size h.shape
  pub plain : (k : ℕ) → k < length h.numbers → Pattern (slice_index h.numbers k)

-- arrays written one after another
unfoldable pub shown_bytes : List (Shown ℕ) → List ℕ
unfolding array_bytes
shown_bytes hs = flat_map (λ (h : Shown ℕ). array_bytes h.shape h.numbers) hs

pub data AllWritable : List (Shown ℕ) → Type 0 where
  none : AllWritable []
  more : {h : Shown ℕ} {hs : List (Shown ℕ)} → Writable h → AllWritable hs → AllWritable (h ∷ hs)

abbrev pub ReadBack : Type 0
ReadBack =
    (hs : List (Shown ℕ)) → AllWritable hs →
    (stop (shown_bytes hs) ≡ length (shown_bytes hs)) × (map listed (inputs_of (shown_bytes hs)) ≡ hs)
