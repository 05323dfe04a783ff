-- What holds of every run: names hold no more than the places there are, what was shown stays shown, nothing happens after a
-- fault, and more places change nothing but where they ran out.
use Rattle.std.specs.Prelude.{◌≡◌, ℕ, ◌≤◌, List, ◌++◌, ◌≢◌}
use Rattle.semantics.specs.Arrays.{Array, Numbers}
use Rattle.semantics.specs.Values.{Sizes}
use Rattle.semantics.specs.Programs.{Program, State, in_names, run, shows, ends}

-- ys is xs, and then more
pub record Begins {A : Type 0} (xs ys : List A) : Type 0 where
  pub more : List A
  pub is : ys ≡ xs ++ more

-- names that hold no more than the places there are never hold more
abbrev pub NamesWithin : Type 0 → Type 0
NamesWithin Num =
    (s : Sizes) (z : Numbers Num) (ins : List (Array Num)) (p : Program Num) (t : State Num) → in_names t.names ≤ s.places → in_names (run s z ins p t).names ≤ s.places

-- what was shown is the beginning of what is shown in the end
abbrev pub ShownStays : Type 0 → Type 0
ShownStays Num =
    (s : Sizes) (z : Numbers Num) (ins : List (Array Num)) (p : Program Num) (t : State Num) → Begins t.shown (run s z ins p t).shown

-- after a fault a program changes nothing
abbrev pub EndedStays : Type 0 → Type 0
EndedStays Num =
    (s : Sizes) (z : Numbers Num) (ins : List (Array Num)) (p : Program Num) (t : State Num) → (t.ended ≢ 0) → run s z ins p t ≡ t

-- s with m places
unfoldable pub resized : Sizes → ℕ → Sizes
resized s m = record { names = s.names; axes = s.axes; places = m }

-- places only bound: where they do not run out, more of them change nothing, and where they run out, more show at least as much
abbrev pub PlacesOnlyBound : Type 0 → Type 0
PlacesOnlyBound Num =
    (s : Sizes) (m : ℕ) (z : Numbers Num) (ins : List (Array Num)) (p : Program Num) → s.places ≤ m → ((ends s z ins p ≢ 5) → (shows (resized s m) z ins p ≡ shows s z ins p) × (ends (resized s m) z ins p ≡ ends s z ins p)) × (ends s z ins p ≡ 5 → Begins (shows s z ins p) (shows (resized s m) z ins p))
