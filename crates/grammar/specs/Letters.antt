-- The bytes of a text, and where its marks begin. Marks are statements (the end of an `again` is one more), expressions and the
-- items of brackets.
use Rattle.std.specs.Prelude.{ℕ, suc, ◌-◌, List, [], ◌∷◌}

-- no mark begins at this byte; one does; an `again` does; the end of an `again` does
pub data Flag : Type 0 where
  inside : Flag
  begins : Flag
  opens : Flag
  closes : Flag

pub data Letter : Type 0 where
  letter : Flag → ℕ → Letter

abbrev pub plain : ℕ → Letter
plain b = letter inside b

abbrev pub byte_of : Letter → ℕ
byte_of (letter x b) = b

unfoldable pub bytes : List Letter → List ℕ
bytes [] = []
bytes (x ∷ f) = byte_of x ∷ bytes f

-- some bytes, and then more
unfoldable pub plains : List ℕ → List Letter → List Letter
plains [] r = r
plains (b ∷ bs) r = plain b ∷ plains bs r

-- the same, the first of them flagged
unfoldable pub flagged : Flag → List ℕ → List Letter → List Letter
unfolding plains
flagged x [] r = r
flagged x (b ∷ bs) r = letter x b ∷ plains bs r

-- how many marks have begun, and how many agains are open
pub record Tally : Type 0 where
  pub marks : ℕ
  pub level : ℕ

abbrev pub nothing : Tally
nothing = record { marks = 0; level = 0 }

unfoldable pub tally_flag : Flag → Tally → Tally
tally_flag inside c = c
tally_flag begins c = record { marks = suc c.marks; level = c.level }
tally_flag opens c = record { marks = suc c.marks; level = suc c.level }
tally_flag closes c = record { marks = suc c.marks; level = c.level - 1 }

abbrev pub flag_of : Letter → Flag
flag_of (letter x b) = x

unfoldable pub tally_from : Tally → List Letter → Tally
unfolding tally_flag
tally_from c [] = c
tally_from c (x ∷ f) = tally_from (tally_flag (flag_of x) c) f

unfoldable pub tally : List Letter → Tally
unfolding tally_from
tally f = tally_from nothing f
