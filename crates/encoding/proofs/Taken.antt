-- A word of bytes that were taken out is the word where they stood.
use Rattle.std.proofs.Common.{◌≡◌, ℕ, ◌+◌, ◌-◌, ◌<◌, List, get_or, take, drop, ap, ◌∙◌, arith}
use Rattle.std.specs.Prelude.{slice_range}
use Rattle.std.specs.Int.{w32, w64, from_le_bytes}
use Rattle.std.proofs.lemmas.List.{get_or-take, get_or-drop}
use Rattle.encoding.specs.Words.{word4, word8}

module _ (bs : List ℕ) (i : ℕ) where
  stands : (n k m : ℕ) → k < n → i + k ≡ m → get_or (slice_range bs i (i + n)) k 0 ≡ get_or bs m 0
  stands n k m h e =
      let size : i + n - i ≡ n = omega arith in
      ap (λ l. get_or (take l (drop i bs)) k 0) size ∙ (get_or-take n (drop i bs) k 0 h ∙ (get_or-drop i bs k 0 ∙ ap (λ j. get_or bs j 0) e))

  pub word4_taken : from_le_bytes w32 (slice_range bs i (i + 4)) ≡ word4 bs i
  unfolding word4
  word4_taken =
      let e = stands 4 in
      omega (arith, e 0 i (omega arith) (omega arith), e 1 (i + 1) (omega arith) (omega arith), e 2 (i + 2) (omega arith) (omega arith), e 3 (i + 3) (omega arith) (omega arith))

  pub word8_taken : from_le_bytes w64 (slice_range bs i (i + 8)) ≡ word8 bs i
  unfolding word8
  word8_taken =
      let e = stands 8 in
      omega (
        arith,
        e 0 i (omega arith) (omega arith),
        e 1 (i + 1) (omega arith) (omega arith),
        e 2 (i + 2) (omega arith) (omega arith),
        e 3 (i + 3) (omega arith) (omega arith),
        e 4 (i + 4) (omega arith) (omega arith),
        e 5 (i + 5) (omega arith) (omega arith),
        e 6 (i + 6) (omega arith) (omega arith),
        e 7 (i + 7) (omega arith) (omega arith),
      )
