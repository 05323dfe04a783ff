-- A loop over the lengths and the strides of a shape at once, from the last axis to the first.
use Rattle.std.proofs.Common.{◌≡◌, ℕ, ◌-◌, ◌<◌, Option, Some, None, List, reverse, length, get_or, ℤ, pos, ap, ◌∙◌, arith, Bor}
use Rattle.std.specs.Iterator.{Yields}
use Rattle.std.specs.Iterator.Adapters.{rev_source, rev_steps, zip_first, zip_second}
use Rattle.std.specs.List.{zip}
use Rattle.std.specs.Slice.Iter.{iter_rest, iter_steps_back}
use Rattle.std.specs.declared.iter.Zip.{Zip}
use Rattle.std.specs.declared.iter.Rev.{Rev}
use Rattle.std.proofs.Common.{Iter}
use Rattle.std.proofs.lemmas.Iterator.{YieldsList, YieldsList-from_zip, zips}
use Rattle.std.proofs.lemmas.Iterator.Adapters.{YieldsList-from_rev_slice}
use Rattle.std.proofs.lemmas.Iterator.Consumers.{YieldsList-turn, YieldsList-end}
use Rattle.std.proofs.lemmas.List.{length-reverse, get_or-reverse, get_or_default}
use Rattle.std.proofs.lemmas.Slice.Zip.{length-zip, get_or-zip}

abbrev pub Both : Type 0
Both = Zip (Rev (Iter ℕ)) (Rev (Iter ℤ))

abbrev pub steps : Both → Option (Bor ℕ × Bor ℤ) → Both → Type 0
steps = zips (rev_steps iter_steps_back) (rev_steps iter_steps_back)

module _ {s : List ℕ} {zs : List ℤ} {n : ℕ} (it : Both) (lens : length s ≡ n) (strides : length zs ≡ n) (first : iter_rest (rev_source (zip_first it)) ≡ s) (second : iter_rest (rev_source (zip_second it)) ≡ zs) where
  all_back : YieldsList {B = ℕ × ℤ} steps (λ p. (p.0.now, p.1.now)) it (zip (reverse s) (reverse zs))
  all_back = YieldsList-from_zip (YieldsList-from_rev_slice s first) (YieldsList-from_rev_slice zs second)

  length_back : length (zip (reverse s) (reverse zs)) ≡ n
  length_back = omega (arith, length-zip (reverse s) (reverse zs), length-reverse s, length-reverse zs)

  -- this turn's axis: the last of those that are left
  pub back_turn : (done : List (Bor ℕ × Bor ℤ)) (t u : Both) (r : Option (Bor ℕ × Bor ℤ)) (x : Bor ℕ) (z : Bor ℤ) → Yields steps it done t → r ≡ Some (x, z) → steps t r u →
      (length done < n) × (x.now ≡ get_or s (n - length done - 1) 0) × (z.now ≡ get_or zs (n - length done - 1) (pos 0))
  back_turn done t u r x z y e go =
      let k = length done in
      let here = YieldsList-turn all_back done t y r u (x, z) e go in
      let low : k < n = omega (arith, here.0, length_back) in
      let in_s : k < length s = omega arith in
      let in_zs : k < length zs = omega arith in
      let in_rs : k < length (reverse s) = omega (arith, length-reverse s) in
      let in_rzs : k < length (reverse zs) = omega (arith, length-reverse zs) in
      let at_s : length s - 1 - k ≡ n - k - 1 = omega arith in
      let at_zs : length zs - 1 - k ≡ n - k - 1 = omega arith in
      let there_s : n - k - 1 < length s = omega arith in
      let there_zs : n - k - 1 < length zs = omega arith in
      let pair = here.1 ∙ get_or-zip (reverse s) (reverse zs) k (x.now, z.now) in_rs in_rzs in (
        low,
        ap (λ p. p.0) pair ∙ (get_or-reverse s k x.now in_s ∙ (ap (λ j. get_or s j x.now) at_s ∙ get_or_default s (n - k - 1) x.now 0 there_s)),
        ap (λ p. p.1) pair ∙ (get_or-reverse zs k z.now in_zs ∙ (ap (λ j. get_or zs j z.now) at_zs ∙ get_or_default zs (n - k - 1) z.now (pos 0) there_zs)),
      )

  -- at the end no axis is left
  pub back_end : (done : List (Bor ℕ × Bor ℤ)) (t u : Both) (r : Option (Bor ℕ × Bor ℤ)) → Yields steps it done t → r ≡ None → steps t r u → length done ≡ n
  back_end done t u r y e go = (YieldsList-end all_back done t y r u e go).1 ∙ length_back
