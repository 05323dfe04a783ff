-- The numbers of an array in the order of its places, one by one.
use Rattle.std.proofs.Common.{◌≡◌, ℕ, zero, suc, ◌+◌, ◌<◌, List, length, get_or, sym, refl, ap, ◌∙◌, add-zero, zero-add, arith}
use Rattle.std.proofs.lemmas.List.{ext_get_or}
use Rattle.semantics.specs.Shapes.{size, unflat, up_to}
use Rattle.semantics.specs.Arrays.{Array}
use Rattle.semantics.specs.Programs.{numbers_at}

module _ {Num : Type 0} (a : Array Num) where
  pub length_numbers_at : (i n : ℕ) → length (numbers_at a (up_to i n)) ≡ n
  unfolding numbers_at up_to
  length_numbers_at i zero = refl
  length_numbers_at i (suc n) = ap suc (length_numbers_at (suc i) n)

  pub get_d_numbers_at : (i n k : ℕ) (d : Num) → k < n → get_or (numbers_at a (up_to i n)) k d ≡ a.at (unflat a.shape (i + k))
  unfolding numbers_at up_to
  get_d_numbers_at i zero k d h = absurd (omega arith)
  get_d_numbers_at i (suc n) zero d h = ap (λ m. a.at (unflat a.shape m)) (sym (add-zero i))
  get_d_numbers_at i (suc n) (suc k) d h =
      get_d_numbers_at (suc i) n k d (omega arith) ∙ ap (λ m. a.at (unflat a.shape m)) (omega arith)

  -- a list is the array's numbers where it has as many as places, and at each number what the array has at that place
  pub numbers_at_is : (ns : List Num) (d : Num) → length ns ≡ size a.shape → ((k : ℕ) → k < length ns → get_or ns k d ≡ a.at (unflat a.shape k)) → numbers_at a (up_to 0 (size a.shape)) ≡ ns
  numbers_at_is ns d many each =
      ext_get_or d (numbers_at a (up_to 0 (size a.shape))) ns (length_numbers_at 0 (size a.shape) ∙ sym many)
      (λ k h.
      let low : k < size a.shape = omega (arith, length_numbers_at 0 (size a.shape)) in
      let inside : k < length ns = omega arith in
      get_d_numbers_at 0 (size a.shape) k d low ∙ (ap (λ m. a.at (unflat a.shape m)) (zero-add k) ∙ sym (each k inside)))
