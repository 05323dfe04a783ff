-- Rows looked up one number after the other.
use Rattle.std.proofs.Common.{◌≡◌, ℕ, zero, suc, ◌+◌, ◌-◌, ◌<◌, ◌≤◌, true, false, ◌&&◌, ltb, List, [], ◌∷◌, ◌++◌, length, get_or, drop, vec_items, sym, ap, ◌∙◌, subst, inl, inr, add-one, arith}
use Rattle.std.specs.List.{list_all}
use Rattle.std.proofs.lemmas.List.{drop_more, drop_all}
use Rattle.std.proofs.lemmas.Bool.{and_parts, ltb-true, lt-ltb, le-ltb, cases_lt}
use Rattle.semantics.specs.Shapes.{size, flat, unflat, up_to}
use Rattle.semantics.specs.Arrays as meaning
use Rattle.semantics.specs.Arrays.{Numbers, all_below, rows_there}
use Rattle.semantics.proofs.Places.{Inside, axis, unflat_flat, flat_unflat, flat_below}
use Rattle.semantics.proofs.Inside.{inside_drop}
use Rattle.encoding.specs.ShapeOf.{shape_of}
use Rattle.reference.specs.declared.array.Array.{Array}
use Rattle.reference.specs.ArrayOf.{array_of}

-- the number of a place, by its number
pub at_number : (a : Array) (n : ℕ) → n < size (shape_of a.shape) → (array_of a).at (unflat (shape_of a.shape) n) ≡ get_or (vec_items a.numbers) n 0
at_number a n h = ap (λ m. get_or (vec_items a.numbers) m 0) (flat_unflat (shape_of a.shape) n h)

-- whether the numbers from the nth on are below d, one after another
module _ (z : Numbers ℕ) (b : Array) (d n count : ℕ) (counted : count ≡ size (shape_of b.shape)) where
  below_step : n < count → all_below z (array_of b) d (up_to n (count - n)) ≡ (ltb (z.index (get_or (vec_items b.numbers) n 0)) d && all_below z (array_of b) d (up_to (n + 1) (count - (n + 1))))
  unfolding all_below up_to
  below_step h =
      let one : count - n ≡ suc (count - (n + 1)) = omega arith in
      ap (λ m. all_below z (array_of b) d (up_to n m)) one
      ∙ (ap (λ x. ltb (z.index x) d && all_below z (array_of b) d (up_to (suc n) (count - (n + 1)))) (at_number b n (omega arith))
      ∙ ap (λ m. ltb (z.index (get_or (vec_items b.numbers) n 0)) d && all_below z (array_of b) d (up_to m (count - (n + 1)))) (sym (add-one n)))

  pub below_more : n < count → z.index (get_or (vec_items b.numbers) n 0) < d → all_below z (array_of b) d (up_to n (count - n)) ≡ all_below z (array_of b) d (up_to (n + 1) (count - (n + 1)))
  below_more h l = below_step h ∙ ap (λ t. t && all_below z (array_of b) d (up_to (n + 1) (count - (n + 1)))) (lt-ltb _ d l)

  pub below_none : n < count → d ≤ z.index (get_or (vec_items b.numbers) n 0) → all_below z (array_of b) d (up_to n (count - n)) ≡ false
  below_none h l = below_step h ∙ ap (λ t. t && all_below z (array_of b) d (up_to (n + 1) (count - (n + 1)))) (le-ltb _ d l)

  pub below_end : count ≤ n → all_below z (array_of b) d (up_to n (count - n)) ≡ true
  unfolding all_below up_to
  below_end h = let none : count - n ≡ 0 = omega arith in ap (λ m. all_below z (array_of b) d (up_to n m)) none

  pub below_all : n ≡ 0 → (a : Array) → d ≡ get_or (shape_of a.shape) 0 0 → all_below z (array_of b) d (up_to n (count - n)) ≡ rows_there z (array_of a) (array_of b)
  unfolding rows_there
  below_all none a e =
      let all : count - n ≡ size (shape_of b.shape) = omega arith in
      ap (λ m. all_below z (array_of b) d (up_to m (count - n))) none
      ∙ (ap (λ m. all_below z (array_of b) d (up_to 0 m)) all ∙ ap (λ x. all_below z (array_of b) x (up_to 0 (size (shape_of b.shape)))) e)

below_at : (z : Numbers ℕ) (a : meaning.Array ℕ) (d i m n : ℕ) → all_below z a d (up_to i m) ≡ true → i ≤ n → n < i + m → z.index (a.at (unflat a.shape n)) < d
unfolding all_below up_to
below_at z a d i zero n e l h = absurd (omega arith)
below_at z a d i (suc m) n e l h =
    let both = and_parts (ltb (z.index (a.at (unflat a.shape i))) d) (all_below z a d (up_to (suc i) m)) e in
    here both.0 (below_at z a d (suc i) m n both.1)
  where
    here : ltb (z.index (a.at (unflat a.shape i))) d ≡ true → (suc i ≤ n → n < suc i + m → z.index (a.at (unflat a.shape n)) < d) → z.index (a.at (unflat a.shape n)) < d
    here p later =
        elim (cases_lt i n) [
          | inl before ↦ later (omega arith) (omega arith)
          | inr not-before ↦ let same : i ≡ n = omega arith in subst (λ k. z.index (a.at (unflat a.shape k)) < d) same (ltb-true _ d p)
        ]

-- each number that is looked up is an index of the first axis
pub row_below : (z : Numbers ℕ) (a b : Array) (is : List ℕ) → rows_there z (array_of a) (array_of b) ≡ true → Inside (shape_of b.shape) is → z.index ((array_of b).at is) < get_or (shape_of a.shape) 0 0
unfolding rows_there
row_below z a b is e h =
    subst (λ js. z.index ((array_of b).at js) < get_or (shape_of a.shape) 0 0) (unflat_flat h)
    (below_at z (array_of b) (get_or (shape_of a.shape) 0 0) 0 (size (shape_of b.shape)) (flat (shape_of b.shape) is) e (omega arith) (omega (arith, flat_below h)))

-- a row's place
pub inside_row : (i : ℕ) (s t is : List ℕ) → 0 < length s → i < get_or s 0 0 → Inside (t ++ drop 1 s) is → Inside s (i ∷ drop (length t) is)
inside_row i [] t is l b h = absurd (omega arith)
inside_row i (d ∷ s) t is l b h = axis b (inside_drop t s h)

-- all the numbers that are looked up, as they stand
module _ (z : Numbers ℕ) (b : Array) (d : ℕ) where
  below_from : (n m : ℕ) → n + m ≡ size (shape_of b.shape) → length (vec_items b.numbers) ≡ size (shape_of b.shape) → all_below z (array_of b) d (up_to n m) ≡ list_all (λ x. ltb (z.index x) d) (drop n (vec_items b.numbers))
  unfolding all_below up_to
  below_from n zero e l = ap (list_all (λ x. ltb (z.index x) d)) (sym (drop_all n (vec_items b.numbers) (omega arith)))
  below_from n (suc m) e l =
      ap (λ x. ltb (z.index x) d && all_below z (array_of b) d (up_to (suc n) m)) (at_number b n (omega arith))
      ∙ (ap (λ t. ltb (z.index (get_or (vec_items b.numbers) n 0)) d && t) (below_from (suc n) m (omega arith) l ∙ ap (λ k. list_all (λ x. ltb (z.index x) d) (drop k (vec_items b.numbers))) (sym (add-one n)))
      ∙ ap (list_all (λ x. ltb (z.index x) d)) (sym (drop_more (vec_items b.numbers) n 0 (omega arith))))

pub rows_all : (z : Numbers ℕ) (a b : Array) → rows_there z (array_of a) (array_of b) ≡ list_all (λ x. ltb (z.index x) (get_or (shape_of a.shape) 0 0)) (vec_items b.numbers)
unfolding rows_there
rows_all z a b =
    below_from z b (get_or (shape_of a.shape) 0 0) 0 (size (shape_of b.shape)) (omega arith) (omega (arith, b.numbers.ok.0, b.full))
