-- When two arrays can be joined, and where the places of the outcome lead.
use Rattle.std.proofs.Common.{◌≡◌, ℕ, ◌+◌, ◌-◌, ◌<◌, ◌≤◌, Bool, true, false, ◌&&◌, eqb, ltb, List, length, get_or, set, sym, refl, ap, ◌∙◌, arith, length-set}
use Rattle.std.proofs.lemmas.Bool.{and_parts, and_left, eqb-true, eq-eqb, ne_eqb, ltb-true}
use Rattle.semantics.specs.Shapes.{In, same, without}
use Rattle.semantics.specs.Arrays.{Array, can_join, join_length}
use Rattle.semantics.proofs.Places.{Inside, inside_in, in_inside, length_inside}
use Rattle.semantics.proofs.Inside.{same_true, inside_first, inside_second, joined_below}

module _ (x : ℕ) (a b : Array ℕ) where
  pub not_joinable : (length a.shape ≡ length b.shape → ⊥) → can_join x a b ≡ false
  unfolding can_join
  not_joinable n = and_left _ _ (ne_eqb _ _ n)

  -- by the lengths but for the axis, and the sum along it
  pub joinable_by : (t : Bool) (n : ℕ) → length a.shape ≡ length b.shape → t ≡ same (without x a.shape) (without x b.shape) → n ≡ get_or a.shape x 0 + get_or b.shape x 0 → (t && ltb n 4294967296) ≡ can_join x a b
  unfolding can_join join_length
  joinable_by t n l e f =
      ap (λ u. u && ltb n 4294967296) e
      ∙ (ap (λ m. same (without x a.shape) (without x b.shape) && ltb m 4294967296) f
      ∙ ap (λ u. u && (same (without x a.shape) (without x b.shape) && ltb (get_or a.shape x 0 + get_or b.shape x 0) 4294967296)) (sym (eq-eqb (length a.shape) (length b.shape) l)))

  pub record Joins : Type 0 where
    pub ranks : length a.shape ≡ length b.shape
    pub others : without x a.shape ≡ without x b.shape
    pub fits : get_or a.shape x 0 + get_or b.shape x 0 < 4294967296

  pub joins_from : can_join x a b ≡ true → Joins
  unfolding can_join join_length
  joins_from e =
      let p = and_parts (eqb (length a.shape) (length b.shape)) _ e in
      let q = and_parts (same (without x a.shape) (without x b.shape)) _ p.1 in
      record { ranks = eqb-true _ _ p.0; others = same_true _ _ q.0; fits = ltb-true _ _ q.1 }

  pub join_length_is : join_length x a b ≡ get_or a.shape x 0 + get_or b.shape x 0
  unfolding join_length
  join_length_is = refl

  module _ (is : List ℕ) (there : x < length a.shape) (can : can_join x a b ≡ true) (inside : In (set a.shape x (join_length x a b)) is) where
    placed : Inside (set a.shape x (join_length x a b)) is
    placed = inside_in _ _ inside

    pub axis_there : x < length is
    axis_there = omega (arith, length_inside placed, length-set a.shape x (join_length x a b))

    pub in_left : get_or is x 0 < get_or a.shape x 0 → In a.shape is
    in_left l = in_inside (inside_first a.shape is x (join_length x a b) placed l)

    pub in_right : (j : ℕ) → j ≡ get_or is x 0 - get_or a.shape x 0 → get_or a.shape x 0 ≤ get_or is x 0 → In b.shape (set is x j)
    in_right j e l =
        let c = joins_from can in
        let low = joined_below a.shape is x (join_length x a b) there placed in
        in_inside (inside_second a.shape b.shape is x (join_length x a b) j c.ranks c.others placed (omega (arith, join_length_is)))
