-- When an array can be put into a part.
use Rattle.std.proofs.Common.{◌≡◌, ℕ, true, false, ◌&&◌, List, Option, Some, None, sym, ap, ◌∙◌, subst}
use Rattle.std.specs.Option.{MatchOption, option_eq}
use Rattle.std.proofs.lemmas.Bool.{and_parts, and_left}
use Rattle.semantics.specs.Shapes.{same}
use Rattle.semantics.specs.Broadcast.{fit, wide}
use Rattle.semantics.specs.Parts.{Part, part_shape, in_parts, which_one}
use Rattle.semantics.specs.Arrays.{Array, can_put}
use Rattle.semantics.proofs.Places.{in_inside}
use Rattle.semantics.proofs.Inside.{Spreads, spreads_right, same_true, inside_which_one}
use Rattle.encoding.specs.declared.shape.Shape.{Shape}
use Rattle.encoding.specs.ShapeOf.{shape_of}
use Rattle.reference.specs.Broadcasts.{Reaches}
use Rattle.reference.proofs.Broadcasting.{reaches}

module _ (ps : List Part) (b : Array ℕ) where
  pub not_put : (s : List ℕ) → s ≡ part_shape ps → fit s b.shape ≡ false → can_put ps b ≡ false
  unfolding can_put
  not_put s e f = and_left _ _ (ap (λ t. fit t b.shape) (sym e) ∙ f)

  pub put_by : (s w : List ℕ) → s ≡ part_shape ps → (fit s b.shape ≡ true) × (w ≡ wide s b.shape) → same w s ≡ can_put ps b
  unfolding can_put
  put_by s w e v =
      ap (λ t. same t s) v.1
      ∙ (ap (λ t. same (wide t b.shape) t) e
      ∙ ap (λ c. c && same (wide (part_shape ps) b.shape) (part_shape ps)) (sym v.0 ∙ ap (λ t. fit t b.shape) e))

  -- what two are broadcast to, if they fit together, beside the shape of the part
  pub put_as : (s : Shape) (w : Option Shape) → shape_of s ≡ part_shape ps →
      MatchOption w (fit (shape_of s) b.shape ≡ false) (λ v. (fit (shape_of s) b.shape ≡ true) × (shape_of v ≡ wide (shape_of s) b.shape)) →
      option_eq (λ v t. same (shape_of v) (shape_of t)) w (Some s) ≡ can_put ps b
  put_as s None e f = sym (not_put (shape_of s) e f)
  put_as s (Some v) e f = put_by (shape_of s) (shape_of v) e f

  -- where a place of the part leads
  pub put_reaches : (is : List ℕ) → can_put ps b ≡ true → in_parts ps is ≡ true → Reaches b.shape (which_one ps is)
  unfolding can_put
  put_reaches is c h =
      let p = and_parts (fit (part_shape ps) b.shape) _ c in
      let spread = subst (λ w. Spreads b.shape w) (same_true _ _ p.1) (spreads_right (part_shape ps) b.shape p.0) in
      reaches spread (in_inside (inside_which_one ps is h))
